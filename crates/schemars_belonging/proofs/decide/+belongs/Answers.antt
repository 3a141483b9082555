-- Each part answers what its contract says.
use Rattle.std.proofs.Common.{◌≡◌, ◌∙◌, ◌+◌, ◌-◌, ◌++◌, ◌∷◌, [], suc, drop, get_or, List, Bool, true, false, sym, ap, map, arith, Option}
use Rattle.schemars_belonging.proofs.Words.{◌&&◌, not, if◌then◌else◌, on_ok_weaker, drop_more, Members, view, items_view, members_view, iter_rest, Text, Variant, fields_of, flattened_of, payload_of, variant_of, internal_payload_of, internal_variant_of, internal_view, adjacent_view, effective, flattened_in, flattened_enums, part_enums, VariantMatch, every_member, exactly_one, has_each, must_have, holds, are_members, external_choice, internal_choice, is_tagged_map, tagged_fields, has_member, has_members, is_text, each_of, has_external, has_adjacent, Given, asked, bare, payload_in, variant_in, field_given, tag_given, has_beside_of, has_fields_of, has, offers, has_payload_of, given_of, member_of, member_says, allows, variants_in, claims, all_claims, external_claims, internal_claims, fits_of, one_of_seen, nil_from_length}
use Rattle.serde_json.specs.declared.value.Value.{Value}
use Rattle.serde_json.proofs.Views.{Entry}
use Rattle.schemars_shapes.specs.declared.variant.Variant as src
use Rattle.schemars_shapes.specs.declared.variant.InternalVariant as inside
use Rattle.schemars_belonging.proofs.Rows.{has_none, has_row, has_no_row, offers_none, offers_row, offers_no_row, claims_row, claims_no_row, adds_nothing, answered}
use Rattle.schemars_belonging.proofs.Members.{says_given, says_other, each_given, beside_given, beside_none, each_beside}
use Rattle.schemars_belonging.proofs.Variants.{external_unit, external_other, adjacent_unit, adjacent_other}
use Rattle.schemars_belonging.proofs.Offers.{next_enum, next_enum_claims, next_claims}
use Rattle.schemars_belonging.proofs.Fitting.{fields_mean, tagged_mean, alone_mean, fields_fit}
use Rattle.schemars_belonging.proofs.decide.+belongs.Goals as goal

pub row-returns-then-left-eq0 : goal.row-returns-then-left-eq0
row-returns-then-left-eq0 g t c =
    let a = asked c.args.t.now.types.now c.args.t.now.contract (g.P.Patterns.reading c.args.t.now.patterns.now) in
    let v = view c.args.value.now in
    sym (ap (λ k. has a k c.args.n v) c.if-left-eq0.true ∙ has_none a c.args.n v)

pub row-returns-in-Some : goal.row-returns-in-Some
row-returns-in-Some g t c =
    let a = asked c.args.t.now.types.now c.args.t.now.contract (g.P.Patterns.reading c.args.t.now.patterns.now) in
    let v = view c.args.value.now in
    let one : suc (c.args.left - 1) ≡ c.args.left = omega arith in
    answered c.shape.result _ _ (sym (has_row a c.args.n v c.args.left (c.args.left - 1) _ one c.in-Some.ensures)) c.shape.ensures

pub row-returns-in-None : goal.row-returns-in-None
row-returns-in-None g t c =
    let a = asked c.args.t.now.types.now c.args.t.now.contract (g.P.Patterns.reading c.args.t.now.patterns.now) in
    let v = view c.args.value.now in
    let one : suc (c.args.left - 1) ≡ c.args.left = omega arith in
    sym (has_no_row a c.args.n v c.args.left (c.args.left - 1) one c.in-None.ensures)

pub maps::one_member-returns-in-Some : goal.maps::one_member-returns-in-Some
maps::one_member-returns-in-Some g t c =
    let a = asked c.args.t.now.types.now c.args.t.now.contract (g.P.Patterns.reading c.args.t.now.patterns.now) in
    let v = view c.args.value.now in
    let gs = map given_of c.args.list.now in
    let others = allows c.args.closed (map (λ k. k.now) c.args.claimed.now) in
    answered c.values.result _ _ (says_given a c.args.left gs others c.args.key.now v (given_of c.in-Some.given.now)
    c.in-Some.ensures) c.values.ensures

pub maps::one_member-returns-in-None : goal.maps::one_member-returns-in-None
maps::one_member-returns-in-None g t c =
    let a = asked c.args.t.now.types.now c.args.t.now.contract (g.P.Patterns.reading c.args.t.now.patterns.now) in
    let v = view c.args.value.now in
    let gs = map given_of c.args.list.now in
    let others = allows c.args.closed (map (λ k. k.now) c.args.claimed.now) in
    c.is_allowed.ensures ∙ says_other a c.args.left gs others c.args.key.now v c.in-None.ensures

pub maps::are_members-returns : goal.maps::are_members-returns
maps::are_members-returns g t c =
    let a = asked c.args.t.now.types.now c.args.t.now.contract (g.P.Patterns.reading c.args.t.now.patterns.now) in
    let gs = map given_of c.args.list.now in
    let says = member_says (map (member_of a c.args.left) gs) (allows c.args.closed (map (λ k. k.now) c.args.claimed.now)) in
    let ms = members_view c.args.members.now.entries in
    let all : true ≡ every_member says ms =
    sym (ap (λ (es : List Entry). every_member says (members_view es)) c.in-None.ensures.steps.0) ∙ c.loop-key.invariant in
    c.has_each.ensures ∙ (sym (each_given a c.args.left gs ms) ∙ ap (λ b. b && has_each (map (member_of a c.args.left) gs) ms) all)

pub variants::one_beside-returns-in-Some : goal.variants::one_beside-returns-in-Some
variants::one_beside-returns-in-Some g t c =
    let a = asked c.args.t.now.types.now c.args.t.now.contract (g.P.Patterns.reading c.args.t.now.patterns.now) in
    let v = view c.args.value.now in
    let gs = map given_of c.args.list.now in
    let m = must_have c.args.name.now (has_payload_of a c.args.left (payload_of c.args.payload.now)) in
    answered c.values.result _ _ (beside_given a c.args.left gs m (λ k. not c.args.closed)
    c.args.key.now v (given_of c.in-Some.given.now) c.in-Some.ensures) c.values.ensures

pub variants::beside-returns : goal.variants::beside-returns
variants::beside-returns g t c =
    let a = asked c.args.t.now.types.now c.args.t.now.contract (g.P.Patterns.reading c.args.t.now.patterns.now) in
    let gs = map given_of c.args.list.now in
    let f = has_payload_of a c.args.left (payload_of c.args.payload.now) in
    let list = map (member_of a c.args.left) gs ++ must_have c.args.name.now f ∷ [] in
    let others : Text → Bool = λ k. not c.args.closed in
    let ms = members_view c.in-Some.members.now.entries in
    let all : true ≡ every_member (member_says list others) ms =
    sym (ap (λ (es : List Entry). every_member (member_says list others) (members_view es)) c.in-None.ensures.steps.0)
    ∙ c.loop-key.invariant in
    c.has_each_with.ensures ∙ (sym (each_beside a c.args.left gs c.args.name.now f ms)
    ∙ (ap (λ b. b && has_each list ms) all ∙ ap (λ (o : Option Members). holds o (are_members list others)) c.in-Some.ensures))

pub choices::choices-returns-then-left-eq0-clause-one : goal.choices::choices-returns-then-left-eq0-clause-one
choices::choices-returns-then-left-eq0-clause-one g t c =
    let a = asked c.args.t.now.types.now c.args.t.now.contract (g.P.Patterns.reading c.args.t.now.patterns.now) in
    let v = view c.args.value.now in
    sym (ap (λ k. exactly_one (fits_of (offers a k c.args.n v))) c.if-left-eq0.true
    ∙ ap (λ (cs : List VariantMatch). exactly_one (fits_of cs)) (offers_none a c.args.n v))

pub choices::choices-returns-then-left-eq0-clause-claimed : goal.choices::choices-returns-then-left-eq0-clause-claimed
choices::choices-returns-then-left-eq0-clause-claimed g t c =
    let a = asked c.args.t.now.types.now c.args.t.now.contract (g.P.Patterns.reading c.args.t.now.patterns.now) in
    let v = view c.args.value.now in
    adds_nothing _ (claims a c.args.left c.args.n v) (ap (λ k. claims a k c.args.n v) c.if-left-eq0.true)

pub choices::choices-returns-in-Some-clause-one : goal.choices::choices-returns-in-Some-clause-one
choices::choices-returns-in-Some-clause-one g t c =
    let a = asked c.args.t.now.types.now c.args.t.now.contract (g.P.Patterns.reading c.args.t.now.patterns.now) in
    let v = view c.args.value.now in
    let one : suc (c.args.left - 1) ≡ c.args.left = omega arith in
    answered c.shape_choices.result _ _ (ap (λ (cs : List VariantMatch). exactly_one (fits_of cs))
    (sym (offers_row a c.args.n v c.args.left (c.args.left - 1) _ one c.in-Some.ensures))) c.shape_choices.ensures.one

pub choices::choices-returns-in-Some-clause-claimed : goal.choices::choices-returns-in-Some-clause-claimed
choices::choices-returns-in-Some-clause-claimed g t c =
    let a = asked c.args.t.now.types.now c.args.t.now.contract (g.P.Patterns.reading c.args.t.now.patterns.now) in
    let v = view c.args.value.now in
    let one : suc (c.args.left - 1) ≡ c.args.left = omega arith in
    on_ok_weaker c.shape_choices.result
    (λ h. h ∙ ap (λ (ts : List Text). map (λ k. k.now) c.args.claimed.now.items ++ ts)
    (sym (claims_row a c.args.n v c.args.left (c.args.left - 1) _ one c.in-Some.ensures))) c.shape_choices.ensures.claimed

pub choices::choices-returns-in-None-clause-one : goal.choices::choices-returns-in-None-clause-one
choices::choices-returns-in-None-clause-one g t c =
    let a = asked c.args.t.now.types.now c.args.t.now.contract (g.P.Patterns.reading c.args.t.now.patterns.now) in
    let v = view c.args.value.now in
    let one : suc (c.args.left - 1) ≡ c.args.left = omega arith in
    sym (ap (λ (cs : List VariantMatch). exactly_one (fits_of cs)) (offers_no_row a c.args.n v c.args.left
    (c.args.left - 1) one c.in-None.ensures))

pub choices::choices-returns-in-None-clause-claimed : goal.choices::choices-returns-in-None-clause-claimed
choices::choices-returns-in-None-clause-claimed g t c =
    let a = asked c.args.t.now.types.now c.args.t.now.contract (g.P.Patterns.reading c.args.t.now.patterns.now) in
    let v = view c.args.value.now in
    let one : suc (c.args.left - 1) ≡ c.args.left = omega arith in
    adds_nothing _ (claims a c.args.left c.args.n v) (claims_no_row a c.args.n v c.args.left (c.args.left - 1) one c.in-None.ensures)

pub shape-returns-in-Struct : goal.shape-returns-in-Struct
shape-returns-in-Struct g t c =
    let a = asked c.args.t.now.types.now c.args.t.now.contract (g.P.Patterns.reading c.args.t.now.patterns.now) in
    let v = view c.args.value.now in
    rw c.in-Struct.is (answered c.has_fields.result _ _ (fields_mean a c.args.left (fields_of c.in-Struct.fields) v) c.has_fields.ensures)

pub variants::payload-returns-in-Struct : goal.variants::payload-returns-in-Struct
variants::payload-returns-in-Struct g t c =
    let a = asked c.args.t.now.types.now c.args.t.now.contract (g.P.Patterns.reading c.args.t.now.patterns.now) in
    let v = view c.args.value.now in
    rw c.in-Struct.is (answered c.has_fields.result _ _ (fields_mean a c.args.left (fields_of c.in-Struct.fields) v) c.has_fields.ensures)

pub maps::has_member-returns : goal.maps::has_member-returns
maps::has_member-returns g t c =
    let a = asked c.args.t.now.types.now c.args.t.now.contract (g.P.Patterns.reading c.args.t.now.patterns.now) in
    let v = view c.args.value.now in
    answered c.is_map_of.result _ _
    (ap (λ (x : Given). has_members (member_of a c.args.left x ∷ []) (λ k. not c.args.closed) v) c.needed.ensures) c.is_map_of.ensures

pub maps::one_of-returns : goal.maps::one_of-returns
maps::one_of-returns g t c =
    c.one_of_two.ensures ∙ (λ i. exactly_one (c.in_ok-is_first.ensures i ∷ c.in_ok-is_second.ensures i ∷ []))

pub maps::bound-returns : goal.maps::bound-returns
maps::bound-returns g t c =
    c.one_of_three.ensures
    ∙ (λ i. exactly_one (c.in_ok-is_included.ensures i ∷ c.in_ok-is_excluded.ensures i ∷ c.is_text-is_unbounded.ensures i ∷ []))

pub maps::range-returns : goal.maps::range-returns
maps::range-returns g t c =
    let a = asked c.args.t.now.types.now c.args.t.now.contract (g.P.Patterns.reading c.args.t.now.patterns.now) in
    let v = view c.args.value.now in
    answered c.is_map_of.result _ _
    (λ i. has_members (member_of a c.args.left (c.needed.ensures i) ∷ member_of a c.args.left (c.needed-2.ensures i) ∷ []) (λ k. true) v)
    c.is_map_of.ensures

pub variants::tag_alone-returns : goal.variants::tag_alone-returns
variants::tag_alone-returns g t c =
    let a = asked c.args.t.now.types.now c.args.t.now.contract (g.P.Patterns.reading c.args.t.now.patterns.now) in
    let v = view c.args.value.now in
    answered c.is_map_of.result _ _
    (ap (λ (x : Given). has_members (member_of a c.args.left x ∷ []) (λ k. not c.args.closed) v) c.tag_given.ensures) c.is_map_of.ensures

pub variants::tag_beside-returns : goal.variants::tag_beside-returns
variants::tag_beside-returns g t c =
    let a = asked c.args.t.now.types.now c.args.t.now.contract (g.P.Patterns.reading c.args.t.now.patterns.now) in
    let v = view c.args.value.now in
    answered c.beside.result _ _
    (ap (λ (x : Given). has_beside_of a c.args.left (x ∷ []) c.args.content.now (payload_of c.args.payload.now)
    c.args.closed v) c.tag_given.ensures)
    c.beside.ensures

pub internal::has_tagged-returns : goal.internal::has_tagged-returns
internal::has_tagged-returns g t c =
    let a = asked c.args.t.now.types.now c.args.t.now.contract (g.P.Patterns.reading c.args.t.now.patterns.now) in
    let v = view c.args.value.now in
    let x = fields_of c.args.fields.now in
    answered c.has_fields.result _ _
    (ap (λ (y : Given). has_fields_of a c.args.left (y ∷ []) x v) c.tag_given.ensures
    ∙ tagged_mean a c.args.left x v c.args.tag.now c.args.name.now) c.has_fields.ensures

pub choices::tagged_fields-returns : goal.choices::tagged_fields-returns
choices::tagged_fields-returns g t c =
    let a = asked c.args.t.now.types.now c.args.t.now.contract (g.P.Patterns.reading c.args.t.now.patterns.now) in
    let v = view c.args.value.now in
    let x = fields_of c.args.fields.now in
    let rest = map (field_given true a.contract) (effective (flattened_in a.rows) x) in
    answered c.is_map_of.result _ _
    (alone_mean a c.args.left x v c.args.tag.now c.args.name.now (map given_of c.deref.result.now)
    (ap (λ gs. map given_of gs) c.deref.ensures.value ∙ (c.in_ok-list.ensures ∙ ap (λ (y : Given). y ∷ rest) c.tag_given.ensures)))
    c.is_map_of.ensures

pub variants::external-returns-then-is_unit : goal.variants::external-returns-then-is_unit
variants::external-returns-then-is_unit g t c =
    let a = asked c.args.t.now.types.now c.args.t.now.contract (g.P.Patterns.reading c.args.t.now.patterns.now) in
    let v = view c.args.value.now in
    c.is_text.ensures ∙ external_unit a c.args.left c.args.name.now (payload_of c.args.payload.now) v (sym c.is_unit.ensures
    ∙ c.if-is_unit.true)

pub variants::external-returns : goal.variants::external-returns
variants::external-returns g t c =
    let a = asked c.args.t.now.types.now c.args.t.now.contract (g.P.Patterns.reading c.args.t.now.patterns.now) in
    let v = view c.args.value.now in
    answered c.beside.result _ _ (external_other a c.args.left c.args.name.now (payload_of c.args.payload.now) v
    (sym c.is_unit.ensures ∙ c.if-is_unit.false))
    c.beside.ensures

pub variants::adjacent-returns-then-is_unit : goal.variants::adjacent-returns-then-is_unit
variants::adjacent-returns-then-is_unit g t c =
    let a = asked c.args.t.now.types.now c.args.t.now.contract (g.P.Patterns.reading c.args.t.now.patterns.now) in
    let v = view c.args.value.now in
    let view_of = adjacent_view c.args.x.now in
    let p = payload_of c.args.payload.now in
    let name = c.args.name.now in
    answered c.tag_alone.result _ _
    (ap (λ (k : Text). has_member k (is_text name) view_of.2 v) c.as_str-tag.ensures.value
    ∙ adjacent_unit a c.args.left view_of.0 view_of.1 view_of.2 name p v (sym c.is_unit.ensures ∙ c.if-is_unit.true)) c.tag_alone.ensures

pub variants::adjacent-returns : goal.variants::adjacent-returns
variants::adjacent-returns g t c =
    let a = asked c.args.t.now.types.now c.args.t.now.contract (g.P.Patterns.reading c.args.t.now.patterns.now) in
    let v = view c.args.value.now in
    let view_of = adjacent_view c.args.x.now in
    let p = payload_of c.args.payload.now in
    let name = c.args.name.now in
    answered c.tag_beside.result _ _
    ((λ i. has_beside_of a c.args.left (tag_given (c.as_str-tag.ensures.value i) name ∷ [])
    (c.as_str-content.ensures.value i) p view_of.2 v)
    ∙ adjacent_other a c.args.left view_of.0 view_of.1 view_of.2 name p v (sym c.is_unit.ensures ∙ c.if-is_unit.false)) c.tag_beside.ensures

pub variants::one_beside-returns-in-None : goal.variants::one_beside-returns-in-None
variants::one_beside-returns-in-None g t c =
    let a = asked c.args.t.now.types.now c.args.t.now.contract (g.P.Patterns.reading c.args.t.now.patterns.now) in
    let v = view c.args.value.now in
    let gs = map given_of c.args.list.now in
    let m = must_have c.args.name.now (has_payload_of a c.args.left (payload_of c.args.payload.now)) in
    answered c.last.result _ _ (beside_none a c.args.left gs m (λ k. not c.args.closed) c.args.key.now v c.in-None.ensures) c.last.ensures

pub variants::last-returns-then-is_same : goal.variants::last-returns-then-is_same
variants::last-returns-then-is_same g t c =
    let a = asked c.args.t.now.types.now c.args.t.now.contract (g.P.Patterns.reading c.args.t.now.patterns.now) in
    let v = view c.args.value.now in
    let p = has_payload_of a c.args.left (payload_of c.args.payload.now) v in
    answered c.payload.result _ _ (sym (ap (λ b. if b then p else not c.args.closed) (sym c.is_same.ensures
    ∙ c.if-is_same.true))) c.payload.ensures

pub variants::last-returns : goal.variants::last-returns
variants::last-returns g t c =
    let a = asked c.args.t.now.types.now c.args.t.now.contract (g.P.Patterns.reading c.args.t.now.patterns.now) in
    let v = view c.args.value.now in
    let p = has_payload_of a c.args.left (payload_of c.args.payload.now) v in
    sym (ap (λ b. if b then p else not c.args.closed) (sym c.is_same.ensures ∙ c.if-is_same.false))

pub maps::has_fields-returns : goal.maps::has_fields-returns
maps::has_fields-returns g t c =
    let a = asked c.args.t.now.types.now c.args.t.now.contract (g.P.Patterns.reading c.args.t.now.patterns.now) in
    let v = view c.args.value.now in
    let x = fields_of c.args.fields.now in
    let enums = c.in_ok-enums.ensures
    ∙ ap (λ ps. flattened_enums (part_enums a.rows) (map flattened_of ps)) c.deref.ensures.value in
    answered c.are_members.result _ _
    (fields_fit a c.args.left x v (map given_of c.args.tags.now) (members_view c.in-Some.members.now.entries)
    c.in_ok-enums.enums.items c.in-Some.ensures enums
    (map given_of c.deref-2.result.now) (map (λ k. k.now) c.deref-3.result.now)
    (sym c.if-not-fits.false ∙ c.in_ok-fits.ensures.one)
    (ap (λ ks. map (λ k. k.now) ks) c.deref-3.ensures.value ∙ (c.in_ok-fits.ensures.claimed
    ∙ ap (λ ks. map (λ k. k.now) ks ++ all_claims a c.args.left c.in_ok-enums.enums.items v) c.new-claimed.ensures.items))
    (ap (λ gs. map given_of gs) c.deref-2.ensures.value ∙ c.in_ok-list.ensures)) c.are_members.ensures

pub lists::each_of-returns-in_default : goal.lists::each_of-returns-in_default
lists::each_of-returns-in_default g t c =
    let a = asked c.args.t.now.types.now c.args.t.now.contract (g.P.Patterns.reading c.args.t.now.patterns.now) in
    let P = has a c.args.left in
    let ns = c.args.rows.now in
    let i = c.loop-n.n-index in
    let rest = drop (i + 1) ns in
    let here = drop_more ns i 0 c.loop-n-test.true in
    let none = nil_from_length (iter_rest c.loop-n.others) c.in_default.ensures.steps.0 in
    sym (ap (λ (xs : List Value). each_of P (get_or ns i 0 ∷ rest) (items_view xs)) none)
    ∙ (sym (ap (λ ms. each_of P ms (items_view (iter_rest c.loop-n.others))) here) ∙ c.loop-n.invariant)

pub variants::variant-returns-in-Name : goal.variants::variant-returns-in-Name
variants::variant-returns-in-Name g t c =
    let a = asked c.args.t.now.types.now c.args.t.now.contract (g.P.Patterns.reading c.args.t.now.patterns.now) in
    let v = view c.args.value.now in
    let p = payload_of c.args.variant.now.payload in
    rw c.in-Name.is (answered c.external.result _ _
    (ap (λ (k : Text). has_external a.contract (has a c.args.left) (offers a c.args.left) v (variant_in a (bare k p)))
    c.as_str-name.ensures.value)
    c.external.ensures)

pub variants::variant-returns-in-Content : goal.variants::variant-returns-in-Content
variants::variant-returns-in-Content g t c =
    let a = asked c.args.t.now.types.now c.args.t.now.contract (g.P.Patterns.reading c.args.t.now.patterns.now) in
    let v = view c.args.value.now in
    let p = payload_of c.args.variant.now.payload in
    let x = adjacent_view c.in-Content.x.now in
    rw c.in-Content.is (answered c.adjacent.result _ _
    (ap (λ (k : Text). has_adjacent a.contract (has a c.args.left) (offers a c.args.left) x.0 x.1 x.2 v (variant_in a (bare k p)))
    c.as_str-name.ensures.value) c.adjacent.ensures)

-- ---- one variant more

pub choices::each_enum-loop-n-preserved : goal.choices::each_enum-loop-n-preserved
choices::each_enum-loop-n-preserved g t c =
    let a = asked c.args.t.now.types.now c.args.t.now.contract (g.P.Patterns.reading c.args.t.now.patterns.now) in
    let v = view c.args.value.now in
    let ns = c.deref-n-items.result.now in
    record {
      one = next_enum a c.args.left v ns c.loop-n.n-index _ c.loop-n-test.true c.loop-n.all c.both-all.result _ _ c.both-all.ensures
          c.in_ok-one.ensures.one c.loop-n.invariant.one;
      claims = next_enum_claims a c.args.left v ns c.loop-n.n-index _ c.loop-n-test.true (map (λ k. k.now) c.loop-n.claimed.items) _ _
          c.in_ok-one.ensures.claimed c.loop-n.invariant.claims;
    }

pub choices::external_choices-loop-variant-preserved : goal.choices::external_choices-loop-variant-preserved
choices::external_choices-loop-variant-preserved g t c =
    let a = asked c.args.t.now.types.now c.args.t.now.contract (g.P.Patterns.reading c.args.t.now.patterns.now) in
    let v = view c.args.value.now in
    let xs = c.deref-variant-items.result.now in
    let i = c.loop-variant.variant-index in
    let rest = drop (i + 1) xs in
    let here = drop_more xs i c.variant-item.result c.loop-variant-test.true ∙ ap (λ (x : src.Variant). x ∷ rest) (sym c.variant-item.is) in
    let choice = external_choice a.contract (has a c.args.left) (offers a c.args.left) v in
    let left : List src.Variant → List Variant = λ ys. variants_in a (map variant_of ys) in
    let p = payload_of c.variant-item.result.payload in
    let S = c.loop-variant.seen in
    let found = map (λ k. k.now) c.loop-variant.claimed.items in
    let fits = c.in_ok-fits.ensures ∙ ap (λ (k : Text). has_beside_of a c.args.left [] k p false v) c.as_str-name.ensures.value in
    let grown = c.in_ok-claim.ensures
    ∙ ap (λ (k : Text). found ++ (if c.in_ok-fits.fits then k ∷ [] else [])) c.as_str-name.ensures.value in
    record {
      one = c.with-seen.ensures (fits_of (map choice (left rest)))
          ∙ (ap (λ b. one_of_seen S.one S.more (b ∷ fits_of (map choice (left rest)))) fits
          ∙ (sym (ap (λ (ys : List src.Variant). one_of_seen S.one S.more (fits_of (map choice (left ys)))) here)
          ∙ c.loop-variant.invariant.one));
      claims = next_claims found _ _ (external_claims a c.args.left v (left rest)) _ c.in_ok-fits.fits _ grown fits
          (sym (ap (λ (ys : List src.Variant). found ++ external_claims a c.args.left v (left ys)) here) ∙ c.loop-variant.invariant.claims);
    }

pub choices::internal_choices-loop-variant-preserved : goal.choices::internal_choices-loop-variant-preserved
choices::internal_choices-loop-variant-preserved g t c =
    let a = asked c.args.t.now.types.now c.args.t.now.contract (g.P.Patterns.reading c.args.t.now.patterns.now) in
    let v = view c.args.value.now in
    let xs = c.deref-variant-items.result.now in
    let i = c.loop-variant.variant-index in
    let rest = drop (i + 1) xs in
    let here = drop_more xs i c.variant-item.result c.loop-variant-test.true
    ∙ ap (λ (x : inside.InternalVariant). x ∷ rest) (sym c.variant-item.is) in
    let tag = (internal_view c.args.internal.now).0 in
    let choice = internal_choice a.contract (has a c.args.left) tag v in
    let left : List inside.InternalVariant → List Variant = λ ys. variants_in a (map internal_variant_of ys) in
    let p = internal_payload_of c.variant-item.result.payload in
    let S = c.loop-variant.seen in
    let found = map (λ k. k.now) c.loop-variant.claimed.items in
    let fits = c.in_ok-fits.ensures
    ∙ (λ i. is_tagged_map a.contract (has a c.args.left) (c.as_str-tag.ensures.value i) v (variant_in a (bare
    (c.as_str-name.ensures.value i) p))) in
    let grown = c.in_ok-claim_internal.ensures
    ∙ ap (λ (k : Text). found ++ (if c.in_ok-fits.fits then k ∷ map (λ f. f.name) (tagged_fields (payload_in a p)) else []))
    c.as_str-tag.ensures.value in
    record {
      one = c.with-seen.ensures (fits_of (map choice (left rest)))
          ∙ (ap (λ b. one_of_seen S.one S.more (b ∷ fits_of (map choice (left rest)))) fits
          ∙ (sym (ap (λ (ys : List inside.InternalVariant). one_of_seen S.one S.more (fits_of (map choice (left ys)))) here)
          ∙ c.loop-variant.invariant.one));
      claims = next_claims found _ _ (internal_claims a c.args.left tag v (left rest)) _ c.in_ok-fits.fits _ grown fits
          (sym (ap (λ (ys : List inside.InternalVariant). found ++ internal_claims a c.args.left tag v (left ys)) here)
          ∙ c.loop-variant.invariant.claims);
    }
