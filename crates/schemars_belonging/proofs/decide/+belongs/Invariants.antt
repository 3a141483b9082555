-- What is left of a list decides, with what is known so far. Each call is nearer to the next row.
use Rattle.std.proofs.Common.{◌≡◌, ◌+◌, ◌*◌, ◌++◌, ◌∷◌, [], map, drop}
use Rattle.schemars_belonging.proofs.Words.{◌&&◌, not, Bool, Data, Text, list_any, iter_rest, view, items_view, members_view, by_tag, payload_of, variant_of, internal_variant_of, internal_view, key_options, is_key_allowed, enum_at, every_item, each_of, every_member, every_part, has_keys, matches_of, has_variant, external_choice, internal_choice, exactly_one, must_have, asked, has, offers, has_payload_of, variants_in, given_of, member_of, member_says, allows, all_claims, external_claims, internal_claims, fits_of, one_of_seen, tagging_of}
use Rattle.schemars_belonging.proofs.decide.+belongs.Given as goal

abbrev pub decreases-row : goal.decreases-row
decreases-row g l = 30 * l.left

abbrev pub decreases-choices::choices : goal.decreases-choices::choices
decreases-choices::choices g l = 30 * l.left

abbrev pub decreases-maps::values : goal.decreases-maps::values
decreases-maps::values g l = 30 * l.left + 1

abbrev pub decreases-or_null : goal.decreases-or_null
decreases-or_null g l = 30 * l.left + 1

abbrev pub decreases-lists::each : goal.decreases-lists::each
decreases-lists::each g l = 30 * l.left + 1

abbrev pub decreases-lists::items : goal.decreases-lists::items
decreases-lists::items g l = 30 * l.left + 2

abbrev pub decreases-lists::each_of : goal.decreases-lists::each_of
decreases-lists::each_of g l = 30 * l.left + 1

abbrev pub decreases-lists::tuple : goal.decreases-lists::tuple
decreases-lists::tuple g l = 30 * l.left + 2

abbrev pub decreases-maps::has_keys : goal.decreases-maps::has_keys
decreases-maps::has_keys g l = 30 * l.left + 1

abbrev pub decreases-internal::content : goal.decreases-internal::content
decreases-internal::content g l = 30 * l.left + 1

abbrev pub decreases-maps::one_member : goal.decreases-maps::one_member
decreases-maps::one_member g l = 30 * l.left + 2

abbrev pub decreases-maps::are_members : goal.decreases-maps::are_members
decreases-maps::are_members g l = 30 * l.left + 3

abbrev pub decreases-maps::is_map_of : goal.decreases-maps::is_map_of
decreases-maps::is_map_of g l = 30 * l.left + 4

abbrev pub decreases-maps::has_member : goal.decreases-maps::has_member
decreases-maps::has_member g l = 30 * l.left + 5

abbrev pub decreases-maps::one_of : goal.decreases-maps::one_of
decreases-maps::one_of g l = 30 * l.left + 6

abbrev pub decreases-maps::bound : goal.decreases-maps::bound
decreases-maps::bound g l = 30 * l.left + 6

abbrev pub decreases-maps::range : goal.decreases-maps::range
decreases-maps::range g l = 30 * l.left + 5

abbrev pub decreases-choices::each_enum : goal.decreases-choices::each_enum
decreases-choices::each_enum g l = 30 * l.left + 1

abbrev pub decreases-maps::has_fields : goal.decreases-maps::has_fields
decreases-maps::has_fields g l = 30 * l.left + 4

abbrev pub decreases-variants::tag_alone : goal.decreases-variants::tag_alone
decreases-variants::tag_alone g l = 30 * l.left + 5

abbrev pub decreases-internal::has_tagged : goal.decreases-internal::has_tagged
decreases-internal::has_tagged g l = 30 * l.left + 5

abbrev pub decreases-choices::tagged_fields : goal.decreases-choices::tagged_fields
decreases-choices::tagged_fields g l = 30 * l.left + 5

abbrev pub decreases-variants::payload : goal.decreases-variants::payload
decreases-variants::payload g l = 30 * l.left + 5

abbrev pub decreases-variants::last : goal.decreases-variants::last
decreases-variants::last g l = 30 * l.left + 6

abbrev pub decreases-variants::one_beside : goal.decreases-variants::one_beside
decreases-variants::one_beside g l = 30 * l.left + 7

abbrev pub decreases-variants::beside : goal.decreases-variants::beside
decreases-variants::beside g l = 30 * l.left + 8

abbrev pub decreases-variants::tag_beside : goal.decreases-variants::tag_beside
decreases-variants::tag_beside g l = 30 * l.left + 9

abbrev pub decreases-variants::external : goal.decreases-variants::external
decreases-variants::external g l = 30 * l.left + 9

abbrev pub decreases-variants::adjacent : goal.decreases-variants::adjacent
decreases-variants::adjacent g l = 30 * l.left + 10

abbrev pub decreases-variants::variant : goal.decreases-variants::variant
decreases-variants::variant g l = 30 * l.left + 11

abbrev pub decreases-variants::any_variant : goal.decreases-variants::any_variant
decreases-variants::any_variant g l = 30 * l.left + 12

abbrev pub decreases-internal::inside : goal.decreases-internal::inside
decreases-internal::inside g l = 30 * l.left + 6

abbrev pub decreases-internal::tagged_inside : goal.decreases-internal::tagged_inside
decreases-internal::tagged_inside g l = 30 * l.left + 7

abbrev pub decreases-internal::any_internal : goal.decreases-internal::any_internal
decreases-internal::any_internal g l = 30 * l.left + 8

abbrev pub decreases-choices::tagged : goal.decreases-choices::tagged
decreases-choices::tagged g l = 30 * l.left + 6

abbrev pub decreases-choices::internal_choices : goal.decreases-choices::internal_choices
decreases-choices::internal_choices g l = 30 * l.left + 7

abbrev pub decreases-choices::external_choices : goal.decreases-choices::external_choices
decreases-choices::external_choices g l = 30 * l.left + 9

abbrev pub decreases-choices::shape_choices : goal.decreases-choices::shape_choices
decreases-choices::shape_choices g l = 30 * l.left + 10

abbrev pub decreases-shape : goal.decreases-shape
decreases-shape g l = 30 * l.left + 29

abbrev pub invariant-lists::each-loop-item : goal.invariant-lists::each-loop-item
invariant-lists::each-loop-item g l =
    let a = asked l.t.types.now l.t.contract (g.P.Patterns.reading l.t.patterns.now) in
    every_item (has a l.left l.n) (items_view (drop l.item-index l.items)) ≡ every_item (has a l.left l.n) (items_view l.items)

abbrev pub invariant-lists::each_of-loop-n : goal.invariant-lists::each_of-loop-n
invariant-lists::each_of-loop-n g l =
    let a = asked l.t.types.now l.t.contract (g.P.Patterns.reading l.t.patterns.now) in
    each_of (has a l.left) (drop l.n-index l.rows) (items_view (iter_rest l.others)) ≡ each_of (has a l.left) l.rows (items_view l.items)

abbrev pub invariant-maps::are_members-loop-key : goal.invariant-maps::are_members-loop-key
invariant-maps::are_members-loop-key g l =
    let a = asked l.t.types.now l.t.contract (g.P.Patterns.reading l.t.patterns.now) in
    let says = member_says (map (member_of a l.left) (map given_of l.list)) (allows l.closed (map (λ k. k.now) l.claimed)) in
    every_member says (members_view l.key-iterator) ≡ every_member says (members_view l.members.entries)

abbrev pub invariant-maps::has_keys-loop-name : goal.invariant-maps::has_keys-loop-name
invariant-maps::has_keys-loop-name g l =
    let a = asked l.t.types.now l.t.contract (g.P.Patterns.reading l.t.patterns.now) in
    let says : Text → Data → Bool = λ k w. is_key_allowed a.patterns (key_options a.rows l.key) k && has a l.left l.n w in
    every_member says (members_view l.name-iterator) ≡ has_keys a.patterns (key_options a.rows l.key) (has a l.left l.n) (view l.value)

abbrev pub invariant-variants::beside-loop-key : goal.invariant-variants::beside-loop-key
invariant-variants::beside-loop-key g l =
    let a = asked l.t.types.now l.t.contract (g.P.Patterns.reading l.t.patterns.now) in
    let says = member_says (map (member_of a l.left) (map given_of l.list)
    ++ must_have l.name (has_payload_of a l.left (payload_of l.payload)) ∷ []) (λ k. not l.closed) in
    every_member says (members_view l.key-iterator) ≡ every_member says (members_view l.members.entries)

abbrev pub invariant-variants::any_variant-loop-variant : goal.invariant-variants::any_variant-loop-variant
invariant-variants::any_variant-loop-variant g l =
    let a = asked l.t.types.now l.t.contract (g.P.Patterns.reading l.t.patterns.now) in
    let passes = has_variant a.contract (has a l.left) (offers a l.left) (tagging_of l.by) (view l.value) in
    list_any passes (variants_in a (map variant_of (drop l.variant-index l.variant-items)))
    ≡ list_any passes (variants_in a (map variant_of l.variants.items))

abbrev pub invariant-internal::any_internal-loop-variant : goal.invariant-internal::any_internal-loop-variant
invariant-internal::any_internal-loop-variant g l =
    let a = asked l.t.types.now l.t.contract (g.P.Patterns.reading l.t.patterns.now) in
    let passes = has_variant a.contract (has a l.left) (offers a l.left) (by_tag (internal_view l.internal).0 (internal_view l.internal).1)
    (view l.value) in
    list_any passes (variants_in a (map internal_variant_of (drop l.variant-index l.variant-items)))
    ≡ list_any passes (variants_in a (internal_view l.internal).2)

abbrev pub invariant-choices::each_enum-loop-n : goal.invariant-choices::each_enum-loop-n
invariant-choices::each_enum-loop-n g l =
    let a = asked l.t.types.now l.t.contract (g.P.Patterns.reading l.t.patterns.now) in
    let v = view l.value in record {
      one : (l.all && every_part (matches_of (offers a l.left) (map enum_at (drop l.n-index l.n-items)) v))
          ≡ every_part (matches_of (offers a l.left) (map enum_at l.enums.items) v);
      claims : map (λ k. k.now) l.claimed.items ++ all_claims a l.left (drop l.n-index l.n-items) v
          ≡ map (λ k. k.now) l.fn.claimed.items ++ all_claims a l.left l.enums.items v;
    }

abbrev pub invariant-choices::external_choices-loop-variant : goal.invariant-choices::external_choices-loop-variant
invariant-choices::external_choices-loop-variant g l =
    let a = asked l.t.types.now l.t.contract (g.P.Patterns.reading l.t.patterns.now) in
    let v = view l.value in
    let choice = external_choice a.contract (has a l.left) (offers a l.left) v in record {
      one : one_of_seen l.seen.one l.seen.more
          (fits_of (map choice (variants_in a (map variant_of (drop l.variant-index l.variant-items)))))
          ≡ exactly_one (fits_of (map choice (variants_in a (map variant_of l.variants.items))));
      claims : map (λ k. k.now) l.claimed.items
          ++ external_claims a l.left v (variants_in a (map variant_of (drop l.variant-index l.variant-items)))
          ≡ map (λ k. k.now) l.fn.claimed.items ++ external_claims a l.left v (variants_in a (map variant_of l.variants.items));
    }

abbrev pub invariant-choices::internal_choices-loop-variant : goal.invariant-choices::internal_choices-loop-variant
invariant-choices::internal_choices-loop-variant g l =
    let a = asked l.t.types.now l.t.contract (g.P.Patterns.reading l.t.patterns.now) in
    let v = view l.value in
    let tag = (internal_view l.internal).0 in
    let choice = internal_choice a.contract (has a l.left) tag v in
    let left = variants_in a (map internal_variant_of (drop l.variant-index l.variant-items)) in
    let all = variants_in a (internal_view l.internal).2 in record {
      one : one_of_seen l.seen.one l.seen.more (fits_of (map choice left)) ≡ exactly_one (fits_of (map choice all));
      claims : map (λ k. k.now) l.claimed.items ++ internal_claims a l.left tag v left
          ≡ map (λ k. k.now) l.fn.claimed.items ++ internal_claims a l.left tag v all;
    }
