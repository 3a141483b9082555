-- In a table that is plain under its contract the document of each row is one that the law of 2019-09 speaks of, those of structs with
-- flattened enums too; and if no enum is flattened, one that all laws speak of.
use Rattle.std.proofs.Common.{◌≡◌, ℕ, zero, inr, List, [], ◌∷◌, ◌++◌, append_assoc, map, Option, Some, None, Bool, true, false, codes, refl, sym, ap, ◌∙◌, subst, arith}
use Rattle.schemars_headline.proofs.Words.{FlattensNoEnums, EntryFlattensNoEnums, ShapeFlattensNoEnums, HasNoEnums, VariantsHaveNoEnums, Shape, Variant, parts_in, payload_parts, variant_parts, effective, flattened_in, part_enums, flattened_enums, enum_at, matches_of, choices_within, both_empty, bytes_eq-Decides, bytes_eq, if◌then◌else◌, Data, null, array, object, Members, no_members, member, get_member, items_of, Text, is_listed, NoSchemas, OneSchema, SchemaList, place_under, Judge, draft2020_12, follow, context2020_12, flattened, Everywhere, demanded, asked_of_items, asked_of_keywords, AreSchemas, IsSchemaList, IsTextWith, AreSomeTypes, absent-once, Field, Flattened, Fields, Entry, Row, entry_at, Keyword, required_names, AreNoted, IsNotedThroughout, Basis, Ask, part, members_of, Template, asks_of, filled, with_flattened, struct_template, Describes, Fit, under_rows, with_same_object, with_same_objects, Context, get_member-here, get_member-later, IsNoObject, IsNoList, VariantMatch, is_required, ArePartsUnder, IsPlainContent, beside_written, IsEntryUnder, with_keywords, first, fields_template, parted, map_fills, field_keywords, IsSorted, get_member-above, Part, Parts, objects, unevaluated_beside, unevaluated_there, struct_keywords, IsForm, no_parts, IsItem, AllItems, PartsAre, OneIs, IsStruct, under_apart, struct_stands, tell_inside, IsSettled, asked, closed_there, all_there, one_there}
use Rattle.schemars_shapes.specs.Shape as shape
use Rattle.schemars_flatten.proofs.Kept as kept
use Rattle.schemars_types.specs.declared.contract.Contract.{Contract}
use Rattle.schemars_templates.specs.Template.{asked as asked_for}
use Rattle.schemars_headline.proofs.Changes.{Demand, with_rest, Class, class-of, nothing, are-put, IsGood, good}
use Rattle.schemars_headline.proofs.Documents.{map-good, fields-named}
use Rattle.schemars_headline.proofs.Held.{by_listed, by_place, Holds, HoldsList, HoldsEach, HoldsAt, holds-everywhere, held-members, flattened-holds, part-holds}
use Rattle.schemars_headline.proofs.Classes.{In, Answer, StructsGood, IsNotedUnder, each-good}

-- ---- the value of each key of members in order

asked-each : (P : Members → Type 0) (ms : Members) → IsSorted ms
    → ((k : Text) (d : Data) → get_member k ms ≡ Some d → demanded (place_under k) (asked P d)) → asked_of_keywords P ms
unfolding asked
asked-each P no_members sorted each = tt
asked-each P (member k d ms) sorted each = (
  each k d (get_member-here k d ms),
  asked-each P ms sorted.1 (λ j e found. each j e (past j e found (bytes_eq j k) refl)),
)
  where
    past : (j : Text) (e : Data) → get_member j ms ≡ Some e → (b : Bool) → bytes_eq j k ≡ b → get_member j (member k d ms) ≡ Some e
    past j e found true is =
        let name : j ≡ k = (bytes_eq-Decides j k).0 is in
        let none : None ≡ Some e = sym (ap (λ x. get_member x ms) name ∙ get_member-above k ms sorted.0) ∙ found in
        cc
    past j e found false is = get_member-later j k d ms is ∙ found

-- ---- what is beside the choices of a struct

truth_there : (b : Bool) → IsNoObject (closed_there b)
unfolding closed_there
truth_there false = tt
truth_there true = tt

no_object : (ps : Parts) (closed : Bool) → IsNoObject (unevaluated_there ps closed)
no_object ps closed = go ps.all ps.one
  where
    go : (a : List Part) (o : Option Part) → IsNoObject (unevaluated_beside a o closed)
    go [] None = tt
    go [] (Some p) = truth_there closed
    go (q ∷ a) o = truth_there closed

schemas_in : (ps : List Part) → AreSchemas (items_of (objects ps))
schemas_in [] = tt
schemas_in (p ∷ ps) = (tt, schemas_in ps)

all_list : (ps : List Part) → IsSchemaList (all_there ps)
unfolding all_there
all_list [] = tt
all_list (p ∷ ps) = schemas_in (p ∷ ps)

module _ (R : Demand) where
  abbrev C : Members → Type 0
  C = Class R

  -- the value is of the class, where what is in it is
  abbrev IsSound : Option Data → Type 0
  IsSound o = (d : Data) → o ≡ Some d → HoldsList C d → (asked C d).as_list

  -- ---- maps with choices

  module _ (es : List Keyword) (ns : List Text) (ps : Parts) (closed : Bool) (ms : Members)
      (form : IsForm (struct_keywords es ns ps closed) ms) (rest : R.rest ms) (all : IsSound (all_there ps.all)) (one : IsSound (one_there ps.one)) where
    own : Class R ms
    own =
        class-of R ms (subst (IsTextWith R.refers) (sym (form.at (codes "$ref") refl)) tt)
        (absent-once (codes "$ref") ms (form.at (codes "$ref") refl)) rest
        (subst AreSomeTypes (sym (form.at (codes "type") refl)) tt) (form.at (codes "nullable") refl) (form.at (codes "const") refl)
        (form.at (codes "enum") refl) (subst IsSchemaList (sym (form.at (codes "allOf") refl)) (all_list ps.all)) (
          absent-once (codes "prefixItems") ms (form.at (codes "prefixItems") refl),
          subst IsSchemaList (sym (form.at (codes "prefixItems") refl)) tt,
          subst IsNoList (sym (form.at (codes "items") refl)) tt,
          form.at (codes "additionalItems") refl,
          form.at (codes "contains") refl,
        ) (
          form.at (codes "exclusiveMinimum") refl,
          (
            form.at (codes "exclusiveMaximum") refl,
            (
              form.at (codes "contains") refl,
              (form.at (codes "propertyNames") refl, (form.at (codes "if") refl, (form.at (codes "dependencies") refl, tt))),
            ),
          ),
        )

    abbrev Asked : Text → Data → Type 0
    Asked k d = demanded (place_under k) (asked C d)

    missing : (k : Text) (d : Data) (Q : Type 0) → get_member k ms ≡ None → get_member k ms ≡ Some d → Q
    missing k d Q none found = let never : None ≡ Some d = sym none ∙ found in cc

    -- of the keywords with schemas of the same object, `allOf` and `oneOf` may be present
    keyword : (k : Text) (d : Data) → get_member k ms ≡ Some d → HoldsAt C k d → Asked k d
    keyword k d found held = go (is_listed k with_same_object) (is_listed k with_same_objects) refl refl held
      where
        go : (holds lists : Bool) → is_listed k with_same_object ≡ holds → is_listed k with_same_objects ≡ lists
            → by_place (if holds then OneSchema else if lists then SchemaList else NoSchemas) (Holds C d) (HoldsList C d) (Asked k d)
            → Asked k d
        go true lists is also held =
            by_listed (λ x. get_member x ms ≡ Some d → Asked x d) k with_same_object (
              missing (codes "if") d _ (form.at (codes "if") refl),
              (missing (codes "then") d _ (form.at (codes "then") refl), (missing (codes "else") d _ (form.at (codes "else") refl), tt)),
            ) is found
        go false true is also held =
            by_listed (λ x. get_member x ms ≡ Some d → HoldsList C d → Asked x d) k with_same_objects (
              λ there h. all d (sym (form.at (codes "allOf") refl) ∙ there) h,
              (
                missing (codes "anyOf") d _ (form.at (codes "anyOf") refl),
                (λ there h. one d (sym (form.at (codes "oneOf") refl) ∙ there) h, tt),
              ),
            ) also found held
        go false false is also held = held

    form-good : Holds C (object ms) → Everywhere C (object ms)
    unfolding asked
    form-good held =
        (own, asked-each C ms form.sorted (λ k d found. keyword k d found (kept.at (HoldsAt C) k ms d (held-members C ms held) found)))

  -- without choices nothing is said of the rest
  bare-rest : (es : List Keyword) (ns : List Text) (closed : Bool) (ms : Members) → IsForm (struct_keywords es ns no_parts closed) ms
      → R.rest ms
  bare-rest es ns closed ms form =
      let none : get_member (codes "unevaluatedProperties") ms ≡ None = form.at (codes "unevaluatedProperties") refl in
      R.lacking ms (
        absent-once (codes "unevaluatedProperties") ms none,
        none,
        (
          form.at (codes "minContains") refl,
          (
            form.at (codes "maxContains") refl,
            (
              form.at (codes "dependentRequired") refl,
              (
                form.at (codes "dependentSchemas") refl,
                (form.at (codes "unevaluatedItems") refl, (form.at (codes "dependencies") refl, tt)),
              ),
            ),
          ),
        ),
      )

  -- ---- choices

  no_part : IsSound (all_there [])
  unfolding all_there
  no_part d is = cc

  no_choice : IsSound (one_there None)
  unfolding one_there
  no_choice d is = cc

  module _ (c : Context) (on : c.dialect.reads_unevaluated ≡ true) (v : Data) where
    item-good : (closed : Bool) (t : Data) (o : VariantMatch) → IsItem c on closed t o v → Holds C t → Everywhere C t
    item-good closed t o i held =
        subst (Everywhere C) (sym i.is) (form-good i.es i.ns no_parts closed i.members i.form (bare-rest i.es i.ns closed i.members i.form)
        no_part no_choice (subst (Holds C) i.is held))

    items-good : (ts : List Data) (os : List VariantMatch) → AllItems c on false ts os v → HoldsEach C (items_of ts)
        → asked_of_items C (items_of ts)
    unfolding asked Holds
    items-good [] [] h held = tt
    items-good [] (o ∷ os) h held = absurd h
    items-good (t ∷ ts) [] h held = absurd h
    items-good (t ∷ ts) (o ∷ os) h held = (item-good false t o h.0 held.0, items-good ts os h.1 held.1)

    -- each under `allOf`
    objects-good : (ps : List Part) → PartsAre c on ps v → HoldsEach C (items_of (objects ps)) → asked_of_items C (items_of (objects ps))
    unfolding asked Holds
    objects-good [] h held = tt
    objects-good (p ∷ ps) h held = (
      (good R _ (are-put R (codes "oneOf") (array (items_of p.items)) no_members refl
          (items-good p.items p.choices h.0 held.0.0) (nothing R))).everywhere,
      objects-good ps h.1 held.1,
    )

    all-sound : (ps : List Part) → PartsAre c on ps v → IsSound (all_there ps)
    unfolding all_there asked Holds
    all-sound [] h d is = cc
    all-sound (p ∷ ps) h d is =
        let same : array (items_of (objects (p ∷ ps))) ≡ d = cc in
        subst (λ e. HoldsList C e → (asked C e).as_list) same (objects-good (p ∷ ps) h)

    one-sound : (o : Option Part) → OneIs c on o v → IsSound (one_there o)
    unfolding one_there asked Holds
    one-sound None h d is = cc
    one-sound (Some p) h d is =
        let same : array (items_of p.items) ≡ d = cc in
        subst (λ e. HoldsList C e → (asked C e).as_list) same (items-good p.items p.choices h)

    struct-good : (contract : Contract) (W : ℕ → Data → Type 0) (list : List Field) (matches_of : List (List VariantMatch)) (closed : Bool) (s : Data)
        → (a : IsStruct c on contract W v list matches_of closed s) → R.rest a.members → Holds C s → IsGood R s
    struct-good contract W list matches_of closed s a rest held =
        subst (IsGood R) (sym a.is) (record {
          schema = tt;
          everywhere = form-good (field_keywords list a.written) (required_names contract list) a.parts closed a.members a.form rest
              (all-sound a.parts.all a.choices.0) (one-sound a.parts.one a.choices.1) (subst (Holds C) a.is held);
        })

  -- ---- what fills templates of structs

  module _ (A : Ask → Data → Type 0) (contract : Contract) (parts : (j : ℕ) (t : Data) → A (part j) t → IsGood R t)
      (answers : (n : ℕ) (required : Bool) (t : Data) → A (members_of n required) t → Holds C t) where
    abbrev AllHold : Template → Type 0
    AllHold t = (us : List Data) → Fit A (asks_of t) us → Holds C (filled t us)

    fields-hold : (xs : List Field) (closed : Bool) → AreNoted xs → AllHold (fields_template contract xs closed)
    fields-hold xs closed noted us fit =
        let all = map_fills A xs (required_names contract xs) closed us fit in
        subst (Holds C) (sym all.2) (holds-everywhere C _
        (map-good R (field_keywords xs all.0) (required_names contract xs) closed
        (fields-named R (λ j. A (part j)) parts xs all.0 noted all.1)).everywhere)

    part-joins : (p : Flattened) (t : Template) → AllHold t
        → AllHold (with_keywords t (asked_for (members_of p.ty (is_required contract p.required))))
    part-joins p t own us fit =
        let ask : Ask = members_of p.ty (is_required contract p.required) in
        let s = parted A t (ask ∷ []) us fit in
        subst (Holds C) (λ i. flattened (sym s.4 i) (first (sym s.5 i)))
        (flattened-holds R (filled t s.0) (first s.1) (own s.0 s.2) (answered s.1 s.3))
      where
        answered : (b : List Data) → Fit A (members_of p.ty (is_required contract p.required) ∷ []) b → Holds C (first b)
        answered [] h = absurd h
        answered (u ∷ b) h = answers p.ty (is_required contract p.required) u h.0

    parts-join : (ps : List Flattened) (t : Template) → AllHold t → AllHold (with_flattened contract ps t)
    parts-join [] t own us fit = own us fit
    parts-join (p ∷ ps) t own us fit =
        parts-join ps (with_keywords t (asked_for (members_of p.ty (is_required contract p.required)))) (part-joins p t own) us fit

    struct-holds : (y : Fields) → AreNoted y.list → AllHold (struct_template contract y)
    struct-holds y noted = parts-join y.flatten (fields_template contract y.list y.closed) (fields-hold y.list y.closed noted)

-- ---- the documents of rows

module _ (R : Demand) (basis : Basis) (Refers : ℕ → Text → Type 0) (names : (j : ℕ) (r : Text) → Refers j r → R.refers r)
    (settled : IsSettled basis) where
  abbrev rows : List Row
  rows = basis.rows

  abbrev contract : Contract
  contract = basis.contract

  -- its form is the same whatever value is looked at, and wherever references lead
  nowhere : Text → Judge
  nowhere = follow draft2020_12 null [] zero

  abbrev StructOf : ℕ → Fields → Data → Type 0
  StructOf d y s = IsStruct (context2020_12 [] nowhere) refl contract (In R basis Refers names d) null (effective (flattened_in rows) y)
      (matches_of (choices_within rows contract [] 1) (map enum_at (flattened_enums (part_enums rows) y.flatten)) null) y.closed s

  -- `Under` says what may be flattened, so that of the rest of a struct is said what the class asks
  module _ (Under : List Flattened → Type 0) (apart : (ps qs : List Flattened) → Under (ps ++ qs) → Under ps × Under qs)
      (of_entry : (n : ℕ) (e : Entry) → entry_at rows n ≡ Some e → Under (parts_in e.shape))
      (parts_under : (ps : List Flattened) → Under ps → ArePartsUnder contract rows ps)
      (rests : (d : ℕ) (y : Fields) (s : Data) → Under y.flatten → (a : StructOf d y s) → R.rest a.members) where
    under-entry : (n : ℕ) (e : Entry) → entry_at rows n ≡ Some e → IsNotedUnder rows (IsPlainContent rows) Under e
    under-entry n e at =
        let entry : IsEntryUnder contract rows (Some e) = subst (IsEntryUnder contract rows) at (settled.plain n) in
        let own : IsNotedThroughout (Some e) = subst IsNotedThroughout at (under_rows contract rows settled.plain n) in
        (entry.0, (entry.1, entry.4), own.1, of_entry n e at)

    under-structs : (d : ℕ) → StructsGood R basis Refers names Under d
    under-structs d parts y noted under us fit =
        let a : StructOf d y (filled (struct_template contract y) us) =
        struct_stands [] nowhere basis Refers settled 1 (omega arith) zero
        (λ d j t w is js less. absurd (omega arith)) null tt (omega arith) 1 (omega arith) d y (inr (omega arith)) (parts_under y.flatten under)
        (tell_inside [] nowhere basis Refers settled 1 (omega arith) zero
        (λ d j t w is js less. absurd (omega arith)) null (omega arith)) us fit in
        struct-good R (context2020_12 [] nowhere) refl null contract (In R basis Refers names d) _ _ y.closed _ a (rests d y _ under a)
        (struct-holds R (Answer R basis Refers names d) contract parts
        (λ n required t h. subst (Holds (Class R)) (sym h.2)
        (part-holds R _ h.0 (holds-everywhere (Class R) h.0 (parts _ h.0 (inr h.1)).everywhere))) y noted us fit)

    described-as : (d n : ℕ) (t : Data) → Describes basis Refers d n t → IsGood R t
    described-as =
        each-good R basis Refers names (IsPlainContent rows) Under apart under-entry under-structs
        (beside_written [] nowhere basis Refers settled 1 (omega arith))

  enums_append : (ps qs : List Flattened) → flattened_enums (part_enums rows) (ps ++ qs)
      ≡ flattened_enums (part_enums rows) ps ++ flattened_enums (part_enums rows) qs
  enums_append [] qs = refl
  enums_append (p ∷ ps) qs =
      ap (λ ns. part_enums rows p ++ ns) (enums_append ps qs)
      ∙ sym (append_assoc (part_enums rows p) (flattened_enums (part_enums rows) ps) (flattened_enums (part_enums rows) qs))

  entry_under : (n : ℕ) (e : Entry) → entry_at rows n ≡ Some e → IsEntryUnder contract rows (Some e)
  entry_under n e at = subst (IsEntryUnder contract rows) at (settled.plain n)

  -- without enums of any class
  module _ (none : FlattensNoEnums rows) where
    abbrev Simple : List Flattened → Type 0
    Simple ps = ArePartsUnder contract rows ps × HasNoEnums rows ps

    simple_apart : (ps qs : List Flattened) → Simple (ps ++ qs) → Simple ps × Simple qs
    simple_apart ps qs h =
        let parts = under_apart contract rows ps qs h.0 in
        let enums = both_empty (flattened_enums (part_enums rows) ps) (flattened_enums (part_enums rows) qs)
        (sym (enums_append ps qs) ∙ h.1) in
        ((parts.0, enums.0), (parts.1, enums.1))

    simple_variants : (xs : List Variant) → VariantsHaveNoEnums rows xs → HasNoEnums rows (variant_parts xs)
    simple_variants [] h = refl
    simple_variants (x ∷ xs) h =
        enums_append (payload_parts x.payload) (variant_parts xs) ∙ (λ i. h.0 i ++ simple_variants xs h.1 i)

    simple_shape : (kind : Shape) → ShapeFlattensNoEnums rows kind → HasNoEnums rows (parts_in kind)
    simple_shape (shape.struct x) h = h
    simple_shape (shape.enum tagging xs) h = simple_variants xs h
    simple_shape _ h = refl

    simple_rest : (d : ℕ) (y : Fields) (s : Data) → Simple y.flatten → (a : StructOf d y s) → R.rest a.members
    simple_rest d y s under a =
        let bare : a.parts ≡ no_parts = a.bare (ap (λ ns. matches_of (choices_within rows contract [] 1) (map enum_at ns) null) under.1) in
        let es = field_keywords (effective (flattened_in rows) y) a.written in
        let ns = required_names contract (effective (flattened_in rows) y) in
        bare-rest R es ns y.closed a.members (subst (λ ps. IsForm (struct_keywords es ns ps y.closed) a.members) bare a.form)

    pub described-simple : (d n : ℕ) (t : Data) → Describes basis Refers d n t → IsGood R t
    described-simple =
        described-as Simple simple_apart
        (λ n e at. ((entry_under n e at).3, simple_shape e.shape (subst (EntryFlattensNoEnums rows) at (none n))))
        (λ ps h. h.0) simple_rest

-- with enums of the class that 2019-09 asks for
pub described-under : (N : Text → Type 0) (basis : Basis) (Refers : ℕ → Text → Type 0) → ((j : ℕ) (r : Text) → Refers j r → N r)
    → IsSettled basis → (d n : ℕ) (t : Data) → Describes basis Refers d n t → IsGood (with_rest N) t
described-under N basis Refers names settled =
    described-as (with_rest N) basis Refers names settled (ArePartsUnder basis.contract basis.rows) (under_apart basis.contract basis.rows)
    (λ n e at. (entry_under (with_rest N) basis Refers names settled n e at).3) (λ ps under. under) (λ d y s under a. (
      subst IsNoObject (sym (a.form.at (codes "unevaluatedProperties") refl)) (no_object a.parts y.closed),
      (a.form.at (codes "dependentSchemas") refl, (a.form.at (codes "unevaluatedItems") refl, tt)),
    ))
