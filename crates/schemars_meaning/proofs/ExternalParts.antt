-- An enum whose variants have their names as keys, where it is flattened: units without notes, and any others.
use Rattle.std.proofs.Common.{◌≡◌, ℕ, ◌<◌, List, [], ◌∷◌, ◌++◌, Bool, true, false, map, refl, sym, subst, append-nil}
use Rattle.schemars_meaning.proofs.Words.{if◌then◌else◌, Data, Members, depth, Text, IsJson, IsSchema, AreNotes, verdict, Context, judge, is_null, null_schema, flattened_part, Payload, Variant, no_payload, newtype_payload, tuple_payload, struct_payload, is_bare_unit, annotated, Ask, Template, noted, asks_of, asks_in, filled, filled_in, templates_of, member_template, payload_template, named_template, bare_units, other_items, choice_of, external_template, VariantMatch, member_choice}
use Rattle.schemars_types.specs.declared.contract.Contract.{Contract}
use Rattle.schemars_meaning.proofs.Filling.{Fit, without_end, parted}
use Rattle.schemars_meaning.proofs.Items.{IsItem, AnyItems, member_item}
use Rattle.schemars_meaning.proofs.StructDocuments.{IsPart}
use Rattle.schemars_meaning.proofs.PartDocuments.{enum_part}
use Rattle.schemars_meaning.proofs.UnitMembers.{kept, moved, same-parted, reordered, mixed_part, lone_part, unit_offer}

abbrev IsNoUnit : Payload → Type 0
IsNoUnit no_payload = ⊥
IsNoUnit _ = Unit {0}

-- a unit without notes, or another variant that `Told` speaks of
abbrev pub IsKnown : (Payload → Type 0) → Payload → Members → Type 0
IsKnown Told no_payload notes = is_bare_unit (record { name = []; payload = no_payload; notes = notes }) ≡ true
IsKnown Told (newtype_payload n) notes = Told (newtype_payload n) × AreNotes notes
IsKnown Told (tuple_payload ns) notes = Told (tuple_payload ns) × AreNotes notes
IsKnown Told (struct_payload x) notes = Told (struct_payload x) × AreNotes notes

abbrev pub AreKnown : (Payload → Type 0) → List Variant → Type 0
AreKnown Told [] = Unit {0}
AreKnown Told (x ∷ xs) = IsKnown Told x.payload x.notes × AreKnown Told xs

-- `P` says which values a payload has
module _ (c : Context) (on : c.dialect.reads_unevaluated ≡ true) (contract : Contract) (A : Ask → Data → Type 0) (W : ℕ → Data → Type 0)
    (P : Payload → Data → Bool) (unit : P no_payload ≡ is_null) (Told : Payload → Type 0) (v : Data) (json : IsJson v)
    (tells : (p : Payload) → Told p → (us : List Data) → Fit A (asks_of (payload_template contract p)) us
    → IsSchema (filled (payload_template contract p) us)
    × ((w : Data) → IsJson w → depth w < depth v → (judge c (filled (payload_template contract p) us)).fits w ≡ verdict (P p w)))
    (null_says : (w : Data) → (judge c null_schema).fits w ≡ verdict (is_null w)) where
  abbrev pub offer : Variant → VariantMatch
  offer x = member_choice x.name (P x.payload) v

  -- one variant
  keyed : (name : Text) (p : Payload) (notes : Members) → Told p → AreNotes notes → (us : List Data)
      → Fit A (asks_of (member_template true name (payload_template contract p))) us
      → IsItem c on true (annotated notes (filled (member_template true name (payload_template contract p)) us))
      (member_choice name (P p) v) v
  keyed name p notes told plain us fit =
      let t = payload_template contract p in
      let own : Fit A (asks_of t) us = without_end A (asks_of t) us (without_end A (asks_of t ++ []) us fit) in
      let say = tells p told us own in
      member_item c on name (P p) notes true (filled t us) plain say.0 v json say.1

  item_filled : (name : Text) (p : Payload) (notes : Members) → IsNoUnit p → Told p → AreNotes notes → (us : List Data)
      → Fit A (asks_of (named_template contract name p)) us
      → IsItem c on true (annotated notes (filled (named_template contract name p) us)) (member_choice name (P p) v) v
  item_filled name no_payload notes other told plain us fit = absurd other
  item_filled name (newtype_payload n) notes other told plain us fit = keyed name (newtype_payload n) notes told plain us fit
  item_filled name (tuple_payload ns) notes other told plain us fit = keyed name (tuple_payload ns) notes told plain us fit
  item_filled name (struct_payload x) notes other told plain us fit = keyed name (struct_payload x) notes told plain us fit

  abbrev units : Text → VariantMatch
  units k = unit_offer c on contract W v json null_says k

  -- the units
  units_offered : (xs : List Variant) → AreKnown Told xs → map units (bare_units xs) ≡ map offer (moved is_bare_unit xs)
  units_offered [] h = refl
  units_offered (x ∷ xs) h = go x.payload x.notes (units_offered xs h.1)
    where
      by : (name : Text) (notes : Members) (b : Bool)
          → map units (bare_units xs) ≡ map offer (moved is_bare_unit xs)
          → map units (if b then name ∷ bare_units xs else bare_units xs)
          ≡ map offer
          (if b then record { name = name; payload = no_payload; notes = notes } ∷ moved is_bare_unit xs else moved is_bare_unit xs)
      by name notes true later = λ i. member_choice name (unit_at i) v ∷ later i
        where
          unit_at : is_null ≡ P no_payload
          unit_at = sym unit
      by name notes false later = later

      go : (p : Payload) (notes : Members) → map units (bare_units xs) ≡ map offer (moved is_bare_unit xs)
          → map units (bare_units (record { name = x.name; payload = p; notes = notes } ∷ xs))
          ≡ map offer (moved is_bare_unit (record { name = x.name; payload = p; notes = notes } ∷ xs))
      go no_payload notes later = by x.name notes (is_bare_unit (record { name = x.name; payload = no_payload; notes = notes })) later
      go _ notes later = later

  abbrev Offered : List Template → List VariantMatch → Type 0
  Offered ts os = (us : List Data) → Fit A (asks_in (templates_of ts)) us → AnyItems c on (filled_in (templates_of ts) us) os v

  -- the others
  one_more : (name : Text) (p : Payload) (notes : Members) (ts : List Template) (os : List VariantMatch) → IsNoUnit p → Told p → AreNotes notes
      → Offered ts os → Offered (noted notes (named_template contract name p) ∷ ts)
      (offer (record { name = name; payload = p; notes = notes }) ∷ os)
  one_more name p notes ts os other told plain later us fit =
      let s = parted A (noted notes (named_template contract name p)) (asks_in (templates_of ts)) us fit in (
        (
          true,
          subst (λ t. IsItem c on true t (member_choice name (P p) v) v) (sym s.4)
              (item_filled name p notes other told plain s.0 s.2),
        ),
        subst (λ ws. AnyItems c on (filled_in (templates_of ts) ws) os v) (sym s.5) (later s.1 s.3),
      )

  others_offered : (xs : List Variant) → AreKnown Told xs → Offered (other_items contract xs) (map offer (kept is_bare_unit xs))
  others_offered [] h = λ us fit. tt
  others_offered (x ∷ xs) h = go x.payload x.notes h.0 (others_offered xs h.1)
    where
      by : (b : Bool) (t : Template) (y : Variant) → b ≡ true → Offered (other_items contract xs) (map offer (kept is_bare_unit xs))
          → Offered (if b then other_items contract xs else t ∷ other_items contract xs)
          (map offer (if b then kept is_bare_unit xs else y ∷ kept is_bare_unit xs))
      by true t y is later = later
      by false t y is later = cc

      go : (p : Payload) (notes : Members) → IsKnown Told p notes → Offered (other_items contract xs) (map offer (kept is_bare_unit xs))
          → Offered (other_items contract (record { name = x.name; payload = p; notes = notes } ∷ xs))
          (map offer (kept is_bare_unit (record { name = x.name; payload = p; notes = notes } ∷ xs)))
      go no_payload notes known later =
          by (is_bare_unit (record { name = x.name; payload = no_payload; notes = notes }))
          (noted notes (named_template contract x.name no_payload))
          (record { name = x.name; payload = no_payload; notes = notes }) known later
      go (newtype_payload n) notes known later =
          one_more x.name (newtype_payload n) notes (other_items contract xs) (map offer (kept is_bare_unit xs)) tt known.0 known.1 later
      go (tuple_payload ns) notes known later =
          one_more x.name (tuple_payload ns) notes (other_items contract xs) (map offer (kept is_bare_unit xs)) tt known.0 known.1 later
      go (struct_payload y) notes known later =
          one_more x.name (struct_payload y) notes (other_items contract xs) (map offer (kept is_bare_unit xs)) tt known.0 known.1 later

  -- the enum, which has a variant at least
  pub external_part : (notes : Members) → AreNotes notes → (x : Variant) (xs : List Variant) → AreKnown Told (x ∷ xs) → (us : List Data)
      → Fit A (asks_of (external_template contract (x ∷ xs))) us
      → IsPart c on contract W v [] (map offer (x ∷ xs) ∷ [])
      (flattened_part false (annotated notes (filled (external_template contract (x ∷ xs)) us)))
  external_part notes plain x xs known us fit =
      reordered c on contract W v (map offer (kept is_bare_unit (x ∷ xs)) ++ map offer (moved is_bare_unit (x ∷ xs))) (map offer (x ∷ xs)) _
      (same-parted is_bare_unit offer (x ∷ xs))
      (go (bare_units (x ∷ xs)) (other_items contract (x ∷ xs)) (units_offered (x ∷ xs) known) (others_offered (x ∷ xs) known) us fit)
    where
      nothing : (b : Bool) → [] ≡ map offer (if b then x ∷ moved is_bare_unit xs else moved is_bare_unit xs)
          → AnyItems c on [] (map offer (if b then kept is_bare_unit xs else x ∷ kept is_bare_unit xs)) v → ⊥
      nothing true e h = cc
      nothing false e h = h

      empty : (os : List VariantMatch) → AnyItems c on [] os v → [] ≡ os
      empty [] h = refl
      empty (o ∷ os) h = absurd h

      go : (ks : List Text) (ts : List Template) → map units ks ≡ map offer (moved is_bare_unit (x ∷ xs))
          → Offered ts (map offer (kept is_bare_unit (x ∷ xs))) → (us : List Data) → Fit A (asks_of (choice_of ks ts)) us
          → IsPart c on contract W v [] ((map offer (kept is_bare_unit (x ∷ xs)) ++ map offer (moved is_bare_unit (x ∷ xs))) ∷ [])
          (flattened_part false (annotated notes (filled (choice_of ks ts) us)))
      go [] [] same offered us fit = absurd (nothing (is_bare_unit x) same (offered [] refl))
      go [] (t ∷ ts) same offered us fit =
          subst (λ os. IsPart c on contract W v [] ((map offer (kept is_bare_unit (x ∷ xs)) ++ os) ∷ [])
          (flattened_part false (annotated notes (filled (choice_of [] (t ∷ ts)) us)))) same
          (subst (λ os. IsPart c on contract W v [] (os ∷ []) (flattened_part false (annotated notes (filled (choice_of [] (t ∷ ts)) us))))
          (sym (append-nil (map offer (kept is_bare_unit (x ∷ xs)))))
          (enum_part c on contract W v notes (filled_in (templates_of (t ∷ ts)) us) (map offer (kept is_bare_unit (x ∷ xs))) plain
          (offered us (without_end A (asks_in (templates_of (t ∷ ts))) us fit))))
      go (k ∷ ks) [] same offered us fit =
          subst (λ os. IsPart c on contract W v [] ((map offer (kept is_bare_unit (x ∷ xs)) ++ os) ∷ [])
          (flattened_part false (annotated notes (filled (choice_of (k ∷ ks) []) us)))) same
          (subst (λ os. IsPart c on contract W v [] ((os ++ map units (k ∷ ks)) ∷ [])
          (flattened_part false (annotated notes (filled (choice_of (k ∷ ks) []) us))))
          (empty (map offer (kept is_bare_unit (x ∷ xs))) (offered [] refl))
          (lone_part c on contract W v json null_says notes plain k ks))
      go (k ∷ ks) (t ∷ ts) same offered us fit =
          subst (λ os. IsPart c on contract W v [] ((map offer (kept is_bare_unit (x ∷ xs)) ++ os) ∷ [])
          (flattened_part false (annotated notes (filled (choice_of (k ∷ ks) (t ∷ ts)) us)))) same
          (mixed_part c on contract W v json null_says notes plain k ks (filled_in (templates_of (t ∷ ts)) us)
          (map offer (kept is_bare_unit (x ∷ xs)))
          (offered us (without_end A (asks_in (templates_of (t ∷ ts))) us fit)))
