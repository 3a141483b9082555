-- What the document of an enum says whose values have name and content under two keys.
use Rattle.std.proofs.Common.{◌≡◌, ℕ, List, [], ◌∷◌, ◌++◌, map, Some, Bool, true, false, refl}
use Rattle.schemars_meaning.proofs.Words.{bytes_eq, list_any, Data, no_members, Text, IsJson, verdict, Judge, Patterns, Context, judge, context2020_12, unit_variant, Field, Flattened, Payload, Variant, no_payload, newtype_payload, tuple_payload, struct_payload, VariantMatch, has_payload, expanded_payload, expanded_variant, AreDistinctVariants, Ask, asks_of, filled, payload_template, said, whole_template, adjacent_payload, adjacent_template, has_beside, has_adjacent, has_member, must_have}
use Rattle.schemars_types.specs.declared.contract.Contract.{Contract}
use Rattle.schemars_types.specs.Meaning.{is_text}
use Rattle.schemars_meaning.proofs.MapDocument.{map_document}
use Rattle.schemars_meaning.proofs.Filling.{Fit, without_end}
use Rattle.schemars_meaning.proofs.SmallMaps.{one_means, two_mean}
use Rattle.schemars_meaning.proofs.Choices.{unit_says}
use Rattle.schemars_meaning.proofs.OneOf.{AreTold, Tells, TellsInside, one_tells, one_says}
use Rattle.schemars_meaning.proofs.InternalSays.{told, tagged_told}

module _ (patterns : Patterns) (f : Text → Judge) (contract : Contract) (A : Ask → Data → Type 0) (M : ℕ → Data → Bool)
    (C : ℕ → Data → List VariantMatch) (v : Data) (part_fields : Flattened → List Field) (enums : Flattened → List ℕ)
    (tag key : Text) (closed : Bool) where
  abbrev c : Context
  c = context2020_12 patterns f

  abbrev has : Variant → Bool
  has = has_adjacent contract M C tag key closed v

  abbrev beside : Text → Payload → Bool
  beside name p = has (record { name = name; payload = p; notes = no_members })

  abbrev each : Variant → Variant
  each = expanded_variant part_fields enums

  abbrev has_inside : Payload → Data → Bool
  has_inside p = has_payload contract M C (expanded_payload part_fields enums p)

  -- ---- a value tells its name

  beside_told : (name : Text) (p : Data → Bool) → has_beside tag name key p closed v ≡ true → told tag v ≡ Some name
  beside_told name p h = tagged_told tag [] (must_have key p ∷ []) closed name v h

  variant_told : (name : Text) (p : Payload) → beside name p ≡ true → told tag v ≡ Some name
  variant_told name no_payload h = tagged_told tag [] [] closed name v h
  variant_told name (newtype_payload n) h = beside_told name (M n) h
  variant_told name (tuple_payload ns) h = beside_told name (has_payload contract M C (tuple_payload ns)) h
  variant_told name (struct_payload y) h = beside_told name (has_payload contract M C (struct_payload y)) h

  -- ---- the whole

  module _ (Told : Payload → Type 0) (json : IsJson v)
      (tells : (p : Payload) → Told p → TellsInside patterns f A v (payload_template contract p) (has_inside p)) (apart : bytes_eq tag key ≡ false) where
    both_say : (name : Text) (deny : Bool) (p : Payload) → Told p → (us : List Data)
        → Fit A ((asks_of (payload_template contract p) ++ []) ++ []) us
        → (judge c (map_document ((tag, unit_variant name) ∷ (key, filled (payload_template contract p) us) ∷ []) (tag ∷ key ∷ []) deny)).fits v
        ≡ verdict (has_beside tag name key (has_inside p) deny v)
    both_say name deny p told us fit =
        let t = payload_template contract p in
        let say = tells p told us (without_end A (asks_of t) us (without_end A (asks_of t ++ []) us fit)) in
        two_mean c refl v tag key apart (is_text name) (has_inside p) (unit_variant name)
        (filled t us) (λ w is less. unit_says patterns f name w) say.1 deny tt say.0 json

    both_tell : (name : Text) (deny : Bool) (p : Payload) → Told p
        → Tells patterns f A v (whole_template (said tag (unit_variant name) ∷ (key, payload_template contract p) ∷ []) deny)
        (has_beside tag name key (has_inside p) deny v)
    both_tell name false p told us fit = (tt, both_say name false p told us fit)
    both_tell name true p told us fit = (tt, both_say name true p told us fit)

    unit_say : (name : Text) (deny : Bool) → (judge c (map_document ((tag, unit_variant name) ∷ []) (tag ∷ []) deny)).fits v
        ≡ verdict (has_member tag (is_text name) deny v)
    unit_say name deny =
        one_means c refl v tag (is_text name) (unit_variant name) deny tt (λ w is less. unit_says patterns f name w) json

    unit_tells : (name : Text) (deny : Bool)
        → Tells patterns f A v (whole_template (said tag (unit_variant name) ∷ []) deny) (has_member tag (is_text name) deny v)
    unit_tells name false us fit = (tt, unit_say name false)
    unit_tells name true us fit = (tt, unit_say name true)

    item_tells : (name : Text) (p : Payload) → Told p
        → Tells patterns f A v (whole_template (said tag (unit_variant name) ∷ adjacent_payload contract key p) closed)
        (beside name (expanded_payload part_fields enums p))
    item_tells name no_payload told = unit_tells name closed
    item_tells name (newtype_payload n) told = both_tell name closed (newtype_payload n) told
    item_tells name (tuple_payload ns) told = both_tell name closed (tuple_payload ns) told
    item_tells name (struct_payload y) told = both_tell name closed (struct_payload y) told

    -- the document of the enum says what the enum means
    pub adjacent_says : (xs : List Variant) → AreDistinctVariants (map each xs) → AreTold Told xs
        → Tells patterns f A v (adjacent_template contract tag key closed xs) (list_any has (map each xs))
    adjacent_says [] distinct all = one_tells patterns f A v [] [] tt
    adjacent_says (x ∷ xs) distinct all =
        one_says patterns f A v (λ y. whole_template (said tag (unit_variant y.name) ∷ adjacent_payload contract key y.payload) closed)
        each has Told (λ y h. item_tells y.name y.payload h) (told tag v) (λ y. variant_told y.name y.payload) (x ∷ xs) distinct all
