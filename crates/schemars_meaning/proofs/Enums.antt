-- What the documents of untagged enums say under 2020-12.
use Rattle.std.proofs.Common.{◌≡◌, ◌⊎◌, ℕ, List, [], ◌∷◌, map, Bool, true, false, refl}
use Rattle.schemars_meaning.proofs.Words.{list_any, Data, Text, Patterns, Judge, AreNotes, Field, Flattened, Payload, Variant, newtype_payload, VariantMatch, has_payload, expanded_payload, expanded_variant, Basis, Ask, Template, payload_template, untagged_template, titled, read_data, title_alone}
use Rattle.schemars_meaning.proofs.OneOf.{Tells, AreTold, noted_tells, any_says}

pub title_noted : (name : Text) → AreNotes (title_alone name)
title_noted name = (refl, tt)

-- ---- the rows of newtype variants, which have the value itself

abbrev pub IsNewtypeIn : ℕ → List Variant → Type 0
IsNewtypeIn j [] = ⊥
IsNewtypeIn j (x ∷ xs) = (x.payload ≡ newtype_payload j) ⊎ IsNewtypeIn j xs

module _ (patterns : Patterns) (f : Text → Judge) (basis : Basis) (A : Ask → Data → Type 0) (M : ℕ → Data → Bool)
    (C : ℕ → Data → List VariantMatch) (v : Data) (part_fields : Flattened → List Field) (enums : Flattened → List ℕ) where
  titled_tells : (titles : Bool) (name : Text) (t : Template) (b : Bool) → Tells patterns f A v t b
      → Tells patterns f A v (titled titles name t) b
  titled_tells false name t b h = h
  titled_tells true name t b h = noted_tells patterns f A v (title_alone name) t b (title_noted name) h

  abbrev has : Payload → Bool
  has p = has_payload basis.contract M C p v

  -- what fills the template of a payload says whether the value is one
  abbrev pub PayloadTells : Payload → Type 0
  PayloadTells p = Tells patterns f A v (payload_template basis.contract p) (has (expanded_payload part_fields enums p))

  -- some variant has the value
  pub untagged_says : (xs : List Variant) → AreTold PayloadTells xs
      → Tells patterns f A v (untagged_template basis.contract basis.titles xs)
      (list_any (λ x. has x.payload) (map (expanded_variant part_fields enums) xs))
  unfolding read_data
  untagged_says [] told = λ us fit. (tt, refl)
  untagged_says (x ∷ xs) told =
      any_says patterns f A v (λ y. titled basis.titles y.name (payload_template basis.contract y.payload))
      (expanded_variant part_fields enums) (λ y. has y.payload) PayloadTells
      (λ y h. titled_tells basis.titles y.name (payload_template basis.contract y.payload)
      (has (expanded_payload part_fields enums y.payload)) h)
      (x ∷ xs) told
