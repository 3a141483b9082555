-- What the document of a struct says under 2020-12 into which nothing is flattened.
use Rattle.std.proofs.Common.{◌≡◌, ℕ, ◌<◌, List, [], Bool, refl}
use Rattle.schemars_meaning.proofs.Words.{Data, no_members, depth, verdict, Text, IsJson, IsSchema, Patterns, Judge, Context, judge, context2020_12, Field, has_fields, AreDistinct, AreNoted, required_names}
use Rattle.schemars_types.specs.declared.contract.Contract.{Contract}
use Rattle.schemars_meaning.proofs.MapKeywords.{keywords}
use Rattle.schemars_meaning.proofs.Spread.{field_keywords, struct_document, AreWritten}
use Rattle.schemars_meaning.proofs.Fields.{field_found, entries, required_same}
use Rattle.schemars_meaning.proofs.StructMeans.{fields_mean}
use Rattle.schemars_meaning.proofs.Uniting.{form-keywords}
use Rattle.schemars_meaning.proofs.Opened.{no_parts, map_form}

module _ (patterns : Patterns) (f : Text → Judge) (contract : Contract) (W : ℕ → Data → Type 0) (M : ℕ → Data → Bool)
    (schemas : (j : ℕ) (t : Data) → W j t → IsSchema t) where
  abbrev c : Context
  c = context2020_12 patterns f

  pub struct_says : (xs : List Field) (ts : List Data) (closed : Bool) → AreDistinct xs → AreNoted xs → AreWritten W xs ts → (v : Data)
      → IsJson v
      → ((j : ℕ) (t w : Data) → W j t → IsJson w → depth w < depth v → (judge c t).fits w ≡ verdict (M j w))
      → (judge c (struct_document contract xs ts closed)).fits v ≡ verdict (has_fields contract M [] xs closed v)
  struct_says xs ts closed apart noted written v json agree =
      let es = field_keywords xs ts in
      let ns = required_names contract xs in
      fields_mean c refl contract W M schemas v agree xs es ns no_parts closed (keywords es ns closed)
      (form-keywords _ (keywords es ns closed) (map_form [] es ns closed tt)) (entries W schemas xs ts written)
      (λ k. field_found W k xs ts no_members apart noted written) (required_same contract M xs) json (tt, tt)
