-- What is filled with schemas is a schema, and so is what describes a row.
use Rattle.std.proofs.Common.{ℕ, List}
use Rattle.schemars_meaning.proofs.Words.{AllByRecursion, Data, boolean, Text, IsSchema, Shape, Entry, Basis, Template, finished, asked, list, members, nullable, noted, left, filled, template_of, entry_template, IsWritten, Describes, flattened-schema, flattened_part-schema, opened_inside-schema, with_keywords, tagged, literal_document}
use Rattle.schemars_meaning.proofs.Notes.{annotated-schema}
use Rattle.schemars_meaning.proofs.ByKeyword.{outer_holds}
use Rattle.schemars_meaning.proofs.Parts.{first_all, described_holds, written_holds}
use Rattle.schemars_meaning.proofs.ReferencesKept.{allow_null-schema}

abbrev pub AreSchemas : List Data → Type 0
AreSchemas = AllByRecursion IsSchema

-- ---- filled templates

-- its document is a schema, where the answers are
abbrev pub MakesSchema : Template → Type 0
MakesSchema (finished d) = IsSchema d
MakesSchema (asked a) = Unit {0}
MakesSchema (list es) = ⊥
MakesSchema (members ks es) = Unit {0}
MakesSchema (nullable t) = MakesSchema t
MakesSchema (noted notes t) = MakesSchema t
MakesSchema (with_keywords t u) = MakesSchema t
MakesSchema (tagged tag name closed t) = Unit {0}

pub made_schema : (t : Template) (ts : List Data) → AreSchemas ts → MakesSchema t → IsSchema (filled t ts)
made_schema (finished d) ts h is = is
made_schema (asked a) ts h is = first_all IsSchema tt ts h
made_schema (list es) ts h is = absurd is
made_schema (members ks es) ts h is = tt
made_schema (nullable t) ts h is = allow_null-schema (filled t ts) (made_schema t ts h is)
made_schema (noted notes t) ts h is = annotated-schema notes (filled t ts) (made_schema t ts h is)
made_schema (with_keywords t u) ts h is = flattened-schema (filled t ts) (filled u (left t ts)) (made_schema t ts h is)
made_schema (tagged tag name closed t) ts h is = tt

-- ---- by shape

literal_makes : (d : Data) → IsSchema (literal_document d)
literal_makes (boolean b) = tt
literal_makes _ = tt

shape_makes : (basis : Basis) (kind : Shape) → MakesSchema (template_of basis kind)
shape_makes basis kind =
    outer_holds basis MakesSchema (λ kind. Unit {0}) (λ d is. is.0) (λ es h. tt) (λ a. tt) (λ t h. h) (λ t u h g. h)
    (λ d h. literal_makes d) kind tt

-- the filled template of an entry is a schema, where the answers are
pub filled_schema : (basis : Basis) (e : Entry) (ts : List Data) → AreSchemas ts → IsSchema (filled (entry_template basis e) ts)
filled_schema basis e ts h = made_schema (entry_template basis e) ts h (shape_makes basis e.shape)

-- ---- documents of rows

module _ (basis : Basis) (Refers : ℕ → Text → Type 0) where
  pub described : (d n : ℕ) (s : Data) → Describes basis Refers d n s → IsSchema s
  described = described_holds IsSchema flattened_part-schema opened_inside-schema basis Refers (λ j r h. tt)
      (λ n e at ts h. filled_schema basis e ts h)

  pub written_schema : (d n : ℕ) (t : Data) → IsWritten Refers (Describes basis Refers d) n t → IsSchema t
  written_schema = written_holds IsSchema flattened_part-schema opened_inside-schema basis Refers (λ j r h. tt)
      (λ n e at ts h. filled_schema basis e ts h)
