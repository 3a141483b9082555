-- Whether values belong to the type of a document, and why that is not decided.
use Rattle.std.specs.Prelude.{◌≡◌, ◌≤◌, ◌<◌, ◌⊎◌, ℕ, Bool, List, [], length, codes}
use Rattle.serde_json.specs.Data.{Data, no_members}
use Rattle.serde_json.specs.View.{view}
use Rattle.schemars_schema.specs.Dialects.{draft2020_12}
use Rattle.schemars_schema.specs.Judges.{Patterns}
use Rattle.schemars_types.specs.Rows.{Row}
use Rattle.schemars_types.specs.Faults.{IsAccepted}
use Rattle.schemars_types.specs.declared.contract.Contract.{Contract}
use Rattle.schemars_types.specs.Meaning.{belongs}
use Rattle.schemars_documents.specs.PlainTable.{HasPlainNotes}
use Rattle.schemars_headline.specs.Headline.{Headline, MeansItsType}
use Rattle.schemars_headline.specs.State.{State, settings2020_12}
use Rattle.schemars_generate.specs.Refusals.{IsTableRefusal}
use Rattle.schemars_generate.specs.Through.{IsRefused, IsUntransformed}
use Rattle.schemars_generate.specs.declared.error.GenerateError as generating
use Rattle.schemars_readable.specs.Drafts.{dialect_of, path_of}
use Rattle.schemars_validator.specs.Texts.{IsReadBy}
use Rattle.schemars_readable.specs.Expressions.{AreExpressionsOf}
use Rattle.schemars_readable.specs.Refused.{IsRefusal}
use Rattle.schemars_readable.specs.declared.draft.Draft.TheVariants.{Draft2020_12}
use Rattle.schemars_readable.specs.declared.expressions.Expression.{Expression}
use Rattle.schemars_validator.specs.declared.validator.Validator.{Validator}
use Rattle.schemars_membership.specs.declared.error.MembershipError as membership

-- the answer is whether a value belongs to row n, where a text matches a pattern as these expressions answer
abbrev pub Belongs : List Expression → List Row → Contract → ℕ → Data → Bool → Type 0
Belongs expressions rows contract n v answer =
    (patterns : Patterns) × IsReadBy expressions v patterns × (answer ≡ belongs rows contract patterns n v)

-- and the expressions are those of a document that means the row
abbrev pub IsMember : List Row → Contract → ℕ → Data → Bool → Type 0
IsMember rows contract n v answer = (document : Data) × (expressions : List Expression)
    × MeansItsType draft2020_12 rows contract (codes "/$defs") n document × AreExpressionsOf document expressions
    × Belongs expressions rows contract n v answer

-- the validator's document means row n
abbrev pub IsOfType : Validator → List Row → Contract → ℕ → Type 0
IsOfType validator rows contract n =
    MeansItsType (dialect_of validator.draft) rows contract (path_of validator.draft) n (view validator.document.now)

-- a generator for 2020-12 that has made nothing yet
abbrev pub fresh : List Row → Contract → State
fresh rows contract = record {
  settings = record settings2020_12 { contract = contract };
  rows = rows;
  names = [];
  definitions = no_members;
}

-- the root document of row n by such a generator, which means the row
abbrev pub IsTypeDocument : List Row → Contract → ℕ → Data → Type 0
IsTypeDocument rows contract n document =
    Headline draft2020_12 rows contract (codes "/$defs") n document × IsUntransformed (fresh rows contract) n document

-- A row of an accepted table has no document: there is no such row, or its definitions cannot be placed, or memory runs out. If all
-- notes are annotations, memory runs out.
abbrev pub IsRowRefusal : List Row → Contract → ℕ → generating.GenerateError → Type 0
IsRowRefusal rows contract n e = ((e ≡ generating.TheVariants.UnknownType n) × (length rows ≤ n))
    ⊎ ((n < length rows) × IsRefused (fresh rows contract) n e × (HasPlainNotes rows → e ≡ generating.TheVariants.OutOfMemory))

-- why there is no document of row n: the table is refused, or the row
abbrev pub IsDocumentRefusal : List Row → Contract → ℕ → generating.GenerateError → Type 0
IsDocumentRefusal rows contract n e = IsTableRefusal rows e ⊎ (IsAccepted rows × IsRowRefusal rows contract n e)

-- why it is not decided whether a value belongs to row n: it has no document, or the validator refuses the document
abbrev pub IsUndecided : List Row → Contract → ℕ → membership.MembershipError → Type 0
IsUndecided rows contract n (membership.TheVariants.Generate e) = IsDocumentRefusal rows contract n e
IsUndecided rows contract n (membership.TheVariants.Document refusal) = (document : Data)
    × IsTypeDocument rows contract n document × IsRefusal Draft2020_12 document refusal
IsUndecided rows contract n membership.TheVariants.OutOfMemory = Unit {0}
