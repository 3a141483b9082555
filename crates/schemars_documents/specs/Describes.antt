-- Which documents belong to a row of a table.
use Rattle.std.specs.Prelude.{◌≡◌, ◌⊎◌, ◌&&◌, ℕ, zero, suc, List, [], ◌∷◌, ◌++◌, Bool, true, false, not, Option, Some, None, is_some}
use Rattle.serde_json.specs.Data.{Data}
use Rattle.schemars_schema.specs.Json.{Text}
use Rattle.schemars_schema.specs.References.{references}
use Rattle.schemars_shapes.specs.Shape.{Entry}
use Rattle.schemars_types.specs.Rows.{Row, entry_at}
use Rattle.schemars_types.specs.Edges.{option_at}
pub use Rattle.schemars_types.specs.Effective.{without_options_within, without_options}
use Rattle.schemars_flatten.specs.Opening.{opened_inside, must_be_in_place}
use Rattle.schemars_flatten.specs.Parts.{flattened_part}
use Rattle.schemars_templates.specs.Finished.{reference}
use Rattle.schemars_templates.specs.Template.{Template, Ask, part, members_of, content, asks_of, filled}
use Rattle.schemars_documents.specs.Basis.{Basis}
use Rattle.schemars_documents.specs.OfShape.{entry_template}

-- an answer to each request, where `Answers a s` says that s is an answer to a
abbrev pub AreAnswered : (Ask → Data → Type 0) → List Ask → List Data → Type 0
AreAnswered Answers [] ts = ts ≡ []
AreAnswered Answers (a ∷ asks) [] = ⊥
AreAnswered Answers (a ∷ asks) (t ∷ ts) = Answers a t × AreAnswered Answers asks ts

-- s is the template filled with these answers
pub record Fills (Answers : Ask → Data → Type 0) (t : Template) (s : Data) : Type 0 where
  pub parts : List Data
  pub answered : AreAnswered Answers (asks_of t) parts
  pub is : s ≡ filled t parts

abbrev pub IsOwnDocument : (Ask → Data → Type 0) → Basis → Option Entry → Data → Type 0
IsOwnDocument Answers basis None s = ⊥
IsOwnDocument Answers basis (Some e) s = Fills Answers (entry_template basis e) s

-- ---- what is answered

-- the members of an Option may be missing, unless they have to be there
abbrev pub are_optional : List Row → ℕ → Bool → Bool
are_optional rows n required = is_some (option_at rows n) && not required

-- the content beside a tag: a document of its own, opened inside, or what is written for the row
abbrev pub IsContent : Bool → (Data → Type 0) → (Data → Type 0) → Data → Type 0
IsContent in_place Own Written s = (d : Data) × Own d
    × (((must_be_in_place in_place d ≡ true) × (s ≡ opened_inside d)) ⊎ ((must_be_in_place in_place d ≡ false) × Written s))

-- `Written n` says how row n may be written as a part, `Own n` which documents it has, and `InPlace n` whether it is
-- always in place
abbrev pub IsAnswered : List Row → (ℕ → Bool → Type 0) → (ℕ → Data → Type 0) → (ℕ → Data → Type 0) → Ask → Data → Type 0
IsAnswered rows InPlace Written Own (part n) s = Written n s
IsAnswered rows InPlace Written Own (members_of n required) s =
    (d : Data) × Own (without_options rows n) d × (s ≡ flattened_part (are_optional rows n required) d)
IsAnswered rows InPlace Written Own (content n) s = (b : Bool) × InPlace n b × IsContent b (Own n) (Written n) s

-- a part is a reference, where `Refers n r` says that r refers to row n, or its own document in place
abbrev pub IsWritten : (ℕ → Text → Type 0) → (ℕ → Data → Type 0) → ℕ → Data → Type 0
IsWritten Refers Own n s = ((r : Text) × Refers n r × (s ≡ reference r)) ⊎ Own n s

-- s is a document of row n, with at most `depth` documents within one another
unfoldable pub Describes : Basis → (ℕ → Text → Type 0) → ℕ → ℕ → Data → Type 0
Describes basis Refers zero n s = ⊥
Describes basis Refers (suc depth) n s =
    IsOwnDocument (IsAnswered basis.rows (λ m b. Unit {0}) (IsWritten Refers (Describes basis Refers depth)) (Describes basis Refers depth))
    basis (entry_at basis.rows n) s

-- the references of several schemas
abbrev pub references_of : List Data → List Data
references_of [] = []
references_of (t ∷ ts) = references t ++ references_of ts
