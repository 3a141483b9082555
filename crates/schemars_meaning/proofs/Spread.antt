-- The document of a map with fields, with notes on it; that of a struct has the fields of flattened rows among its own.
use Rattle.std.proofs.Common.{◌≡◌, ℕ, List, [], ◌∷◌, Bool, true, false}
use Rattle.schemars_meaning.proofs.Words.{Data, Members, Field, Flattened, Row, Keyword, required_names, annotated, IsPlainPart, Ask, part, members_of}
use Rattle.schemars_types.specs.declared.contract.Contract.{Contract}
use Rattle.schemars_meaning.proofs.MapDocument.{map_document, noted_by, AllNotes}

-- the fields' schemas under their names, each with its notes
abbrev pub field_keywords : List Field → List Data → List Keyword
field_keywords [] ts = []
field_keywords (x ∷ xs) [] = []
field_keywords (x ∷ xs) (t ∷ ts) = (x.name, annotated x.notes t) ∷ field_keywords xs ts

abbrev pub struct_document : Contract → List Field → List Data → Bool → Data
struct_document contract fields ts closed = map_document (field_keywords fields ts) (required_names contract fields) closed

-- a schema for each field, where `Written n` says how row n may be written
abbrev pub AreWritten : (ℕ → Data → Type 0) → List Field → List Data → Type 0
AreWritten Written [] ts = ts ≡ []
AreWritten Written (x ∷ xs) [] = ⊥
AreWritten Written (x ∷ xs) (t ∷ ts) = Written x.ty t × AreWritten Written xs ts

-- s is the document of a map with these fields, whose schemas are written in this way, with notes
pub record IsFieldsDocument (Written : ℕ → Data → Type 0) (contract : Contract) (list : List Field) (closed : Bool)
    (s : Data) : Type 0 where
  pub parts : List Data
  pub written : AreWritten Written list parts
  pub notes : List Members
  pub are_notes : AllNotes notes
  pub is : s ≡ noted_by notes (struct_document contract list parts closed)

-- what an open struct answers where it is flattened and has to be there: the document of a map with the fields that it has
abbrev pub AnswersFields : (Flattened → List Field) → List Row → Contract → (Ask → Data → Type 0) → Type 0
AnswersFields has rows contract Answers =
    (p : Flattened) (t : Data) → IsPlainPart rows p → Answers (members_of p.ty true) t
    → IsFieldsDocument (λ j. Answers (part j)) contract (has p) false t
