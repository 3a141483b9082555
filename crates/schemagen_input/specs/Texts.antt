-- What the bytes of a text say: JSON or none, and a table or none.
use Rattle.std.specs.Prelude.{◌≡◌, ◌⊎◌, ℕ, List, Some, None, IsUtf8}
use Rattle.serde_json.specs.Data.{Data}
use Rattle.serde_json.specs.Read.{read}
use Rattle.schemars_types.specs.Rows.{Row}
use Rattle.schemars_types.specs.Faults.{IsAccepted}
use Rattle.schemagen_input.specs.Input.{input_of}

-- the bytes are the JSON text of this value
abbrev pub IsTextOf : Data → List ℕ → Type 0
IsTextOf d bytes = IsUtf8 bytes × (read bytes ≡ Some d)

abbrev pub IsNoJson : List ℕ → Type 0
IsNoJson bytes = ¬ (IsUtf8 bytes) ⊎ (read bytes ≡ None)

-- JSON, but no table with a root
abbrev pub IsBadTable : List ℕ → Type 0
IsBadTable bytes = (d : Data) × IsTextOf d bytes × (input_of d ≡ None)

-- the JSON text of a table with this root
abbrev pub IsTableText : List Row → ℕ → List ℕ → Type 0
IsTableText rows root bytes = (d : Data) × IsTextOf d bytes × (input_of d ≡ Some (rows, root))

-- the JSON text of a table without faults
abbrev pub IsAcceptedText : List ℕ → Type 0
IsAcceptedText bytes = (rows : List Row) × ((root : ℕ) × IsTableText rows root bytes × IsAccepted rows)
