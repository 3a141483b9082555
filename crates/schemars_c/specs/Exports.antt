-- What the exports hand out, and their numbers.
use Rattle.std.specs.Prelude.{zero, suc, ◌≡◌, ◌≢◌, ◌⊎◌, ◌↔◌, ℕ, ◌<◌, ◌≤◌, List, [], ◌∷◌, ◌++◌, drop, length, codes, map, string_bytes, String}
use Rattle.std.specs.declared.alloc.Global.{Global}
use Rattle.schemars_schema.specs.Json.{Text}
use Rattle.schemagen_run.specs.declared.fault.Fault.{Fault}
use Rattle.schemagen_run.specs.declared.fault.Fault.TheVariants.{Usage, Refused}
use Rattle.schemars_generate.specs.declared.error.TheConstants.{OUT_OF_MEMORY, DEFINITIONS_PATH}
use Rattle.schemagen_run.specs.declared.fault.TheConstants.{NOT_JSON, BAD_TABLE, NOT_WHOLE, WRITE}
use Rattle.schemagen_run.specs.Fault.{IsTableFault}
use Rattle.schemagen_run.specs.Run.{IsBadTable, IsFaultyTable, IsLineFor, IsNoJson, IsNotWhole, IsUnplacedFor}
use Rattle.schemalint_run.specs.declared.judging.Verdict.{Verdict}
use Rattle.schemalint_run.specs.declared.judging.Verdict.TheVariants as verdicts
use Rattle.schemalint_run.specs.Lint.{AreLines, verdict_line}
use Rattle.schemars_c.specs.declared.handing.TheConstants.{DONE, USAGE, NO_ROOM}
use Rattle.schemars_c.specs.declared.lints.TheConstants.{REFUSED, NOT_PLAIN, PLAIN, PLAIN_UNDER_READING, PLAIN_UNDER_WRITING, PLAIN_UNDER_BOTH}

-- ---- words for numbers

-- the word for a dialect
abbrev pub dialect_word : ℕ → Text
dialect_word zero = codes "2020-12"
dialect_word (suc zero) = codes "2019-09"
dialect_word (suc (suc zero)) = codes "draft-07"
dialect_word (suc (suc (suc n))) = codes "openapi3"

-- the words for flags: 1 for rows in place, 2 for values that are written
abbrev pub flag_words : ℕ → List Text
flag_words zero = []
flag_words (suc zero) = codes "--inline" ∷ []
flag_words (suc (suc zero)) = codes "--serialize" ∷ []
flag_words (suc (suc (suc n))) = codes "--inline" ∷ codes "--serialize" ∷ []

abbrev pub table_words : ℕ → ℕ → List Text
table_words dialect flags = codes "types" ∷ dialect_word dialect ∷ flag_words flags

abbrev pub example_words : ℕ → List Text
example_words dialect = codes "sample" ∷ dialect_word dialect ∷ []

-- ---- what the programs write

-- the line that `schemagen` writes for these words and these bytes
abbrev pub IsProgramLine : List Text → List ℕ → List ℕ → Type 0
IsProgramLine texts bytes line =
    (words : List (String Global)) × (map string_bytes words ≡ texts) × IsLineFor words bytes (λ l. line ≡ l)

-- the bytes are the text of a table without faults whose definitions have no place in the document for these words
abbrev pub IsUnplacedTable : List Text → List ℕ → Type 0
IsUnplacedTable texts bytes = (words : List (String Global)) × (map string_bytes words ≡ texts) × IsUnplacedFor words bytes

-- the number of a verdict
abbrev pub verdict_number : Verdict → ℕ
verdict_number verdicts.Refused = REFUSED
verdict_number verdicts.NotPlain = NOT_PLAIN
verdict_number verdicts.Plain = PLAIN
verdict_number verdicts.PlainUnderReading = PLAIN_UNDER_READING
verdict_number verdicts.PlainUnderWriting = PLAIN_UNDER_WRITING
verdict_number verdicts.PlainUnderBoth = PLAIN_UNDER_BOTH

-- what `schemalint` writes at a verdict of this number: lines, and then the line of the verdict
abbrev pub IsReport : ℕ → List ℕ → Type 0
IsReport number text =
    (verdict : Verdict) × (number ≡ verdict_number verdict) × ((lines : Text) × AreLines lines × (text ≡ lines ++ verdict_line verdict))

-- ---- the buffer

-- the text stands at the front of the buffer, whose rest is as it was
abbrev pub Fills : List ℕ → ℕ → List ℕ → List ℕ → Type 0
Fills text needed old new = (needed ≡ length text) × (new ≡ text ++ drop (length text) old)

-- the buffer is too short for the text, and is as it was
abbrev pub LacksRoom : List ℕ → ℕ → List ℕ → List ℕ → Type 0
LacksRoom text needed old new = (needed ≡ length text) × (length old < length text) × (new ≡ old)

-- there is no text, and the buffer is as it was
abbrev pub LeavesAll : ℕ → List ℕ → List ℕ → Type 0
LeavesAll needed old new = (needed ≡ 0) × (new ≡ old)

-- ---- numbers

-- the number of a fault
abbrev pub fault_number : Fault → ℕ
fault_number Usage = USAGE
fault_number (Refused code) = code

-- there is a text
abbrev pub IsHandedOut : ℕ → Type 0
IsHandedOut n = (n ≡ DONE) ⊎ (n ≡ NO_ROOM)

-- memory ran out, or did so while the text was written
abbrev pub WantsMemory : ℕ → Type 0
WantsMemory n = (n ≡ OUT_OF_MEMORY) ⊎ (n ≡ WRITE)

-- why there is no document of a table's root
abbrev pub IsTypesRefusal : ℕ → Type 0
IsTypesRefusal n =
    (n ≡ USAGE) ⊎ WantsMemory n ⊎ (n ≡ NOT_JSON) ⊎ (n ≡ BAD_TABLE) ⊎ IsTableFault (Refused n) ⊎ (n ≡ DEFINITIONS_PATH)

-- why there is no document of an example
abbrev pub IsSampleRefusal : ℕ → Type 0
IsSampleRefusal n = (n ≡ USAGE) ⊎ WantsMemory n ⊎ (n ≡ NOT_JSON) ⊎ (n ≡ NOT_WHOLE)

-- ---- what is handed out, and what a number tells

-- there is a line, which the buffer has or is too short for, or there is none for a reason that has a number
pub record HandsOut (IsLine : List ℕ → Type 0) (IsRefusal : ℕ → Type 0) (n needed : ℕ) (old new : List ℕ) : Type 0 where
  pub done : n ≡ DONE → (line : List ℕ) × IsLine line × Fills line needed old new
  pub no_room : n ≡ NO_ROOM → (line : List ℕ) × IsLine line × LacksRoom line needed old new
  pub refused : n ≢ DONE → n ≢ NO_ROOM → LeavesAll needed old new × IsRefusal n

-- what the number of a refusal says of the numbers that were given, and of the bytes of a table
pub record TellsOfTable (dialect flags : ℕ) (table : List ℕ) (n : ℕ) : Type 0 where
  pub usage : (n ≡ USAGE) ↔ ((4 ≤ dialect) ⊎ (4 ≤ flags))
  pub not_json : n ≡ NOT_JSON → IsNoJson table
  pub bad_table : n ≡ BAD_TABLE → IsBadTable table
  pub faulty : IsTableFault (Refused n) → IsFaultyTable (Refused n) table
  pub unplaced : n ≡ DEFINITIONS_PATH → IsUnplacedTable (table_words dialect flags) table

-- what it says of the number of a dialect, and of the bytes of an example
pub record TellsOfExample (dialect : ℕ) (example : List ℕ) (n : ℕ) : Type 0 where
  pub usage : (n ≡ USAGE) ↔ (4 ≤ dialect)
  pub not_json : n ≡ NOT_JSON → IsNoJson example
  pub not_whole : n ≡ NOT_WHOLE → IsNotWhole example
