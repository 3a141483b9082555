-- What a run of the program promises, by topics.
use Rattle.std.specs.Prelude.{◌≡◌, ◌≢◌, ◌⊎◌, ◌↔◌, ℕ, List, Bool, false, Option, Some, Result, Err, OnOk, IfErr, IsTrue, String}
use Rattle.std.specs.declared.alloc.Global.{Global}
use Rattle.std.specs.Io.KnownBytes.{Appends}
use Rattle.schemars_schema.specs.Json.{Text}
use Rattle.schemars_text.specs.Sink.{AppendsBeginning}
use Rattle.schemagen_run.specs.declared.fault.Fault.{Fault}
use Rattle.schemagen_run.specs.declared.fault.Fault.TheVariants.{Usage, Refused}
use Rattle.schemars_generate.specs.declared.error.TheConstants.{DEFINITIONS_PATH}
use Rattle.schemagen_run.specs.declared.fault.TheConstants.{NOT_JSON, BAD_TABLE, NOT_WHOLE, READ, WRITE}
use Rattle.schemagen_run.specs.Fault.{IsTableFault, IsOutside}
use Rattle.schemagen_run.specs.CommandLine.{AskForTypes, AskForSample, AreCommands}
use Rattle.schemagen_run.specs.Run.{GivesAll, IsNoJson, IsBadTable, IsFaultyTable, IsUnplacedFor, IsNotWhole, IsAcceptedText, IsNotedText, IsSampleText}

-- which words are refused, and that the source then stays as it was
pub record RefusesWords {S T : Type 0} (words : List (String Global)) (r : Result T Fault) (old new : S) : Type 0 where
  pub usage : (r ≡ Err Usage) ↔ ¬ (AreCommands words)
  pub known : r ≢ Err Usage → AreCommands words
  pub unread : r ≡ Err Usage → new ≡ old

-- why no value was read: the source has failed, or what it has given is not JSON
pub record RefusesInput {T : Type 0} (words : List (String Global)) (old new : Option (List ℕ)) (has_failed : Bool) (r : Result T Fault)
    : Type 0 where
  pub read : AreCommands words → ((r ≡ Err (Refused READ)) ↔ IsTrue has_failed)
  pub not_json : r ≡ Err (Refused NOT_JSON) → GivesAll old new IsNoJson

-- why there is no document of the value that was read
pub record RefusesDocument {T : Type 0} (words : List (String Global)) (old new : Option (List ℕ)) (r : Result T Fault) : Type 0 where
  pub bad_table : r ≡ Err (Refused BAD_TABLE) → AskForTypes words × GivesAll old new IsBadTable
  pub faulty : IfErr r (λ e. IsTableFault e → AskForTypes words × GivesAll old new (IsFaultyTable e))
  pub unplaced : r ≡ Err (Refused DEFINITIONS_PATH) → GivesAll old new (IsUnplacedFor words)
  pub not_whole : r ≡ Err (Refused NOT_WHOLE) → AskForSample words × GivesAll old new IsNotWhole

-- The sink has taken the line of the bytes that the source has given, or a beginning of one where it has failed, and nothing at any
-- other refusal. By `IsLine bytes Q`, Q holds of the line of these bytes.
pub record WritesLineFor {S T : Type 0} (bytes : S → Option Text) (has_failed : S → Bool) (IsLine : List ℕ → (Text → Type 0) → Type 0)
    (left_old left_new : Option (List ℕ)) (r : Result T Fault) (old new : S) : Type 0 where
  pub write : r ≡ Err (Refused WRITE) → GivesAll left_old left_new (λ given. IsLine given (AppendsBeginning (bytes old) (bytes new)))
  pub done : OnOk r (GivesAll left_old left_new (λ given. IsLine given (Appends (bytes old) (bytes new))))
  pub failed : r ≡ Err (Refused WRITE) → IsTrue (has_failed new)
  pub sound : OnOk r (has_failed new ≡ false)
  pub unwritten : IfErr r (λ e. e ≢ Refused WRITE → new ≡ old)

-- which texts are refused only for memory, the source or the sink: tables without faults, but for the place of their definitions,
-- and examples
pub record RefusesOnlyOutside {T : Type 0} (words : List (String Global)) (left : Option (List ℕ)) (r : Result T Fault) : Type 0 where
  pub accepted : AskForTypes words → (bytes : List ℕ) → left ≡ Some bytes
      → IsAcceptedText bytes → IfErr r (λ e. IsOutside e ⊎ (e ≡ Refused DEFINITIONS_PATH))
  pub noted : AskForTypes words → (bytes : List ℕ) → left ≡ Some bytes → IsNotedText bytes → IfErr r IsOutside
  pub whole : AskForSample words → (bytes : List ℕ) → left ≡ Some bytes → IsSampleText bytes → IfErr r IsOutside
