-- What a sink holds after a line was to be written to it.
use Rattle.std.specs.Prelude.{◌≡◌, ◌≢◌, Bool, false, Option, Result, Err, OnOk, IfErr, IsTrue}
use Rattle.std.specs.Io.KnownBytes.{Appends}
use Rattle.schemars_schema.specs.Json.{Text}
use Rattle.schemars_text.specs.Sink.{AppendsBeginning}
use Rattle.schemagen_run.specs.declared.fault.Fault.{Fault}
use Rattle.schemagen_run.specs.declared.fault.Fault.TheVariants.{Refused}
use Rattle.schemagen_run.specs.declared.fault.TheConstants.{WRITE}

-- It has taken a line of which P holds, or a beginning of one where it has failed, and nothing at any other refusal.
pub record WritesLine {S T : Type 0} (bytes : S → Option Text) (has_failed : S → Bool) (P : Text → Type 0) (r : Result T Fault)
    (old new : S) : Type 0 where
  pub done : OnOk r ((line : Text) × P line × Appends (bytes old) (bytes new) line)
  pub write : r ≡ Err (Refused WRITE) → (line : Text) × P line × AppendsBeginning (bytes old) (bytes new) line
  pub failed : r ≡ Err (Refused WRITE) → IsTrue (has_failed new)
  pub sound : OnOk r (has_failed new ≡ false)
  pub unwritten : IfErr r (λ e. e ≢ Refused WRITE → new ≡ old)
