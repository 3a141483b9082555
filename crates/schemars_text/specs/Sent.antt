-- What a writer that ended has done to its sink.
use Rattle.std.specs.Prelude.{◌≡◌, ◌<◌, Bool, false, Option, length}
use Rattle.std.specs.Io.KnownBytes.{Appends}
use Rattle.schemars_text.specs.Text.{Text}
use Rattle.schemars_text.specs.Sink.{AppendsBeginning}

-- There is one text, which is the stated one unless there are floats, and the sink has taken all of it.
pub record IsSent (floats : Bool) (stated : Text) (old new : Option Text) (has_failed : Bool) : Type 0 where
  pub text : Text
  pub is : floats ≡ false → text ≡ stated
  pub appended : Appends old new text
  pub sound : 0 < length text → has_failed ≡ false

-- or a beginning of it
pub record IsSentInPart (floats : Bool) (stated : Text) (old new : Option Text) : Type 0 where
  pub text : Text
  pub is : floats ≡ false → text ≡ stated
  pub begun : AppendsBeginning old new text
