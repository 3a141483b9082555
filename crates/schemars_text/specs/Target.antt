-- What a place holds that text is written to.
use Rattle.std.specs.Prelude.{◌≡◌, ◌<◌, ◌++◌, Bool, true, false, Option, IsTrue, length}
use Rattle.std.specs.Io.KnownBytes.{Appends}
use Rattle.schemars_text.specs.Text.{Text}
use Rattle.schemars_text.specs.Output.{Output}

-- which outputs a place may hold, after the bytes that its sink held
abbrev pub Holds : Type 1
Holds = Option Text → Output → Type 0

-- Whatever the place held before, it holds an output now: that of f, unless there are floats.
abbrev pub Becomes : Holds → Holds → Bool → (Output → Output) → Type 0
Becomes old new floats f = (start : Option Text) (o : Output) → old start o → (p : Output) × new start p × (floats ≡ false → p ≡ f o)

-- Text was written after the bytes at the start: a front of it is in the sink, and the rest in the block unless the sink has failed.
pub record IsGathered (start : Option Text) (text : Text) (bytes : Option Text) (has_failed : Bool) (block : Text) (failed : Bool)
    : Type 0 where
  pub sent : Text
  pub rest : Text
  pub whole : text ≡ sent ++ rest
  pub appended : Appends start bytes sent
  pub gathered : failed ≡ false → rest ≡ block
  pub why : failed ≡ true → IsTrue has_failed
  pub sound : failed ≡ false → 0 < length sent → has_failed ≡ false
