-- What a step of writing does to what a sink and a block hold.
use Rattle.std.specs.Prelude.{◌++◌, Bool, Option}
use Rattle.schemars_text.specs.Text.{Text}
use Rattle.schemars_text.specs.Target.{IsGathered}

-- Whatever text was written before, it is written now with more at its end.
abbrev pub AddsText : Option Text → Bool → Text → Bool → Option Text → Bool → Text → Bool → Text → Type 0
AddsText old_bytes old_has_failed old_block old_failed bytes has_failed block failed more =
    (start : Option Text) (text : Text) → IsGathered start text old_bytes old_has_failed old_block old_failed
    → IsGathered start (text ++ more) bytes has_failed block failed
