-- The expressions that are left decide.
use Rattle.std.proofs.Common.{◌≡◌, drop}
use Rattle.schemars_validator.specs.Asked.{some_has}
use Rattle.schemars_validator.proofs.reading.is_matched.Given as goal

abbrev pub invariant-loop-it : goal.invariant-loop-it
invariant-loop-it l = some_has (drop l.it-index l.matched) l.pattern l.text ≡ some_has l.matched l.pattern l.text
