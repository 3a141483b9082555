-- The patterns that have expressions, and those that are left.
use Rattle.std.proofs.Common.{◌≡◌, [], drop}
use Rattle.schemars_readable.specs.Expressions.{AreOwn, asked_of, named, with_patterns}
use Rattle.schemars_readable.proofs.expressions.compiled.Given as goal

abbrev pub invariant-loop-it : goal.invariant-loop-it
invariant-loop-it l =
    (with_patterns (named l.expressions.items) (asked_of (drop l.it-index l.asked)) ≡ with_patterns [] (asked_of l.asked))
    × AreOwn l.expressions.items
