-- The names so far, and those that are left.
use Rattle.std.proofs.Common.{◌≡◌, ◌++◌}
use Rattle.schemars_readable.proofs.Words.{members_view, asked_of, each_name}
use Rattle.schemars_readable.proofs.expressions.add_each_name.Given as goal

abbrev pub invariant-loop-pattern : goal.invariant-loop-pattern
invariant-loop-pattern l =
    asked_of l.asked.items ++ each_name l.place (members_view l.pattern-iterator)
    ≡ asked_of l.fn.asked.items ++ each_name l.place (members_view l.schemas.entries)
