-- Those that are left decide.
use Rattle.std.proofs.Common.{◌≡◌, drop}
use Rattle.schemars_readable.proofs.Words.{is_listed, named}
use Rattle.schemars_readable.proofs.expressions.has_expression.Given as goal

abbrev pub invariant-loop-expression : goal.invariant-loop-expression
invariant-loop-expression l =
    is_listed l.pattern (named (drop l.expression-index l.expressions)) ≡ is_listed l.pattern (named l.expressions)
