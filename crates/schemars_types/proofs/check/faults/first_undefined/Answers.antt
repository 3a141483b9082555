use Rattle.std.proofs.Common.{◌<◌, ◌∙◌, length, sym, arith}
use Rattle.schemars_types.proofs.Names.{none_from_not_some}
use Rattle.schemars_types.proofs.check.faults.first_undefined.Goals as goal

pub returns-then-is_none-clause-first : goal.returns-then-is_none-clause-first
returns-then-is_none-clause-first c =
    let below : c.loop-n.n < length c.args.types.now = omega (arith, c.len-n-end.ensures.len) in
    let none = sym c.entry.ensures ∙ none_from_not_some _ _ c.if-is_none.ensures in
    ((c.loop-n.auto.n, (below, none)), λ k before fault. c.loop-n.invariant k fault.0 before fault.1)

pub returns-clause-first : goal.returns-clause-first
returns-clause-first c = λ k fault. let below : k < length c.args.types.now = fault.1.0 in
    c.loop-n.invariant k fault.0 (omega (arith, c.len-n-end.ensures.len)) fault.1
