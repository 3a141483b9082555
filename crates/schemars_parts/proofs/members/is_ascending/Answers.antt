use Rattle.std.proofs.Common.{◌+◌, ◌-◌, drop, subst, sym, ◌∙◌, arith}
use Rattle.schemars_parts.proofs.Words.{IsSorted, members_assembled}
use Rattle.schemars_parts.proofs.Lists.{sorted_from, sorted_last}
use Rattle.schemars_parts.proofs.members.is_ascending.Goals as goal

pub loop-next-preserved : goal.loop-next-preserved
loop-next-preserved c = λ later.
    let es = c.args.members.now.items in
    let n = c.loop-next.next in
    let rest : IsSorted (members_assembled (drop n es)) =
    subst (λ k. IsSorted (members_assembled (drop k es))) {x = n + 1 - 1} {y = n} (omega arith) later in
    c.loop-next.invariant
    (sorted_from es (n - 1) n c.index.result.now c.index-in-loop-next.result.now (omega arith) (omega arith) c.index.ensures
    c.index-in-loop-next.ensures (sym c.ge.ensures ∙ c.if-ge.false) rest)

pub returns : goal.returns
returns c = λ _. c.loop-next.invariant (sorted_last c.args.members.now.items (c.loop-next.next - 1) (omega arith))
