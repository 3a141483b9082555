use Rattle.std.proofs.Common.{◌≡◌, [], rules, sym, subst}
use Rattle.schemars_parts.proofs.Words.{IsSorted, sorted-entries}
use Rattle.schemars_parts.proofs.Lists.{all_values}
use Rattle.schemars_parts.proofs.members.MemberList.of_values.Goals as goal

-- The names of a map ascend.
pub invariant_of-result : goal.invariant_of-result
invariant_of-result c =
    let all = c.args.values.now.entries in
    let ends : c.loop-name.name-iterator ≡ [] = search rules in
    subst IsSorted (sym (all_values c.loop-name.list.items c.loop-name.name-iterator all ends c.loop-name.invariant))
    (sorted-entries all c.len.ensures.ordered)

pub returns : goal.returns
returns c =
    let ends : c.loop-name.name-iterator ≡ [] = search rules in
    all_values c.loop-name.list.items c.loop-name.name-iterator c.args.values.now.entries ends c.loop-name.invariant
