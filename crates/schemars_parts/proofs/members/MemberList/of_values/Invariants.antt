-- The members so far, and then those that are left, are all.
use Rattle.std.proofs.Common.{◌≡◌, ◌++◌, map}
use Rattle.schemars_parts.proofs.Words.{named_view}
use Rattle.schemars_parts.proofs.Lists.{named_value}
use Rattle.schemars_parts.proofs.members.MemberList.of_values.Given as goal

abbrev pub invariant-loop-name : goal.invariant-loop-name
invariant-loop-name l = map named_view l.list.items ++ map named_value l.name-iterator ≡ map named_value l.values.entries
