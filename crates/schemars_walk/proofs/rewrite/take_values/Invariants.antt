use Rattle.std.proofs.Common.{◌≡◌, ◌++◌}
use Rattle.schemars_walk.proofs.Words.{values_of, values_mut_rest}
use Rattle.schemars_walk.proofs.rewrite.take_values.Given as goal

abbrev pub invariant-loop-value : goal.invariant-loop-value
invariant-loop-value l = l.values.items ++ values_mut_rest l.value-iterator ≡ values_of l.fn.members.entries
