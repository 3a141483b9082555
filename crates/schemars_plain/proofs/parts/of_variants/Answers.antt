use Rattle.std.proofs.Common.{arith}
use Rattle.schemars_plain.proofs.Words.{common_steps}
use Rattle.schemars_plain.proofs.Flattened.{all_append, all_first, all_rest}
use Rattle.schemars_plain.proofs.parts.of_variants.Goals as goal

pub returns-then-not-are_plain_parts : goal.returns-then-not-are_plain_parts
returns-then-not-are_plain_parts g c = grind (arith, common_steps, all_first)

pub loop-variant-preserved : goal.loop-variant-preserved
loop-variant-preserved g c = grind (arith, common_steps, all_append, all_rest)
