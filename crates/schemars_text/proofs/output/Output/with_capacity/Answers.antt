-- No token gives no text.
use Rattle.std.proofs.Common.{ap}
use Rattle.schemars_text.proofs.Words.{print_from}
use Rattle.schemars_text.proofs.Outputs.{output_of}
use Rattle.schemars_text.proofs.output.Output.with_capacity.Goals as goal

pub returns : goal.returns
unfolding print_from
returns c = ap output_of c.new.ensures.tokens
