-- The text goes on by the token's.
use Rattle.schemars_text.proofs.Outputs.{output_of_push}
use Rattle.schemars_text.proofs.output.Output.token.Goals as goal

pub returns : goal.returns
returns c = rw (← c.self.view_is) (output_of_push _ _ _ c.in_ok-token.ensures.ok)
