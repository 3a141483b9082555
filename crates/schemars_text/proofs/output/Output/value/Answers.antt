-- Where memory did not run out, the value was written.
use Rattle.std.proofs.Common.{None, refl, ◌∙◌}
use Rattle.schemars_text.proofs.output.Output.value.Goals as goal

pub returns-in-None : goal.returns-in-None
returns-in-None c = λ whole.
    let (p, held, written) = c.write_value.ensures None c.args.self.now (λ _. refl) in
    held c.in-None.is ∙ written whole
