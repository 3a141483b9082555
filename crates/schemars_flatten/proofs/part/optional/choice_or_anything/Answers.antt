-- Where there is no `oneOf`, nothing is removed.
use Rattle.schemars_flatten.proofs.Optional.{no_choice}
use Rattle.schemars_flatten.proofs.part.optional.choice_or_anything.Goals as goal

pub returns-in-None : goal.returns-in-None
returns-in-None c =
    no_choice c.args.schema.now c.remove.new.self c.in-None.ensures.value c.in-None.ensures.removed
