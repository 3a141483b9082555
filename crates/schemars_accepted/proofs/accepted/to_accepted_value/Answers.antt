use Rattle.schemars_accepted.proofs.Words.{view, IsAmong}
use Rattle.schemars_accepted.proofs.Accepting.{accepted}
use Rattle.schemars_accepted.proofs.accepted.to_accepted_value.Goals as goal

pub returns-in-Ok-clause-accepted : goal.returns-in-Ok-clause-accepted
returns-in-Ok-clause-accepted g c =
    accepted (IsAmong g.T.Agrees.readings c.args.value.now) c.args.types.now c.args.n
    (view c.in-Ok.written) c.in-Ok.ensures.belongs c.look.ensures
