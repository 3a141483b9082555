use Rattle.schemars_accepted.proofs.Words.{IfOk-weaker, IsUtf8-string_bytes, string_bytes, IsAmong}
use Rattle.schemars_accepted.proofs.Accepting.{accepted_as_read}
use Rattle.schemars_accepted.proofs.accepted.to_accepted_string.Goals as goal

pub returns-clause-accepted : goal.returns-clause-accepted
returns-clause-accepted g c =
    IfOk-weaker c.to_member_string.result _ _ (λ s belongs.
    accepted_as_read (IsAmong g.T.Agrees.readings c.args.value.now) c.args.types.now c.args.n (string_bytes s) belongs
    (IsUtf8-string_bytes s))
    c.to_member_string.ensures.belongs
