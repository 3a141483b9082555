-- Four tokens.
use Rattle.std.proofs.lemmas.Result.{on_ok_weaker}
use Rattle.schemars_parts.proofs.Written.{lone_reference}
use Rattle.schemars_parts.proofs.writing.write_reference.Goals as goal

pub returns : goal.returns
returns c = on_ok_weaker c.token-4.result (λ last layout _.
    lone_reference _ _ _ _ _ layout c.args.target.now c.in_ok-token.ensures c.in_ok-token-2.ensures c.in_ok-token-3.ensures last) c.token-4.ensures
