use Rattle.std.proofs.Common.{rules}
use Rattle.schemars_walk.proofs.value.on_value.Goals as goal

pub returns-in_ok-answer-in-Ok : goal.returns-in_ok-answer-in-Ok
returns-in_ok-answer-in-Ok g c = search rules
