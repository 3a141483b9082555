-- A new sink has not failed, and has the writer's bytes.
use Rattle.std.proofs.Common.{refl}
use Rattle.schemars_text.proofs.sink.SinkOf.new.Goals as goal

pub returns-clause-bytes : goal.returns-clause-bytes
returns-clause-bytes g c = refl

pub returns-clause-sound : goal.returns-clause-sound
returns-clause-sound g c = refl
