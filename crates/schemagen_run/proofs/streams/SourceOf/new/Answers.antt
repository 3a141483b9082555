-- A new source has not failed, and has the reader's bytes.
use Rattle.std.proofs.Common.{refl}
use Rattle.schemagen_run.proofs.streams.SourceOf.new.Goals as goal

pub returns-clause-bytes : goal.returns-clause-bytes
returns-clause-bytes g c = refl

pub returns-clause-sound : goal.returns-clause-sound
returns-clause-sound g c = refl
