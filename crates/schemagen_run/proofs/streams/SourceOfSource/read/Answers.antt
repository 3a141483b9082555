-- The reader's bytes are the source's.
use Rattle.schemagen_run.proofs.streams.SourceOfSource.read.Goals as goal

pub returns-in-Ok-clause-bytes : goal.returns-in-Ok-clause-bytes
returns-in-Ok-clause-bytes g c = c.in-Ok.ensures.bytes
