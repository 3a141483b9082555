-- A source that has failed gives no bytes.
use Rattle.schemagen_run.proofs.streams.read_all.Goals as goal

pub returns-in_default-clause-bytes : goal.returns-in_default-clause-bytes
returns-in_default-clause-bytes g c = tt

pub returns-in_default-clause-end : goal.returns-in_default-clause-end
returns-in_default-clause-end g c = tt

pub returns-in_default-clause-sound : goal.returns-in_default-clause-sound
returns-in_default-clause-sound g c = tt
