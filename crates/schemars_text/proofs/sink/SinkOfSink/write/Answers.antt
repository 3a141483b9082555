-- A write that takes no byte of some is a failure.
use Rattle.std.proofs.Common.{rules}
use Rattle.schemars_text.proofs.sink.SinkOfSink.write.Goals as goal

pub returns-in-Ok-clause-some : goal.returns-in-Ok-clause-some
returns-in-Ok-clause-some g c = search rules
