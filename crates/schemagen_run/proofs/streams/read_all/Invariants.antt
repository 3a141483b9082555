-- What has been read so far is what the source has lost, and no read has failed.
use Rattle.std.proofs.Common.{◌≡◌, ◌<◌, false}
use Rattle.std.specs.Io.KnownBytes.{Consumes}
use Rattle.schemagen_run.proofs.streams.read_all.Given as goal

abbrev pub invariant-loop : goal.invariant-loop
invariant-loop g l = record {
  bytes : Consumes (g.S.Source.left l.fn.source) (g.S.Source.left l.source) l.all.items;
  sound : 0 < l.counter → g.S.Source.has_failed l.source ≡ false;
}
