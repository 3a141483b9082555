-- A read that was interrupted has consumed nothing.
use Rattle.std.specs.Io.KnownBytes.{Keeps}
use Rattle.schemagen_run.proofs.streams.read_again.Given as goal

abbrev pub invariant-loop : goal.invariant-loop
invariant-loop g l = Keeps (g.R.Read.remaining l.fn.reader) (g.R.Read.remaining l.reader)
