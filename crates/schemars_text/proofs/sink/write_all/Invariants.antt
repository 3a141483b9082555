-- The sink has taken what is before the rest, and has not failed since the first write.
use Rattle.std.proofs.Common.{◌≡◌, ℕ, ◌<◌, List, ◌++◌, length, false}
use Rattle.std.specs.Io.KnownBytes.{Appends}
use Rattle.schemars_text.proofs.sink.write_all.Given as goal

abbrev pub invariant-loop-rest : goal.invariant-loop-rest
invariant-loop-rest g l = record {
  taken : List ℕ;
  split : l.fn.bytes ≡ taken ++ l.rest;
  appended : Appends (g.K.Sink.bytes l.fn.sink) (g.K.Sink.bytes l.sink) taken;
  sound : length l.rest < length l.fn.bytes → g.K.Sink.has_failed l.sink ≡ false;
}

abbrev pub decreases-loop-rest : goal.decreases-loop-rest
decreases-loop-rest g l = length l.rest
