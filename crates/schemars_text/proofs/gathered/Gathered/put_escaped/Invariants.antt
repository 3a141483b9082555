-- What was written and the escape of the rest make that of the whole.
use Rattle.std.proofs.Common.{◌≡◌, ◌++◌, ℕ, List, length}
use Rattle.schemars_text.proofs.Words.{escape, AddsText}
use Rattle.schemars_text.proofs.gathered.Gathered.put_escaped.Given as goal

abbrev pub invariant-loop-rest : goal.invariant-loop-rest
invariant-loop-rest g l = record {
  written : List ℕ;
  split : written ++ escape l.rest ≡ escape l.text;
  adds : AddsText (g.K.Sink.bytes l.fn.sink) (g.K.Sink.has_failed l.fn.sink) l.fn.self.block.items l.fn.self.failed
      (g.K.Sink.bytes l.sink) (g.K.Sink.has_failed l.sink) l.self.block.items l.self.failed written;
  after : l.self.after_value ≡ l.fn.self.after_value;
}

abbrev pub decreases-loop-rest : goal.decreases-loop-rest
decreases-loop-rest g l = length l.rest
