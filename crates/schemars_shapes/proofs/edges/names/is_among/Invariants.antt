-- None of those before is the name.
use Rattle.std.proofs.Common.{◌≡◌, false, take}
use Rattle.schemars_shapes.proofs.Words.{list_any, bytes_eq}
use Rattle.schemars_shapes.proofs.edges.names.is_among.Given as goal

abbrev pub invariant-loop-other : goal.invariant-loop-other
invariant-loop-other l = list_any (λ n. bytes_eq l.name n.now) (take l.other-index l.names) ≡ false
