-- No number before is unknown.
use Rattle.std.proofs.Common.{◌≡◌, drop, nat_le, find}
use Rattle.schemars_shapes.proofs.edges.unknown.first_unknown_among.Given as goal

abbrev pub invariant-loop-n : goal.invariant-loop-n
invariant-loop-n l = find (λ n. nat_le l.len n) (drop l.n-index l.numbers) ≡ find (λ n. nat_le l.len n) l.numbers
