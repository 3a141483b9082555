-- The numbers before are counted from there already.
use Rattle.std.proofs.Common.{◌≡◌, ◌-◌, ◌++◌, map, take, drop}
use Rattle.schemars_types.proofs.check.faults.count_from.Given as goal

abbrev pub invariant-loop-n : goal.invariant-loop-n
invariant-loop-n l = take l.n-index l.numbers ++ map (λ n. n - l.from) (drop l.n-index l.numbers) ≡ map (λ n. n - l.from) l.fn.numbers
