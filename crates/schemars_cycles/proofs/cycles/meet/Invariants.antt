-- The numbers before have been met.
use Rattle.std.proofs.Common.{take}
use Rattle.schemars_cycles.specs.Search.{Meets, front_of}
use Rattle.schemars_cycles.proofs.cycles.meet.Given as goal

abbrev pub invariant-loop-m : goal.invariant-loop-m
invariant-loop-m l = Meets (take l.m-index l.numbers) (front_of l.fn.met.items l.fn.waiting.items) (front_of l.met.items l.waiting.items)
