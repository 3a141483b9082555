use Rattle.std.proofs.Common.{reverse}
use Rattle.schemars_build.proofs.Words.{wanted, measure_of_turn, plan_of, GoesOn}
use Rattle.schemars_build.proofs.build.run.Given as goal

abbrev pub invariant-going : goal.invariant-going
invariant-going g l = GoesOn (plan_of l.plan) l.in_definition l.fn.registry (wanted l.fn.request) l.registry (reverse l.making.items) l.answer

abbrev pub decreases-going : goal.decreases-going
decreases-going g l = measure_of_turn (plan_of l.plan) l.registry (reverse l.making.items) l.answer
