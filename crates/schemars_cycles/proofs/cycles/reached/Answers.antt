use Rattle.std.proofs.Common.{◌∙◌, List, ℕ, Contains, length, ap, sym, subst, arith, refl, true}
use Rattle.schemars_cycles.proofs.Words.{slice_get_within, length-replicate, Contains-push, front_of}
use Rattle.schemars_cycles.proofs.GraphLemmas.{is_empty}
use Rattle.schemars_cycles.proofs.Reaching.{under_way_first, under_way_next, all_reached}
use Rattle.schemars_cycles.proofs.cycles.reached.Goals as goal

pub loop-n-init : goal.loop-n-init
loop-n-init c =
    let fresh = c.in_ok-met.ensures.items_if_clones_equal (λ y e. e) in
    under_way_first c.args.graph.now c.args.from (front_of c.in_ok-met.met.items c.new-waiting.result.items) _ fresh
    c.new-waiting.ensures.items (ap length fresh ∙ length-replicate _ _) c.in_ok-meet_targets.ensures

pub meet_targets-requires-in-Some-clause-within : goal.meet_targets-requires-in-Some-clause-within
meet_targets-requires-in-Some-clause-within c =
    let waits = subst (λ (ns : List ℕ). Contains ns c.in-Some.n) (sym c.in-Some.ensures.items)
    (Contains-push c.pop.new.self.items c.in-Some.n) in
    let met = c.loop-n.invariant.waits_met c.in-Some.n waits in
    omega (arith, slice_get_within c.loop-n.met.items c.in-Some.n true met.at, c.loop-n.invariant.same_length)

pub loop-n-preserved : goal.loop-n-preserved
loop-n-preserved c = under_way_next _ _ c.in-Some.n _ (front_of c.loop-n.met.items c.pop.new.self.items) _ c.loop-n.invariant
    c.in-Some.ensures.items refl c.in_ok-meet_targets-2.ensures

pub returns-clause-reached : goal.returns-clause-reached
returns-clause-reached c = all_reached _ _ (front_of c.loop-n.met.items c.loop-n.waiting.items) c.loop-n.invariant
    (is_empty c.loop-n.waiting.items (omega (arith, c.in_default.ensures.cases.0)))
