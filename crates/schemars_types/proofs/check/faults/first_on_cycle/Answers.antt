use Rattle.std.proofs.Common.{sym, subst, arith}
use Rattle.schemars_types.proofs.Words.{OnTrue_at, MatchOption-at_some, MatchOption-at_none, Graph, IsClosed, targets_in, Leads, OnCycle, IsFree, IsLeast}
use Rattle.schemars_types.proofs.Ascending.{free_from_ascending}
use Rattle.schemars_types.proofs.EdgeLemmas.{graph_closed, found_within, none_on_cycle, least_on_cycle}
use Rattle.schemars_types.proofs.check.faults.first_on_cycle.Goals as goal

pub returns-then-is_free : goal.returns-then-is_free
returns-then-is_free c =
    free_from_ascending c.args.kind c.args.types.now c.args.from (OnTrue_at c.if-is_free.true c.in_ok-is_free.ensures)

pub least_on_cycle-requires : goal.least_on_cycle-requires
least_on_cycle-requires c = subst (λ (g : Graph). IsClosed g) (sym c.deref.ensures.value)
    (graph_closed c.args.kind c.args.types.now c.args.from c.in_ok-graph.graph.items c.in_ok-graph.ensures)

pub overflow_add-result : goal.overflow_add-result
overflow_add-result c =
    let P : Graph → Type 0 = λ g. IsLeast (OnCycle (Leads (targets_in g))) c.in-Some.n in
    let found = subst P c.deref.ensures.value (MatchOption-at_some _ _ _ c.in-Some.is c.in_ok-n.ensures) in
    let below = found_within c.args.kind c.args.types.now c.args.from c.in_ok-graph.graph.items c.in_ok-graph.ensures c.in-Some.n found.0 in
    omega (arith, below, c.len-len.ensures.len)

pub returns-in-Some : goal.returns-in-Some
returns-in-Some c =
    let P : Graph → Type 0 = λ g. IsLeast (OnCycle (Leads (targets_in g))) c.in-Some.n in
    let found = subst P c.deref.ensures.value (MatchOption-at_some _ _ _ c.in-Some.is c.in_ok-n.ensures) in
    least_on_cycle c.args.kind c.args.types.now c.args.from c.in_ok-graph.graph.items c.in_ok-graph.ensures c.in-Some.n found

pub returns : goal.returns
returns c =
    let P : Graph → Type 0 = λ g. IsFree (OnCycle (Leads (targets_in g))) in
    none_on_cycle c.args.kind c.args.types.now c.args.from c.in_ok-graph.graph.items c.in_ok-graph.ensures
    (subst P c.deref.ensures.value (MatchOption-at_none _ _ c.in-None.is c.in_ok-n.ensures))
