use Rattle.std.proofs.Common.{◌≡◌, ◌∙◌, ℕ, List, Contains, get_or, sym, ap, subst, arith}
use Rattle.schemars_cycles.proofs.Words.{Contains-get_or, targets_in, Meets, front_of}
use Rattle.schemars_cycles.proofs.GraphLemmas.{targets_in-get_or}
use Rattle.schemars_cycles.proofs.cycles.meet_targets.Goals as goal

targets : (c : goal.After-deref) → targets_in c.args.graph.now c.args.n ≡ c.deref.result.now
targets c = targets_in-get_or c.args.graph.now c.args.n c.index-graph-n.result c.requires.within
    ∙ ap (λ v. v.items) (sym c.index-graph-n.is) ∙ sym c.deref.ensures.value

pub meet-requires : goal.meet-requires
meet-requires c = λ k d below.
    let among : Contains c.deref.result.now (get_or c.deref.result.now k d) = Contains-get_or c.deref.result.now k d below in
    let within = c.requires.closed.within c.args.n (get_or c.deref.result.now k d)
    (subst (λ (ms : List ℕ). Contains ms (get_or c.deref.result.now k d)) (sym (targets c)) among) in
    omega (arith, c.requires.len)

pub returns : goal.returns
returns c =
    let P : List ℕ → Type 0 = λ ms. Meets ms (front_of c.args.met.now.items c.args.waiting.now.items)
    (front_of c.meet.new.met.items c.meet.new.waiting.items) in
    let same = targets_in-get_or c.args.graph.now c.args.n c.index-graph-n.result c.requires.within
    ∙ ap (λ v. v.items) (sym c.index-graph-n.is) ∙ sym c.deref.ensures.value in
    subst P (sym same) c.in_ok-meet.ensures
