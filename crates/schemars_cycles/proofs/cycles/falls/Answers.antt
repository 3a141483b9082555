use Rattle.std.proofs.Common.{◌≡◌, ◌<◌, ◌∙◌, ℕ, List, All, length, slice_index, ap, sym, subst, arith}
use Rattle.schemars_cycles.proofs.Words.{targets_in}
use Rattle.schemars_cycles.proofs.GraphLemmas.{targets_in-get_or, targets_in-within, falls_more}
use Rattle.schemars_cycles.proofs.cycles.falls.Goals as goal

pub loop-n-preserved : goal.loop-n-preserved
loop-n-preserved c =
    let n = c.loop-n.n in
    let ranks = c.args.ranks.now in
    let below : n < length c.args.graph.now = omega arith in
    let targets : c.deref.result.now ≡ targets_in c.args.graph.now n =
    c.deref.ensures.value ∙ ap (λ v. v.items) c.index-graph-n.is ∙ sym
    (targets_in-get_or c.args.graph.now n c.index-graph-n.result below) in
    let P : List ℕ → Type 0 = λ ms. All (λ m. slice_index ranks m < c.rank_of.result) ms in
    let Q : ℕ → Type 0 = λ bound. All (λ m. slice_index ranks m < bound) (targets_in c.args.graph.now n) in
    falls_more c.args.graph.now ranks n c.loop-n.invariant (subst Q c.rank_of.ensures (subst P targets c.if-not-are_below.ensures))

pub returns : goal.returns
returns c = record {
  falls = λ n m among. let below = targets_in-within c.args.graph.now n m among in
      c.loop-n.invariant n m (omega arith) among;
}
