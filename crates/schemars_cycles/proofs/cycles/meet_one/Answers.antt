use Rattle.std.proofs.Common.{◌∷◌, ◌∙◌, [], List, ℕ, true, sym, subst, ap, Some, slice_set}
use Rattle.schemars_cycles.proofs.Words.{slice_get-get_or, Meets, front_of}
use Rattle.schemars_cycles.proofs.Reaching.{meets_new, meets_met}
use Rattle.schemars_cycles.proofs.cycles.meet_one.Goals as goal

pub returns-in_ok-push : goal.returns-in_ok-push
returns-in_ok-push c =
    let P : List ℕ → Type 0 = λ w. Meets (c.args.m ∷ []) (front_of c.args.met.now.items c.args.waiting.now.items)
    (front_of (slice_set c.args.met.now.items c.args.m true) w) in
    subst P (sym c.in_ok-push.ensures.items) (meets_new c.args.met.now.items c.args.waiting.now.items c.args.m c.index.result.now
    c.requires (sym c.index.ensures ∙ c.if-not-index.true))

pub returns-else-not-index : goal.returns-else-not-index
returns-else-not-index c =
    meets_met (front_of c.args.met.now.items c.args.waiting.now.items) c.args.m
    (record {
      at = slice_get-get_or c.args.met.now.items c.args.m c.index.result.now c.requires
          ∙ ap Some (sym c.index.ensures ∙ c.if-not-index.false);
    })
