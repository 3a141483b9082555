use Rattle.std.proofs.Common.{◌≡◌, ◌∷◌, string_bytes, sym, subst, rules}
use Rattle.schemars_walk.proofs.Words.{view, members_view, NoSchemas, Entry, all_unread}
use Rattle.schemars_walk.proofs.rewrite.holds_schemas.Goals as goal

pub loop-key-init : goal.loop-key-init
loop-key-init g c = subst (λ es. all_unread (g.R.Rule.rules.place c.args.rule) (members_view es) → all_unread (g.R.Rule.rules.place
    c.args.rule) (members_view c.args.members.now.entries)) (search rules) (λ h. h)

pub loop-key-preserved : goal.loop-key-preserved
loop-key-preserved g c =
    let place = g.R.Rule.rules.place c.args.rule in
    let e : Entry = (c.in-Some.key.now, c.in-Some.value.now) in
    let step : c.loop-key.key-iterator ≡ e ∷ c.next.new.self = search rules in
    let none : place (string_bytes e.0) (view e.1) ≡ NoSchemas = search rules in
    λ h. c.loop-key.invariant (subst (λ es. all_unread place (members_view es)) (sym step) (none, h))

pub returns : goal.returns
returns g c = λ no. c.loop-key.invariant (subst (λ es. all_unread (g.R.Rule.rules.place c.args.rule) (members_view es)) (sym
    (c.in-None.ensures.steps.0)) tt)
