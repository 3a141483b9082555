use Rattle.std.proofs.Common.{◌≡◌, ◌∷◌, ◌++◌, [], map, string_bytes, sym, ap, ◌∙◌, rules}
use Rattle.schemars_walk.proofs.Words.{view, members_view, Entry, place_meant, member_places}
use Rattle.schemars_walk.proofs.Parts.{place_added, none_left}
use Rattle.schemars_walk.proofs.rewrite.places_in.Goals as goal

pub loop-key-init : goal.loop-key-init
loop-key-init g c =
    let place = g.R.Rule.rules.place c.args.rule in
    ap (λ ps. map place_meant ps ++ member_places place (members_view c.into_iter-key-iterator.result)) c.in_ok-places.ensures.items
    ∙ ap (λ es. member_places place (members_view es)) (search rules)

pub loop-key-preserved : goal.loop-key-preserved
loop-key-preserved g c =
    let place = g.R.Rule.rules.place c.args.rule in
    let e : Entry = (c.in-Some.key.now, c.in-Some.value.now) in
    let step : c.loop-key.key-iterator ≡ e ∷ c.next.new.self = search rules in
    let here : place_meant c.place.result ≡ place (string_bytes e.0) (view e.1) = search rules in
    let pushed : c.push.new.self.items ≡ c.loop-key.places.items ++ c.place.result ∷ [] = search rules in
    place_added place c.loop-key.places.items c.push.new.self.items c.place.result e c.next.new.self pushed here
    ∙ ap (λ es. map place_meant c.loop-key.places.items ++ member_places place (members_view es)) (sym step)
    ∙ c.loop-key.invariant

pub returns : goal.returns
returns g c =
    let place = g.R.Rule.rules.place c.args.rule in
    none_left (map place_meant c.loop-key.places.items)
    ∙ ap (λ es. map place_meant c.loop-key.places.items ++ member_places place (members_view es)) (sym c.in-None.ensures.steps.0)
    ∙ c.loop-key.invariant
