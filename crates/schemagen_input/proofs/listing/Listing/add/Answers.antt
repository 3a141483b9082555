-- A row's heading and its entry join those before, unless its id is there already.
use Rattle.std.proofs.Common.{◌≡◌, true, false, is_some, map, subst, sym, ap, ◌∙◌, ◌++◌, ◌∷◌, [], string_bytes}
use Rattle.schemagen_input.proofs.Words.{map-push, entry_of, place_of, AreListed}
use Rattle.schemagen_input.proofs.RowByRow.{listed_more, with_known_id}
use Rattle.schemagen_input.proofs.listing.Listing.add.Goals as goal

pub returns-then-is_some-clause-bad : goal.returns-then-is_some-clause-bad
returns-then-is_some-clause-bad c = λ _ ds d row listed.
    let r = c.args.row in
    let there : is_some (place_of (string_bytes r.id) c.args.self.now.types) ≡ true =
    ap (λ i. is_some (place_of i c.args.self.now.types)) (sym c.as_str.ensures.value) ∙ ap is_some (sym c.find.ensures) ∙ sym c.if-is_some.ensures in
    with_known_id ds d _ _ (string_bytes r.id) (string_bytes r.name) listed row.0 there

pub returns-clause-ok : goal.returns-clause-ok
returns-clause-ok c = λ ds d row listed.
    let r = c.args.row in
    let absent : is_some (place_of (string_bytes r.id) c.args.self.now.types) ≡ false =
    ap (λ i. is_some (place_of i c.args.self.now.types)) (sym c.as_str.ensures.value) ∙ ap is_some (sym c.find.ensures) ∙ sym c.if-is_some.ensures in
    let entries = map-push entry_of c.args.self.now.entries.items r.entry in
    subst (AreListed (ds ++ d ∷ []) c.reserve.new.self) (sym entries ∙ ap (map entry_of) (sym c.in_ok-push.ensures.items))
    (listed_more ds d _ _ (string_bytes r.id) (string_bytes r.name) (entry_of r.entry) c.reserve.new.self listed row.0 absent row.1
    c.in_ok-reserve.ensures.ok)
