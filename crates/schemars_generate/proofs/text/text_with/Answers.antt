-- The transforms went through the document with an empty object where its definitions go, and these were put there.
use Rattle.std.proofs.Common.{◌≡◌, sym, ap, ◌∙◌, subst, string_bytes}
use Rattle.schemars_generate.proofs.Words.{view, view-Object, Data, made_by, HasPlaceAt, each_made, with_defs_at, with_names, IfOk-weaker, Members, members_view, no_members, object, IsTextOf, key_for}
use Rattle.serde_json.specs.declared.value.Value.{Object}
use Rattle.schemars_generate.proofs.EarlyTexts.{place_put, own_has_place, own_whole}
use Rattle.schemars_generate.proofs.text.text_with.Goals as goal

pub into_text-requires : goal.into_text-requires
into_text-requires g c =
    let told = c.requires.draft in
    let put_in = place_put told.0 c.args.key.now (string_bytes c.in_ok-place.place) c.args.own c.insert.new.self (view (Object c.new.result))
    c.in_ok-insert.ensures.ok c.in_ok-place.ensures.ok told.2
    (view-Object c.new.result ∙ ap (λ es. object (members_view es)) c.new.ensures.empty) in
    subst (λ k. HasPlaceAt k c.apply_built_in-2.new.schema) (sym told.2)
    (own_has_place c.args.transforms.now.items told.0 told.1 c.args.own c.insert.new.self c.apply_built_in-2.new.schema c.requires.apart
    put_in c.in_ok-apply_built_in-2.ensures)

pub returns-clause-text : goal.returns-clause-text
returns-clause-text g c =
    let told = c.requires.draft in
    let ts = c.args.transforms.now.items in
    let own = c.args.own in
    let store = c.args.store in
    let last = c.apply_built_in-2.new.schema in
    let key = told.2 in
    let put_in = place_put told.0 c.args.key.now (string_bytes c.in_ok-place.place) c.args.own c.insert.new.self (view (Object c.new.result))
    c.in_ok-insert.ensures.ok c.in_ok-place.ensures.ok told.2
    (view-Object c.new.result ∙ ap (λ es. object (members_view es)) c.new.ensures.empty) in
    let some : store ≡ no_members → ⊥ = λ e. let there = c.is_empty.ensures.1 e in cc in
    let made : Members = each_made g.C.Change.made store in
    let whole : made_by ts (with_defs_at (key_for told.0) store own) ≡ with_names (key_for told.0) made last =
    own_whole ts told.0 told.1 own c.insert.new.self last c.requires.apart put_in c.in_ok-apply_built_in-2.ensures
    g.C.Change.made told.3 store some in
    let same : made_by ts (with_defs_at c.args.key.now store own) ≡ with_names c.args.key.now made last =
    ap (λ k. made_by ts (with_defs_at k store own)) key ∙ (whole ∙ ap (λ k. with_names k made last) (sym key)) in
    IfOk-weaker c.into_text.result _ _ (λ t text. subst (λ (d : Data). IsTextOf d (string_bytes t)) (sym same) text) c.into_text.ensures.text
