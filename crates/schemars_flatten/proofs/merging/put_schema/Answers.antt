-- What the parts put in is what the whole has.
use Rattle.std.proofs.Common.{◌≡◌, refl, sym, ap, ◌∙◌, rules}
use Rattle.schemars_flatten.proofs.Words.{on_ok_weaker, object, boolean, view, members_view, view-Object, united_all, opened_keywords}
use Rattle.serde_json.specs.declared.value.Value.{Bool, the_lemmas}
use Rattle.schemars_flatten.proofs.Parts.{flattened_object, flattened_opened, flattened_kept}
use Rattle.schemars_flatten.proofs.merging.put_schema.Goals as goal

pub returns-in-Object : goal.returns-in-Object
returns-in-Object c =
    let old = members_view c.in_ok-members-in-Object.members.now.entries in
    let others = members_view c.in-Object.others.entries in
    let left = members_view c.unite.new.members.entries in
    let is = sym c.in-Object.ensures.value ∙ view-Object c.in-Object.others in
    on_ok_weaker c.unite.result
    (λ (united : left ≡ united_all old others).
    flattened_object c.args.schema.now c.args.other
    (object left) old left others c.in_ok-members-in-Object.ensures.value is united refl)
    c.unite.ensures

pub returns-in-Some : goal.returns-in-Some
returns-in-Some c =
    let old = members_view c.in-Some.members.now.entries in
    let left = members_view c.open.new.members.entries in
    let seen : view (Bool c.in-Bool-true.field-0) ≡ boolean c.in-Bool-true.field-0 = search (rules, the_lemmas) in
    let is = sym c.in-Bool-true.ensures.value ∙ seen in
    on_ok_weaker c.open.result
    (λ (opens : left ≡ opened_keywords old).
    flattened_opened c.args.schema.now c.args.other (object left) old left c.in-Some.ensures.value
    (is ∙ ap boolean c.in-Bool-true.field-0-test) opens refl)
    c.open.ensures

pub returns-in-Bool-true : goal.returns-in-Bool-true
returns-in-Bool-true c =
    let seen : view (Bool c.in-Bool-true.field-0) ≡ boolean c.in-Bool-true.field-0 = search (rules, the_lemmas) in
    let is = sym c.in-Bool-true.ensures.value ∙ seen in
    flattened_kept c.args.schema.now c.args.other c.in-None.ensures.value (is ∙ ap boolean c.in-Bool-true.field-0-test)
