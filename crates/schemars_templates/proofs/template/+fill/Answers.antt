use Rattle.std.proofs.Common.{◌≡◌, ◌≤◌, ℕ, [], map, max, refl, ap, sym, ◌∙◌, subst, arith, rules, Bor}
use Rattle.schemars_templates.proofs.Words.{most, object, members_view, view-Object, filled, left, ask_of, template_view, property_view, with_answers, Text}
use Rattle.schemars_templates.proofs.Answering.{answers_later}
use Rattle.schemars_templates.specs.declared.template.SchemaTemplate.{SchemaTemplate, size-SchemaTemplate}
use Rattle.schemars_templates.specs.declared.template.ValueTemplate.{ValueTemplate, size-ValueTemplate}
use Rattle.schemars_templates.proofs.Templates.{none_left, taken_within}
use Rattle.schemars_templates.proofs.template.+fill.Invariants.{put_filled}
use Rattle.schemars_templates.proofs.template.+fill.Goals as goal

-- A template in a list is no deeper than the list.
pub fill_object-fill_value-requires : goal.fill_object-fill_value-requires
fill_object-fill_value-requires t c =
    let start : c.into_iter-key-iterator.result.rest.items ≡ c.args.keywords.items = search rules in
    let size : Bor Text × ValueTemplate → ℕ = λ e. max 0 (max (size-ValueTemplate e.1) 0) in
    let inside = taken_within size c.into_iter-key-iterator.result c.loop-key.key-iterator c.loop-key.yielded
    (c.in-Some.key, c.in-Some.template) c.next.new.self.rest.items c.loop-key.yielded_by c.in-Some.ensures.steps.0 in
    let below : size-ValueTemplate c.in-Some.template ≤ most size c.args.keywords.items =
    subst (λ es. size-ValueTemplate c.in-Some.template ≤ most size es) start (omega (arith, inside)) in
    (omega (arith, below, c.decreases), tt)

pub fill_named-fill_schema-requires : goal.fill_named-fill_schema-requires
fill_named-fill_schema-requires t c =
    let start : c.into_iter-name-iterator.result.rest.items ≡ c.args.schemas.items = search rules in
    let size : Bor Text × SchemaTemplate → ℕ = λ e. max 0 (max (size-SchemaTemplate e.1) 0) in
    let inside = taken_within size c.into_iter-name-iterator.result c.loop-name.name-iterator c.loop-name.yielded
    (c.in-Some.name, c.in-Some.template) c.next.new.self.rest.items c.loop-name.yielded_by c.in-Some.ensures.steps.0 in
    let below : size-SchemaTemplate c.in-Some.template ≤ most size c.args.schemas.items =
    subst (λ es. size-SchemaTemplate c.in-Some.template ≤ most size es) start (omega (arith, inside)) in
    (omega (arith, below, c.decreases), tt)

-- No template is left, so nothing more is put in.
pub fill_named-returns-clause-value : goal.fill_named-returns-clause-value
fill_named-returns-clause-value t c =
    let none : c.loop-name.name-iterator.rest.items ≡ [] = none_left _
    (first_of (
      omega (arith, c.in-None.ensures.steps, c.loop-name.name-iterator.rest.ok.0),
      grind (arith, c.in-None.ensures.steps, c.loop-name.name-iterator.rest.ok.0),
    )) in
    view-Object c.loop-name.members
    ∙ ap object (ap (λ es. put_filled (map property_view es) c.loop-name.parts.items (members_view c.loop-name.members.entries)) (sym none)
    ∙ c.loop-name.invariant.value)

-- The inner template is filled first, and then the members join.
pub fill_with_members-returns-clause-value : goal.fill_with_members-returns-clause-value
fill_with_members-returns-clause-value t c =
    let asks = map ask_of c.deref.result.now in
    c.in_ok-add_members.ensures.value
    ∙ answers_later filled (λ u us. refl) _ asks _
    (ap (λ b. with_answers (template_view b) asks) c.into_inner.ensures
    ∙ ap (λ ms. with_answers (template_view c.args.inner.value) (map ask_of ms)) c.deref.ensures.value)
    c.args.parts.now.items c.fill_schema.new.parts.items _ c.in_ok-schema.ensures.value c.in_ok-schema.ensures.left

pub fill_with_members-returns-clause-left : goal.fill_with_members-returns-clause-left
fill_with_members-returns-clause-left t c =
    let asks = map ask_of c.deref.result.now in
    c.in_ok-add_members.ensures.left
    ∙ answers_later left (λ u us. refl) _ asks _
    (ap (λ b. with_answers (template_view b) asks) c.into_inner.ensures
    ∙ ap (λ ms. with_answers (template_view c.args.inner.value) (map ask_of ms)) c.deref.ensures.value)
    c.args.parts.now.items c.fill_schema.new.parts.items _ c.in_ok-schema.ensures.value c.in_ok-schema.ensures.left
