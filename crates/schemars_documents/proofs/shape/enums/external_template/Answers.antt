use Rattle.std.proofs.Common.{◌≡◌, true, false, length, map, ap, subst, ◌∙◌, ◌∷◌, sym, arith, IfOk}
use Rattle.schemars_documents.proofs.Words.{◌==◌, variant_of, template_view, node_view, bare_units, one_of_template, choice_of, external_template}
use Rattle.schemars_documents.proofs.Units.{units_alone, units_lead, seen}
use Rattle.schemars_documents.proofs.shape.enums.external_template.Goals as goal

pub returns-then-is_empty-3 : goal.returns-then-is_empty-3
returns-then-is_empty-3 c =
    let names = c.in_ok-names.names in
    let others = c.in_ok-others.others in
    let some : (length names.items == 0) ≡ false =
    sym (c.is_empty.ensures ∙ ap (λ n. n == 0) (omega (arith, names.ok.0))) ∙ c.if-is_empty.false in
    let none : (length (map template_view others.items) == 0) ≡ true =
    seen others.items ∙ (sym (c.is_empty-2.ensures ∙ ap (λ n. n == 0) (omega (arith, others.ok.0))) ∙ c.if-is_empty-3.true) in
    c.in_ok-units.ensures
    ∙ (units_alone (bare_units (map variant_of c.args.variants.now)) names.items (map template_view others.items) some
    c.in_ok-names.ensures none
    ∙ ap (choice_of (bare_units (map variant_of c.args.variants.now))) c.in_ok-others.ensures)

pub returns : goal.returns
returns c =
    let names = c.in_ok-names.names in
    let others = c.in_ok-others.others in
    let units = bare_units (map variant_of c.args.variants.now) in
    let some : (length names.items == 0) ≡ false =
    sym (c.is_empty.ensures ∙ ap (λ n. n == 0) (omega (arith, names.ok.0))) ∙ c.if-is_empty.false in
    let more : (length (map template_view others.items) == 0) ≡ false =
    seen others.items ∙ (sym (c.is_empty-2.ensures ∙ ap (λ n. n == 0) (omega (arith, others.ok.0))) ∙ c.if-is_empty-3.false) in
    let all : one_of_template (map template_view c.in_ok-items.items.items)
    ≡ external_template c.args.contract (map variant_of c.args.variants.now) =
    ap one_of_template (c.in_ok-items.ensures ∙ ap (λ u. u ∷ map template_view others.items) c.in_ok-units.ensures)
    ∙ (units_lead units names.items (map template_view others.items) some c.in_ok-names.ensures more
    ∙ ap (choice_of units) c.in_ok-others.ensures) in
    subst (λ u. IfOk c.one_of-2.result (λ t. node_view t ≡ u)) all c.one_of-2.ensures
