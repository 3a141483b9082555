-- Each pattern in turn.
use Rattle.std.proofs.Common.{rules, ◌≡◌, ◌∙◌, ◌+◌, ◌∷◌, [], subst, sym, ap, drop, drop-cons, add-one, get_or}
use Rattle.schemars_readable.proofs.Words.{get_or_default, err_from_is_err_and, asked_of, named, with_patterns, IsRefusalAmong}
use Rattle.schemars_readable.proofs.Elements.{asked_there, among_more}
use Rattle.schemars_readable.proofs.expressions.compiled.Goals as goal

pub loop-it-preserved : goal.loop-it-preserved
loop-it-preserved c =
    let es = c.args.asked.now in
    let i = c.loop-it.it-index in
    let e = c.it-item.result in
    let old = named c.loop-it.expressions.items in
    let at : get_or es i e ≡ e = get_or_default es i e _ (search rules) ∙ sym c.it-item.is in
    let cut : drop i es ≡ e ∷ drop (i + 1) es = rw add-one (drop-cons es i e (search rules)) ∙ ap (λ x. x ∷ drop (i + 1) es) at in
    let before = subst (λ ds. with_patterns old (asked_of ds) ≡ with_patterns [] (asked_of es)) cut c.loop-it.invariant.0 in (
      ap (λ ns. with_patterns ns (asked_of (drop (i + 1) es))) c.in_ok-add_expression.ensures.added ∙ before,
      c.in_ok-add_expression.ensures.own c.loop-it.invariant.1,
    )

pub returns-in_err-add_expression-clause-refused : goal.returns-in_err-add_expression-clause-refused
returns-in_err-add_expression-clause-refused c =
    let es = c.args.asked.now in
    let i = c.loop-it.it-index in
    let e = c.it-item.result in
    let at : get_or es i e ≡ e = get_or_default es i e _ (search rules) ∙ sym c.it-item.is in
    let among : IsRefusalAmong (asked_of es) c.in_err-add_expression.field-0.0 =
    among_more es e c.in_err-add_expression.field-0.0 (asked_there es i e (search rules) at) c.in_err-add_expression.ensures.refused in
    let p = err_from_is_err_and c.from_residual.result c.from_residual.ensures.1 in
    rw (p.1, p.2) among
