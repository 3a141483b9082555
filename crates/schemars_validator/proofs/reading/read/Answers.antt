-- Each expression adds its answers.
use Rattle.std.proofs.Common.{rules, ◌≡◌, ◌∙◌, ◌||◌, ◌+◌, ◌++◌, ◌∷◌, [], subst, sym, ap, drop, drop-cons, add-one, get_or}
use Rattle.schemars_validator.proofs.Words.{drop_all, get_or_default, view, some_has, texts_of, answers, some_answer}
use Rattle.schemars_validator.specs.Asked.{has_pair}
use Rattle.schemars_validator.proofs.Pairs.{read_next, read_all}
use Rattle.schemars_validator.proofs.reading.read.Goals as goal

pub loop-expression-preserved : goal.loop-expression-preserved
loop-expression-preserved c = λ p t.
    let es = c.args.expressions.now in
    let i = c.loop-expression.expression-index in
    let e = c.expression-item.result in
    let m = c.in_ok-matched_by.field-0 in
    let old = c.loop-expression.matched.items in
    let texts = texts_of (view c.args.value.now) in
    let at : get_or es i e ≡ e = get_or_default es i e _ (search rules) ∙ sym c.expression-item.is in
    let cut : drop i es ≡ e ∷ drop (i + 1) es =
    rw add-one (drop-cons es i e (search rules)) ∙ ap (λ x. x ∷ drop (i + 1) es) at in
    let before = subst (λ ds. (some_has old p t || some_answer ds texts p t) ≡ some_answer es texts p t) cut
    (c.loop-expression.invariant p t) in
    let is : has_pair m p t ≡ answers e texts p t =
    c.in_ok-matched_by.ensures p t ∙ ap (λ ts. answers e ts p t) (search rules) in
    let pushed : c.push.new.self.items ≡ old ++ m ∷ [] = search rules in
    subst (λ ms. (some_has ms p t || some_answer (drop (i + 1) es) texts p t) ≡ some_answer es texts p t) (sym pushed)
    (read_next old m (some_answer (drop (i + 1) es) texts p t) (some_answer es texts p t) e texts p t is before)

pub returns : goal.returns
returns c = λ p t.
    let es = c.args.expressions.now in
    let texts = texts_of (view c.args.value.now) in
    let none : drop c.loop-expression.expression-index es ≡ [] = drop_all c.loop-expression.expression-index es (search rules) in
    let all = subst (λ ds. (some_has c.loop-expression.matched.items p t || some_answer ds texts p t) ≡ some_answer es texts p t)
    none (c.loop-expression.invariant p t) in
    read_all c.loop-expression.matched.items (some_answer es texts p t) p t all
