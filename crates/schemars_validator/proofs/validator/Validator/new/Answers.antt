-- What stands in the document decides.
use Rattle.std.proofs.Common.{rules, ◌≡◌, ◌∙◌, [], ap}
use Rattle.schemars_validator.proofs.Words.{err_from_is_err_and, view, standing, told, with_new, unread_of, asked_of, named, patterns_of, with_patterns, IsRefusalAmong, told_each, told_only, is_read, are_expressions, is_refusal}
use Rattle.schemars_validator.proofs.validator.Validator.new.Goals as goal

pub returns-then-not-is_empty-clause-refused : goal.returns-then-not-is_empty-clause-refused
returns-then-not-is_empty-clause-refused c =
    let d = view c.args.document.now in
    let es = standing c.in_ok-schemas.schemas.items in
    let us = c.in_ok-unread.unread.items in
    let is : told us ≡ with_new [] (unread_of c.args.draft d es) =
    c.in_ok-unread.ensures ∙ ap (λ ps. with_new [] (unread_of c.args.draft d (standing ps))) c.deref.ensures.value in (
      search rules,
      λ place keyword. (
        told_each c.args.draft d es us c.in_ok-schemas.ensures.all is place keyword,
        told_only c.args.draft d es us c.in_ok-schemas.ensures.stand is place keyword,
      ),
    )

pub returns-in_err-expressions-clause-refused : goal.returns-in_err-expressions-clause-refused
returns-in_err-expressions-clause-refused c =
    let d = view c.args.document.now in
    let es = standing c.in_ok-schemas.schemas.items in
    let us = c.in_ok-unread.unread.items in
    let is : told us ≡ with_new [] (unread_of c.args.draft d es) =
    c.in_ok-unread.ensures ∙ ap (λ ps. with_new [] (unread_of c.args.draft d (standing ps))) c.deref.ensures.value in
    let read = is_read c.args.draft d es us (search rules) c.in_ok-schemas.ensures.all is (search rules) in
    let asked : asked_of c.in_ok-patterns.patterns.items ≡ patterns_of es =
    c.in_ok-patterns.ensures ∙ ap (λ ps. patterns_of (standing ps)) c.deref-2.ensures.value in
    let same : asked_of c.deref-3.result.now ≡ patterns_of es = ap asked_of c.deref-3.ensures.value ∙ asked in
    let among : IsRefusalAmong (patterns_of es) c.in_err-expressions.field-0.0 =
    rw same at c.in_err-expressions.ensures.refused in
    let p = err_from_is_err_and c.from_residual-in_err-expressions.result c.from_residual-in_err-expressions.ensures.1 in
    rw (p.1, p.2) (is_refusal c.args.draft d es c.in_err-expressions.field-0.0 read c.in_ok-schemas.ensures.stand among)

pub returns-clause-read : goal.returns-clause-read
returns-clause-read c =
    let d = view c.args.document.now in
    let es = standing c.in_ok-schemas.schemas.items in
    let us = c.in_ok-unread.unread.items in
    let is : told us ≡ with_new [] (unread_of c.args.draft d es) =
    c.in_ok-unread.ensures ∙ ap (λ ps. with_new [] (unread_of c.args.draft d (standing ps))) c.deref.ensures.value in
    is_read c.args.draft d es us (search rules) c.in_ok-schemas.ensures.all is (search rules)

pub returns-clause-expressions : goal.returns-clause-expressions
returns-clause-expressions c =
    let d = view c.args.document.now in
    let es = standing c.in_ok-schemas.schemas.items in
    let asked : asked_of c.in_ok-patterns.patterns.items ≡ patterns_of es =
    c.in_ok-patterns.ensures ∙ ap (λ ps. patterns_of (standing ps)) c.deref-2.ensures.value in
    let is : named c.in_ok-expressions.expressions.items ≡ with_patterns [] (patterns_of es) =
    c.in_ok-expressions.ensures.each ∙ ap (λ ps. with_patterns [] (asked_of ps)) c.deref-3.ensures.value ∙ ap (with_patterns []) asked in
    are_expressions d es c.in_ok-expressions.expressions.items c.in_ok-schemas.ensures.all is c.in_ok-expressions.ensures.own
