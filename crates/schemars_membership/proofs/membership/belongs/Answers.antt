-- The validator of the row's document decides, or it is undecided why.
use Rattle.std.proofs.Common.{sym, subst}
use Rattle.schemars_membership.proofs.Words.{codes, err_from_is_err_and, view, draft2020_12, IsTypeDocument, MeansItsType}
use Rattle.schemars_membership.proofs.Deciding.{is_member}
use Rattle.schemars_membership.proofs.membership.belongs.Goals as goal

pub returns-clause-decides : goal.returns-clause-decides
returns-clause-decides c = λ plain.
    is_member c.in_ok-validator.validator c.args.types c.args.contract c.args.n (view c.args.value.now)
    (view c.as_value.result.now) c.in_ok-answer.answer c.in_ok-validator.ensures.taken
    (subst (λ d. MeansItsType draft2020_12 c.args.types c.args.contract (codes "/$defs") c.args.n d) (sym c.as_value.ensures.value)
    (c.in_ok-document.ensures.made.0 plain))
    c.in_ok-validator.ensures.expressions (c.in_ok-answer.ensures c.args.types c.args.contract c.args.n)

pub returns-in_err-document-clause-undecided : goal.returns-in_err-document-clause-undecided
returns-in_err-document-clause-undecided c =
    let p = err_from_is_err_and c.from_residual.result c.from_residual.ensures.1 in
    rw (p.1, p.2) c.in_err-document.ensures.refused

pub returns-in_err-validator-clause-undecided : goal.returns-in_err-validator-clause-undecided
returns-in_err-validator-clause-undecided c =
    let p = err_from_is_err_and c.from_residual-in_err-validator.result c.from_residual-in_err-validator.ensures.1 in
    rw (p.1, p.2) (
      view c.as_value.result.now,
      subst (λ d. IsTypeDocument c.args.types c.args.contract c.args.n d) (sym c.as_value.ensures.value) c.in_ok-document.ensures.made,
      c.in_err-validator.ensures.refused,
    )
