use Rattle.std.proofs.Common.{ap, ◌∙◌}
use Rattle.schemars_builders.proofs.Words.{err_from_is_err_and, view, inserted}
use Rattle.schemars_builders.proofs.keywords.set_keyword.Goals as goal

pub returns-in_err-insert-clause-err : goal.returns-in_err-insert-clause-err
returns-in_err-insert-clause-err c =
    let p = err_from_is_err_and c.from_residual-in_err-insert.result c.from_residual-in_err-insert.ensures.1 in
    rw (p.1) c.in_err-insert.ensures.err

pub returns-clause-ok : goal.returns-clause-ok
returns-clause-ok c =
    c.in_ok-insert.ensures.ok ∙ ap (λ k. inserted k (view c.args.value) c.args.schema.now) c.in_ok-key.ensures.ok
