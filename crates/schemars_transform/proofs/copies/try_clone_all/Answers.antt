use Rattle.std.proofs.Common.{◌≡◌, ◌+◌, ◌<◌, false, take, length, arith, sym, ◌∙◌, subst}
use Rattle.schemars_transform.proofs.Words.{take_all, err_from_is_err_and, some_own, AreCopies}
use Rattle.schemars_transform.proofs.Lists.{one_more_copy, one_more_built_in, built_in_at, another_answer, refused_otherwise}
use Rattle.schemars_transform.proofs.copies.try_clone_all.Goals as goal

pub loop-transform-preserved : goal.loop-transform-preserved
loop-transform-preserved g c =
    let within : c.loop-transform.transform-index < length c.args.transforms.now = omega (arith, c.loop-transform-test.true) in
    record {
      copied = subst (λ cs. AreCopies (take (c.loop-transform.transform-index + 1) c.args.transforms.now) cs) (sym
          c.in_ok-push.ensures.items) (one_more_copy c.args.transforms.now c.loop-transform.copies.items
          c.loop-transform.transform-index c.transform-item.result c.in_ok-try_clone.field-0 within c.transform-item.is
          c.loop-transform.invariant.copied c.in_ok-try_clone.ensures.copies);
      built_in = subst (λ cs. some_own cs ≡ false) (sym c.in_ok-push.ensures.items) (one_more_built_in
          c.loop-transform.copies.items c.in_ok-try_clone.field-0 c.loop-transform.invariant.built_in
          c.in_ok-try_clone.ensures.none_own);
    }

pub returns-in_err-try_clone-clause-own : goal.returns-in_err-try_clone-clause-own
returns-in_err-try_clone-clause-own g c =
    let p = err_from_is_err_and c.from_residual.result c.from_residual.ensures.1 in
    let none = sym c.some_own.ensures ∙ c.if-some_own.false in
    let built_in = built_in_at c.args.transforms.now c.loop-transform.transform-index c.transform-item.result
    (omega (arith, c.loop-transform-test.true)) c.transform-item.is none in
    another_answer c.from_residual.result _ none (refused_otherwise c.from_residual.result p.0
    c.in_err-try_clone.field-0.0 _ built_in p.1 p.2 c.in_err-try_clone.ensures.own.0)

pub returns-in_err-push-clause-own : goal.returns-in_err-push-clause-own
returns-in_err-push-clause-own g c =
    let p = err_from_is_err_and c.from_residual-in_err-push.result c.from_residual-in_err-push.ensures.1 in
    another_answer c.from_residual-in_err-push.result _ (sym c.some_own.ensures ∙ c.if-some_own.false)
    (λ e. let f = p.1 in let k = p.2 in cc)

pub returns-clause-copies : goal.returns-clause-copies
returns-clause-copies g c =
    subst (λ ts. AreCopies ts c.loop-transform.copies.items) (take_all c.loop-transform.transform-index c.args.transforms.now
    (omega (arith, c.loop-transform-test.false))) c.loop-transform.invariant.copied

pub returns-clause-none_own : goal.returns-clause-none_own
returns-clause-none_own g c = c.loop-transform.invariant.built_in

pub returns-clause-own : goal.returns-clause-own
returns-clause-own g c = another_answer _ _ (sym c.some_own.ensures ∙ c.if-some_own.false) (λ e. cc)
