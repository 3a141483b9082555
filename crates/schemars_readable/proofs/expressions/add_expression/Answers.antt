-- The new expression is that of its pattern.
use Rattle.std.proofs.Common.{rules, ◌≡◌, ◌++◌, ◌∷◌, [], sym, subst, string_bytes}
use Rattle.schemars_readable.proofs.Words.{All-push, AreOwn, IsReadFrom}
use Rattle.schemars_readable.proofs.expressions.add_expression.Goals as goal

pub returns-clause-own : goal.returns-clause-own
returns-clause-own c = λ own.
    let old = c.args.expressions.now.items in
    let e = c.in_ok-expression.expression in
    let pushed : c.push.new.self.items ≡ old ++ e ∷ [] = search rules in
    subst AreOwn (sym pushed) (All-push (λ x. IsReadFrom (string_bytes x.pattern) x.regex) old e own c.in_ok-expression.ensures.own)
