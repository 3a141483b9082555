use Rattle.std.proofs.Common.{rules, ◌∙◌}
use Rattle.schemars_assertions.proofs.Order.{negative_right}
use Rattle.schemars_assertions.proofs.numbers.at_least_float.Goals as goal

pub returns-in-Some-as_i64 : goal.returns-in-Some-as_i64
returns-in-Some-as_i64 c =
    c.whole_at_most.ensures ∙ negative_right c.args.a.n c.in-Some-as_i64.z c.unsigned_abs.result c.args.x (search rules) (search rules) (search rules) (search rules)
