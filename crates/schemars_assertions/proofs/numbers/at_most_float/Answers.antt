use Rattle.std.proofs.Common.{rules, ◌∙◌}
use Rattle.schemars_assertions.proofs.Order.{negative_left}
use Rattle.schemars_assertions.proofs.numbers.at_most_float.Goals as goal

pub returns-in-Some-as_i64 : goal.returns-in-Some-as_i64
returns-in-Some-as_i64 c =
    c.float_at_most.ensures ∙ negative_left c.args.a.n c.in-Some-as_i64.z c.unsigned_abs.result c.args.x (search rules) (search rules) (search rules) (search rules)
