use Rattle.std.proofs.Common.{rules, ◌∙◌}
use Rattle.schemars_schema.proofs.Compared.{negative_side}
use Rattle.schemars_schema.proofs.numbers.equals_float.Goals as goal

pub returns-in-Some-as_i64 : goal.returns-in-Some-as_i64
returns-in-Some-as_i64 c =
    c.is_exactly-in-Some-as_i64.ensures ∙ negative_side c.args.a.n c.in-Some-as_i64.z c.unsigned_abs.result c.args.x (search rules) (search rules) (search rules) (search rules)
