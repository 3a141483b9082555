use Rattle.std.proofs.Common.{rules, ◌∙◌}
use Rattle.schemars_schema.proofs.Words.{number_view}
use Rattle.schemars_schema.proofs.Compared.{float_side}
use Rattle.schemars_schema.proofs.numbers.numbers_eq.Goals as goal

pub returns-in-Some-as_f64 : goal.returns-in-Some-as_f64
returns-in-Some-as_f64 c =
    c.equals_float-in-Some-as_f64.ensures ∙ float_side (number_view c.args.a) (number_view c.args.b) c.in-Some-as_f64.x (search rules) (search rules)
