use Rattle.std.proofs.Common.{rules, ◌∙◌}
use Rattle.schemars_assertions.proofs.Words.{number_view}
use Rattle.schemars_assertions.proofs.Order.{float_right, float_left}
use Rattle.schemars_assertions.proofs.numbers.numbers_le.Goals as goal

pub returns-in-Some : goal.returns-in-Some
returns-in-Some c =
    c.at_most_float.ensures ∙ float_right (number_view c.args.a) (number_view c.args.b) c.in-Some.y (search rules) (search rules)

pub returns-in-Some-as_f64 : goal.returns-in-Some-as_f64
returns-in-Some-as_f64 c =
    c.at_least_float.ensures ∙ float_left (number_view c.args.a) (number_view c.args.b) c.in-Some-as_f64.x (search rules) (search rules)
