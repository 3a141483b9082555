use Rattle.std.proofs.Common.{rules}
use Rattle.schemars_schema.proofs.Words.{number_view}
use Rattle.schemars_schema.proofs.Compared.{whole_equal}
use Rattle.schemars_schema.proofs.numbers.whole_eq.Goals as goal

pub returns-in-Some-Some : goal.returns-in-Some-Some
returns-in-Some-Some c =
    let same = whole_equal (number_view c.args.a) (number_view c.args.b) c.in-Some-Some.x c.in-Some-Some.y (search rules) (search rules) in
    search (rules, same)
