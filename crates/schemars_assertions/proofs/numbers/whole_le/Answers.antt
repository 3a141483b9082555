use Rattle.std.proofs.Common.{rules}
use Rattle.schemars_assertions.proofs.Words.{number_view}
use Rattle.schemars_assertions.proofs.Order.{whole_order}
use Rattle.schemars_assertions.proofs.numbers.whole_le.Goals as goal

pub returns-in-Some-Some : goal.returns-in-Some-Some
returns-in-Some-Some c =
    let same = whole_order (number_view c.args.a) (number_view c.args.b) c.in-Some-Some.x c.in-Some-Some.y (search rules) (search rules) in
    search (rules, same)
