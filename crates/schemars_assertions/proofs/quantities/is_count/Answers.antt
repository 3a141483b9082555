use Rattle.std.proofs.Common.{◌∙◌, ap, sym}
use Rattle.schemars_assertions.proofs.Words.{number_view, number_le}
use Rattle.schemars_assertions.proofs.Counts.{from_zero_on}
use Rattle.schemars_assertions.proofs.quantities.is_count.Goals as goal

pub returns-then-is_whole : goal.returns-then-is_whole
returns-then-is_whole c =
    let n = number_view c.args.number in
    c.numbers_le.ensures ∙ (ap (λ z. number_le z n) c.from.ensures ∙ from_zero_on n (sym c.is_whole.ensures ∙ c.if-is_whole.true))
