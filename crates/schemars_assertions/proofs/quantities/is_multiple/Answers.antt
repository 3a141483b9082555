-- A number above zero has a size above zero.
use Rattle.std.proofs.Common.{ap, sym, ◌∙◌}
use Rattle.schemars_assertions.proofs.Words.{number_view, number_le}
use Rattle.schemars_assertions.proofs.Order.{size_above_zero}
use Rattle.schemars_assertions.proofs.quantities.is_multiple.Goals as goal

pub nonzero_rem-size : goal.nonzero_rem-size
nonzero_rem-size c =
    size_above_zero (number_view c.args.divisor) c.in-Some.by
    (sym (c.numbers_le.ensures ∙ ap (number_le (number_view c.args.divisor)) c.from.ensures) ∙ c.if-numbers_le.false)
    (sym c.in-Some.ensures)
