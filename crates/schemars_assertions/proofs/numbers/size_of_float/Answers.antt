-- The float's whole part tells.
use Rattle.std.proofs.Common.{sym, ◌∙◌}
use Rattle.schemars_assertions.proofs.Words.{T_from_true}
use Rattle.schemars_assertions.proofs.Order.{top_is, size_below, size_above, from_zero_up}
use Rattle.schemars_assertions.proofs.numbers.size_of_float.Goals as goal

pub truncating_f64_to_u64-requires-clause-lower_bound :
    goal.truncating_f64_to_u64-requires-clause-lower_bound
truncating_f64_to_u64-requires-clause-lower_bound c =
    rw c.abs-size.ensures.value (from_zero_up c.args.x (rw (top_is, c.abs-size.ensures.value) at c.if-size.true))

pub truncating_f64_to_u64-requires-clause-upper_bound :
    goal.truncating_f64_to_u64-requires-clause-upper_bound
truncating_f64_to_u64-requires-clause-upper_bound c = T_from_true _ (rw top_is at c.if-size.true)

pub returns-then-has_no_fraction : goal.returns-then-has_no_fraction
returns-then-has_no_fraction c =
    let low = rw (top_is, c.abs-size.ensures.value) at c.if-size.true in
    rw (c.truncating_f64_to_u64.ensures, c.abs-size.ensures.value)
    (size_below c.args.x low (sym c.has_no_fraction.ensures ∙ c.if-has_no_fraction.true))

pub returns-else-size : goal.returns-else-size
returns-else-size c = size_above c.args.x (rw (top_is, c.abs-size.ensures.value) at c.if-size.false)
