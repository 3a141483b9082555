-- Below 2^53 the whole part tells, and from there on there is no fraction.
use Rattle.std.proofs.Common.{◌∙◌, ap}
use Rattle.schemars_assertions.proofs.Words.{float_is_finite}
use Rattle.schemars_assertions.proofs.Order.{middle_is, small_whole, large_whole, from_zero_bound, to_top_bound}
use Rattle.schemars_assertions.proofs.numbers.has_no_fraction.Goals as goal

pub truncating_f64_to_u64-requires-clause-lower_bound :
    goal.truncating_f64_to_u64-requires-clause-lower_bound
truncating_f64_to_u64-requires-clause-lower_bound c =
    rw c.abs-size.ensures.value (from_zero_bound c.args.x (rw (middle_is, c.abs-size.ensures.value) at c.if-size.true))

pub truncating_f64_to_u64-requires-clause-upper_bound :
    goal.truncating_f64_to_u64-requires-clause-upper_bound
truncating_f64_to_u64-requires-clause-upper_bound c = to_top_bound c.abs-size.result (rw middle_is at c.if-size.true)

pub returns-then-size : goal.returns-then-size
returns-then-size c =
    let low = rw (middle_is, c.abs-size.ensures.value) at c.if-size.true in
    rw (c.nearest_u64_to_f64.ensures, c.truncating_f64_to_u64.ensures, c.abs-size.ensures.value) (small_whole c.args.x low)

pub returns-else-size : goal.returns-else-size
returns-else-size c =
    let high = rw (middle_is, c.abs-size.ensures.value) at c.if-size.false in
    c.is_finite.ensures.value ∙ (ap float_is_finite c.abs-size.ensures.value ∙ large_whole c.args.x c.well_formed.0.1 high)
