-- The float's whole part tells.
use Rattle.std.proofs.Common.{arith, ◌∙◌, ap, nat_le}
use Rattle.schemars_assertions.proofs.Words.{le, T_from_true}
use Rattle.schemars_assertions.proofs.Order.{middle_is, top_is, small_right, all_below, not_from_top, part_at_most, above_minus_one}
use Rattle.schemars_assertions.proofs.numbers.float_at_most.Goals as goal

pub truncating_f64_to_u64-requires-clause-lower_bound :
    goal.truncating_f64_to_u64-requires-clause-lower_bound
truncating_f64_to_u64-requires-clause-lower_bound c = above_minus_one c.args.x (rw middle_is at c.if-x.false) (rw top_is at c.if-x-2.true)

pub truncating_f64_to_u64-requires-clause-upper_bound :
    goal.truncating_f64_to_u64-requires-clause-upper_bound
truncating_f64_to_u64-requires-clause-upper_bound c = T_from_true _ (rw top_is at c.if-x-2.true)

pub returns-then-n-le-EXACT : goal.returns-then-n-le-EXACT
returns-then-n-le-EXACT c =
    ap (λ y. le c.args.x y) c.nearest_u64_to_f64.ensures ∙ small_right c.args.x c.args.n (omega (arith, c.if-n-le-EXACT.true))

pub returns-then-x : goal.returns-then-x
returns-then-x c = all_below c.args.n c.args.x (omega (arith, c.if-n-le-EXACT.false)) (rw middle_is at c.if-x.true)

pub returns-then-x-2 : goal.returns-then-x-2
returns-then-x-2 c =
    ap (λ m. nat_le m c.args.n) c.truncating_f64_to_u64.ensures
    ∙ part_at_most c.args.n c.args.x (omega (arith, c.if-n-le-EXACT.false)) c.well_formed.0.1 (rw middle_is at c.if-x.false) (rw top_is at c.if-x-2.true)

pub returns-else-x-2 : goal.returns-else-x-2
returns-else-x-2 c = not_from_top c.args.n c.args.x (omega (arith, c.ranges.n.fits)) (rw top_is at c.if-x-2.false)
