-- The float's whole part tells.
use Rattle.std.proofs.Common.{arith, ◌∙◌, ap, nat_le}
use Rattle.schemars_assertions.proofs.Words.{le, T_from_true}
use Rattle.schemars_assertions.proofs.Order.{middle_is, top_is, small_left, not_below, from_top, part_at_least, above_minus_one}
use Rattle.schemars_assertions.proofs.numbers.whole_at_most.Goals as goal

pub truncating_f64_to_u64-requires-clause-lower_bound :
    goal.truncating_f64_to_u64-requires-clause-lower_bound
truncating_f64_to_u64-requires-clause-lower_bound c = above_minus_one c.args.x (rw middle_is at c.if-x.false) (rw top_is at c.if-x-2.true)

pub truncating_f64_to_u64-requires-clause-upper_bound :
    goal.truncating_f64_to_u64-requires-clause-upper_bound
truncating_f64_to_u64-requires-clause-upper_bound c = T_from_true _ (rw top_is at c.if-x-2.true)

pub returns-then-n-le-EXACT : goal.returns-then-n-le-EXACT
returns-then-n-le-EXACT c =
    ap (λ y. le y c.args.x) c.nearest_u64_to_f64.ensures ∙ small_left c.args.n c.args.x (omega (arith, c.if-n-le-EXACT.true))

pub returns-then-x : goal.returns-then-x
returns-then-x c = not_below c.args.n c.args.x (omega (arith, c.if-n-le-EXACT.false)) (rw middle_is at c.if-x.true)

pub returns-then-x-2 : goal.returns-then-x-2
returns-then-x-2 c =
    ap (λ m. nat_le c.args.n m) c.truncating_f64_to_u64.ensures
    ∙ part_at_least c.args.n c.args.x (omega (arith, c.if-n-le-EXACT.false)) (rw middle_is at c.if-x.false) (rw top_is at c.if-x-2.true)

pub returns-else-x-2 : goal.returns-else-x-2
returns-else-x-2 c = rw top_is (from_top c.args.n c.args.x (omega (arith, c.ranges.n.fits)) (rw top_is at c.if-x-2.false))
