-- The float's whole part tells.
use Rattle.std.proofs.Common.{arith, ◌∙◌, ap, nat_eq}
use Rattle.schemars_schema.proofs.Words.{eq, T_from_true}
use Rattle.schemars_schema.proofs.Compared.{middle_is, top_is, small, below_middle, from_top, middle, above_minus_one}
use Rattle.schemars_schema.proofs.numbers.is_exactly.Goals as goal

pub truncating_f64_to_u64-requires-clause-lower_bound :
    goal.truncating_f64_to_u64-requires-clause-lower_bound
truncating_f64_to_u64-requires-clause-lower_bound c = above_minus_one c.args.x (rw middle_is at c.if-x.false) (rw top_is at c.if-x-2.true)

pub truncating_f64_to_u64-requires-clause-upper_bound :
    goal.truncating_f64_to_u64-requires-clause-upper_bound
truncating_f64_to_u64-requires-clause-upper_bound c = T_from_true _ (rw top_is at c.if-x-2.true)

pub returns-then-n-le-EXACT : goal.returns-then-n-le-EXACT
returns-then-n-le-EXACT c =
    ap (λ y. eq y c.args.x) c.nearest_u64_to_f64.ensures ∙ small c.args.n c.args.x (omega (arith, c.if-n-le-EXACT.true))

pub returns-then-x : goal.returns-then-x
returns-then-x c = below_middle c.args.n c.args.x (omega (arith, c.if-n-le-EXACT.false)) (rw middle_is at c.if-x.true)

pub returns-then-x-2 : goal.returns-then-x-2
returns-then-x-2 c =
    ap (λ m. nat_eq m c.args.n) c.truncating_f64_to_u64.ensures
    ∙ middle c.args.n c.args.x (omega (arith, c.if-n-le-EXACT.false)) c.well_formed.1.0.1 (rw middle_is at c.if-x.false) (rw top_is at c.if-x-2.true)

pub returns-else-x-2 : goal.returns-else-x-2
returns-else-x-2 c = from_top c.args.n c.args.x (omega (arith, c.ranges.n.fits)) (rw top_is at c.if-x-2.false)
