-- The bounds are the powers of two that the definition names.
use Rattle.std.proofs.Common.{rules, ◌≡◌, refl, true, false}
use Rattle.schemagen_input.proofs.Words.{two_to, minus_two_to, lt, example_of, decimal}
use Rattle.schemars_sample.specs.declared.sample.Sample.{Float, the_lemmas}
use Rattle.schemagen_input.proofs.Bounds.{least_is, greatest_is}
use Rattle.schemagen_input.proofs.sample.read_float.Goals.{else-x-via-then-x+else-x-2, else-x-via-else-x}
use Rattle.schemagen_input.proofs.sample.read_float.Goals as goal

pub returns-then-x-2-clause-ok : goal.returns-then-x-2-clause-ok
returns-then-x-2-clause-ok c =
    let low : lt (minus_two_to 63) c.args.x ≡ true = rw least_is at c.if-x.true in
    let high : lt c.args.x (two_to 64) ≡ true = rw greatest_is at c.if-x-2.true in
    let seen : example_of (Float c.args.x) ≡ decimal c.args.x = search (rules, the_lemmas) in
    rw (low, high, seen) refl

pub returns-else-x-clause-err : goal.returns-else-x-clause-err
returns-else-x-clause-err c = elim c.else-x.branch [
  | else-x-via-then-x+else-x-2 w ↦
      let low : lt (minus_two_to 63) c.args.x ≡ true = rw least_is at w.if-x.true in
      let high : lt c.args.x (two_to 64) ≡ false = rw greatest_is at w.if-x-2.false in
      (refl, rw (low, high) refl)
  | else-x-via-else-x w ↦
      let low : lt (minus_two_to 63) c.args.x ≡ false = rw least_is at w.if-x.false in
      (refl, rw low refl)
]
