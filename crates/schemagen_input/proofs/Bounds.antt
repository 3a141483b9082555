-- The bits of the floats between which the floats of examples are.
use Rattle.std.proofs.Common.{◌≡◌, refl}
use Rattle.std.specs.Float.{binary64, two_to, minus_two_to}
use Rattle.std.specs.Float.Ieee.{of_bits, neg}

pub least_is : neg (of_bits binary64 4890909195324358656) ≡ minus_two_to 63
unfolding of_bits neg
least_is = refl

pub greatest_is : of_bits binary64 4895412794951729152 ≡ two_to 64
unfolding of_bits
greatest_is = refl
