-- Readings of patterns, and which of them a type asks for.
use Rattle.std.specs.Prelude.{◌≡◌, ◌<◌, ◌^◌, ℕ, ℤ, pos, negsuc, List, All, Option, Some, None, true, decimal}
use Rattle.std.specs.Fmt.{signed_decimal}
use Rattle.schemars_schema.specs.Judges.{Patterns, matches}
use Rattle.schemars_shapes.specs.IntegerKeys.{pattern_of}
use Rattle.schemars_shapes.specs.declared.shape.IntegerKeys.TheVariants.{Unsigned, Signed}

-- what is said of the value in an Option
abbrev pub OfSome : {A : Type 0} → (A → Type 0) → Option A → Type 0
OfSome P None = Unit {0}
OfSome P (Some a) = P a

-- each reading
abbrev pub AnyReading : Patterns → Type 0
AnyReading patterns = Unit {0}

-- a whole number of 64 bits, with a sign or without
abbrev pub IsWithin64 : ℤ → Type 0
IsWithin64 (pos v) = v < 2 ^ 64
IsWithin64 (negsuc v) = v < 2 ^ 63

-- the decimal text of this natural number matches the pattern of digits
abbrev pub TakesNatural : ℕ → Patterns → Type 0
TakesNatural v patterns = matches patterns (pattern_of Unsigned) (decimal v) ≡ true

-- that of this whole number matches the pattern of digits after a minus or none
abbrev pub TakesInteger : ℤ → Patterns → Type 0
TakesInteger z patterns = matches patterns (pattern_of Signed) (signed_decimal z) ≡ true

-- so it is with each whole number of 64 bits
abbrev pub TakesWholeNumbers : Patterns → Type 0
TakesWholeNumbers patterns = ((v : ℕ) → v < 2 ^ 64 → TakesNatural v patterns) × ((z : ℤ) → IsWithin64 z → TakesInteger z patterns)

-- ---- what a type asks for

-- the readings under which the JSON of a value of A belongs: every reading, or those of which this is so
pub data Readings (A : Type 0) : Type 1 where
  every : Readings A
  those : (A → Patterns → Type 0) → Readings A

abbrev pub IsAmong : {A : Type 0} → Readings A → A → Patterns → Type 0
IsAmong every x patterns = Unit {0}
IsAmong (those R) x patterns = R x patterns

-- those of a value that f finds
abbrev pub inside : {A B : Type 0} → Readings A → (B → A) → Readings B
inside every f = every
inside (those R) f = those (λ b. R (f b))

-- those of all values that f finds
abbrev pub of_each : {A B : Type 0} → Readings A → (B → List A) → Readings B
of_each every f = every
of_each (those R) f = those (λ b patterns. All (λ x. R x patterns) (f b))

-- those of a value that may be there
abbrev pub of_some : {A B : Type 0} → Readings A → (B → Option A) → Readings B
of_some every f = every
of_some (those R) f = those (λ b patterns. OfSome (λ x. R x patterns) (f b))

-- those that are among both
abbrev pub both : {A : Type 0} → Readings A → Readings A → Readings A
both every s = s
both (those R) every = those R
both (those R) (those S) = those (λ x patterns. R x patterns × S x patterns)

-- those of the keys of a map and of its values
abbrev pub of_entries : {K A B : Type 0} → Readings K → Readings A → (B → List (K × A)) → Readings B
of_entries r s f = of_each (both (inside r (λ e. e.0)) (inside s (λ e. e.1))) f
