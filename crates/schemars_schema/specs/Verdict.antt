-- What a schema says of a value.
-- This file is trusted: the theorem is stated in its words.
use Rattle.std.specs.Prelude.{Bool, true, false, List, [], ◌∷◌}

-- the value fits, it doesn't, or that hangs on a reference which was not followed
pub data Verdict : Type 0 where
  Yes : Verdict
  No : Verdict
  Open : Verdict

abbrev pub verdict : Bool → Verdict
verdict true = Yes
verdict false = No

-- a whole that asks an open part is open, whatever its other parts say
abbrev pub both : Verdict → Verdict → Verdict
both Yes b = b
both Open b = Open
both No Open = Open
both No Yes = No
both No No = No

abbrev pub opposite : Verdict → Verdict
opposite Yes = No
opposite No = Yes
opposite Open = Open

abbrev pub all_of : List Verdict → Verdict
all_of [] = Yes
all_of (x ∷ xs) = both x (all_of xs)

abbrev pub none_of : List Verdict → Verdict
none_of [] = Yes
none_of (x ∷ xs) = both (opposite x) (none_of xs)

abbrev pub any_of : List Verdict → Verdict
any_of xs = opposite (none_of xs)

-- exactly one
abbrev pub one_of : List Verdict → Verdict
one_of [] = No
one_of (Yes ∷ xs) = none_of xs
one_of (No ∷ xs) = one_of xs
one_of (Open ∷ xs) = Open

abbrev pub is_yes : Verdict → Bool
is_yes Yes = true
is_yes No = false
is_yes Open = false
