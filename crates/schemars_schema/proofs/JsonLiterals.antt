-- JSON in short, for examples. The keys of an object are given in order.
use Rattle.std.proofs.Common.{ℕ, List, [], ◌∷◌}
use Rattle.schemars_schema.proofs.Words.{codes, negsuc, String, Data, number, unsigned, negative, string, array, object, Items, no_items, item, Members, no_members, member, Text}

abbrev pub text : String → Data
text s = string (codes s)

abbrev pub whole : ℕ → Data
whole n = number (unsigned n)

abbrev pub minus_one : Data
minus_one = number (negative (negsuc 0))

abbrev pub list_of : List Data → Items
list_of [] = no_items
list_of (d ∷ ds) = item d (list_of ds)

abbrev pub list : List Data → Data
list ds = array (list_of ds)

abbrev pub at_key : String → Data → Text × Data
at_key k d = (codes k, d)

abbrev pub entry : String → Data → Members → Members
entry k d ms = member (codes k) d ms

-- an object of one member
abbrev pub one : String → Data → Data
one k d = object (entry k d no_members)

abbrev pub empty : Data
empty = object no_members
