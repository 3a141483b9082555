-- Key options, computed.
use Rattle.std.proofs.Common.{◌≡◌, ℕ, List, [], ◌∷◌, Some, None, Bool, true, false, refl}
use Rattle.schemars_types.proofs.Words.{codes, String, Data, boolean, number, unsigned, string, array, Items, no_items, item, Members, no_members, member, Shape, int, non_zero, any, newtype, enum, by_name, by_nothing, literal, in_place, Variant, Payload, no_payload, newtype_payload, Text, object_of, Patterns, Row, KeyOptions, any_text, keys, key_options, options_within, is_key_allowed}
use Rattle.schemars_shapes.specs.declared.shape.IntKind.TheVariants.{U8, I8, I32, U64}
use Rattle.schemars_shapes.specs.Shape.{text}
use Rattle.schemars_shapes.specs.declared.shape.IntegerKeys.TheVariants.{Unsigned, Signed}

variant : String → Payload → Members → Variant
variant name payload notes = record { name = codes name; payload = payload; notes = notes }

unit : String → Variant
unit name = variant name no_payload no_members

-- a member that has the values of row n
of_row : ℕ → Variant
of_row n = variant "M" (newtype_payload n) no_members

documented : String → Variant
documented name = variant name no_payload (member (codes "description") (string (codes "a unit")) no_members)

row : Shape → Row
row s = record { id = codes "t"; name = codes "t"; entry = Some (in_place s) }

-- the keys of a type of this shape, below which stand the rows 0 to 8
table : Shape → List Row
table s =
    row (int U8) ∷ row (int I8) ∷ row any ∷ row (int I32) ∷ row (newtype 3) ∷ row (enum by_name (unit "A" ∷ unit "B" ∷ []))
    ∷ row (enum by_nothing (of_row 5 ∷ of_row 0 ∷ [])) ∷ row (newtype 2) ∷ row (enum by_nothing (of_row 5 ∷ of_row 7 ∷ [])) ∷ row s ∷ []

options : Shape → KeyOptions
options s = key_options (table s) 9

without_sign : options (int U64) ≡ keys false [] (Some Unsigned) []
unfolding options table row options_within
without_sign = refl

without_zero : options (non_zero U8) ≡ keys false [] (Some Signed) []
unfolding options table row options_within
without_zero = refl

texts : options text ≡ any_text
unfolding options table row options_within
texts = refl

names : options (enum by_name (unit "A" ∷ unit "B" ∷ [])) ≡ keys false (codes "A" ∷ codes "B" ∷ []) None []
unfolding options table row options_within unit variant
names = refl

noted_names : options (enum by_name (unit "A" ∷ documented "B" ∷ [])) ≡ any_text
unfolding options table row options_within unit documented variant
noted_names = refl

no_names : options (enum by_name []) ≡ any_text
unfolding options table row options_within
no_names = refl

both_integers : options (enum by_nothing (of_row 0 ∷ of_row 1 ∷ [])) ≡ keys false [] (Some Signed) []
unfolding options table row options_within of_row variant
both_integers = refl

one_of_any : options (enum by_nothing (of_row 0 ∷ of_row 1 ∷ of_row 2 ∷ [])) ≡ any_text
unfolding options table row options_within of_row variant
one_of_any = refl

through_a_newtype : options (enum by_nothing (of_row 0 ∷ of_row 7 ∷ [])) ≡ any_text
unfolding options table row options_within of_row variant
through_a_newtype = refl

one_of_none : options (enum by_nothing (of_row 0 ∷ unit "A" ∷ [])) ≡ keys true [] (Some Unsigned) []
unfolding options table row options_within of_row unit variant
one_of_none = refl

-- any text inside, which leaves nothing to the others there, leaves what stands beside the whole
any_inside : options (enum by_nothing (of_row 8 ∷ of_row 1 ∷ [])) ≡ keys true [] (Some Signed) []
unfolding options table row options_within of_row unit variant
any_inside = refl

any_alone : options (newtype 8) ≡ any_text
unfolding options table row options_within of_row unit variant
any_alone = refl

newtypes : options (newtype 4) ≡ keys false [] (Some Signed) []
unfolding options table row options_within
newtypes = refl

-- ---- literals

abbrev of_type : String → List (Text × Data) → Shape
of_type name rest = literal (object_of ((codes "type", string (codes name)) ∷ rest))

abbrev texts_of : Items → Text × Data
texts_of ds = (codes "enum", array ds)

abbrev a_and_one : Items
a_and_one = item (string (codes "a")) (item (number (unsigned 1)) no_items)

by_pattern : options (of_type "string" ((codes "pattern", string (codes "^a$")) ∷ texts_of no_items ∷ []))
    ≡ keys false [] None (codes "^a$" ∷ [])
unfolding options table row options_within
by_pattern = refl

by_list : options (of_type "string" (texts_of (item (string (codes "a")) no_items) ∷ []))
    ≡ keys false (codes "a" ∷ []) None []
unfolding options table row options_within
by_list = refl

not_texts_alone : options (of_type "string" (texts_of a_and_one ∷ [])) ≡ any_text
unfolding options table row options_within
not_texts_alone = refl

from_zero : options (of_type "integer" ((codes "minimum", number (unsigned 0)) ∷ [])) ≡ keys false [] (Some Unsigned) []
unfolding options table row options_within
from_zero = refl

from_one : options (of_type "integer" ((codes "minimum", number (unsigned 1)) ∷ [])) ≡ keys false [] (Some Signed) []
unfolding options table row options_within
from_one = refl

truth_value : options (literal (boolean true)) ≡ any_text
unfolding options table row options_within
truth_value = refl

other_type : options (of_type "number" []) ≡ any_text
unfolding options table row options_within
other_type = refl

-- the names of row 5 stand once, and the numbers of row 1 cover those of row 0
nested : options (enum by_nothing (of_row 6 ∷ of_row 5 ∷ of_row 1 ∷ []))
    ≡ keys false (codes "A" ∷ codes "B" ∷ []) (Some Signed) []
unfolding options table row options_within of_row unit variant
nested = refl

-- under a reading in which -1 matches
minus_one : Patterns
minus_one = (codes "^-?\\d+$", codes "-1") ∷ []

allows : Text → Bool
allows key = is_key_allowed minus_one (options (enum by_nothing (of_row 5 ∷ of_row 1 ∷ []))) key

allowed_keys : (allows (codes "B") ≡ true) × (allows (codes "-1") ≡ true) × (allows (codes "C") ≡ false)
unfolding allows minus_one options table row options_within of_row unit variant
allowed_keys = (refl, refl, refl)
