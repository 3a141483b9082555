-- What belongs to types, computed, of values with decimals: numbers are read by their mathematical value.
use Rattle.std.proofs.Common.{◌≡◌, List, [], ◌∷◌, Some, Bool, true, false, refl}
use Rattle.schemars_types.proofs.Words.{codes, pos, negsuc, fin, eq, le, lt, Data, number, float, object, no_members, alike, object_of, whole, text, minus_one, list, at_key, entry, Shape, in_place, Row, options_within, belongs, belongs_within}
use Rattle.schemars_shapes.specs.declared.shape.IntKind.TheVariants.{I8, U8, I64}
use Rattle.schemars_shapes.specs.Shape as shape
use Rattle.schemars_types.specs.declared.contract.Contract.TheVariants.{Deserialize}

-- row 0 has the bytes, row 1 texts, row 2 numbers, and row 3 this shape
table : Shape → List Row
table s =
    record { id = codes "u8"; name = codes "u8"; entry = Some (in_place (shape.int U8)) } ∷
    record { id = codes "text"; name = codes "text"; entry = Some (in_place shape.text) } ∷
    record { id = codes "number"; name = codes "number"; entry = Some (in_place shape.number) } ∷
    record { id = codes "t"; name = codes "t"; entry = Some (in_place s) } ∷ []

has : Shape → Data → Bool
has s v = belongs (table s) Deserialize [] 3 v

abbrev one : Data
one = number (float (fin false 1 (pos 0)))

abbrev two : Data
two = number (float (fin false 1 (pos 1)))

abbrev one_and_a_half : Data
one_and_a_half = number (float (fin false 3 (negsuc 0)))

abbrev minus_zero : Data
minus_zero = number (float (fin true 0 (pos 0)))

-- 36.6, as a double
abbrev temperature : Data
temperature = number (float (fin false 5150524015071437 (negsuc 46)))

abbrev largest : Data
largest = number (float (fin false 9007199254740991 (pos 971)))

integers : (has (shape.int I8) one ≡ true) × (has (shape.int I8) one_and_a_half ≡ false) × (has (shape.int I8) minus_zero ≡ true)
    × (has (shape.int I64) largest ≡ true) × (has (shape.int U8) largest ≡ false)
unfolding has table belongs_within
integers = (refl, refl, refl, refl, refl)

-- 127.0, 127.5, 255.0 and 256.0
bounds : (has (shape.int I8) (number (float (fin false 127 (pos 0)))) ≡ true)
    × (has (shape.int I8) (number (float (fin false 255 (negsuc 0)))) ≡ false)
    × (has (shape.int U8) (number (float (fin false 255 (pos 0)))) ≡ true)
    × (has (shape.int U8) (number (float (fin false 1 (pos 8)))) ≡ false)
unfolding has table belongs_within
bounds = (refl, refl, refl, refl)

without_zero : (has (shape.non_zero I8) one ≡ true) × (has (shape.non_zero I8) minus_zero ≡ false)
unfolding has table belongs_within
without_zero = (refl, refl)

numbers : (has shape.number temperature ≡ true) × (has shape.number one ≡ true) × (has shape.text temperature ≡ false)
unfolding has table belongs_within
numbers = (refl, refl, refl)

sets : (has (shape.set 2) (list (whole 1 ∷ one ∷ [])) ≡ false) × (has (shape.set 2) (list (whole 1 ∷ two ∷ temperature ∷ [])) ≡ true)
    × (has (shape.set 2) (list (whole 0 ∷ minus_zero ∷ [])) ≡ false)
unfolding has table belongs_within alike eq
sets = (refl, refl, refl)

prices : (has (shape.map_from 1 2) (object (entry "tea" temperature (entry "water" one no_members))) ≡ true)
    × (has (shape.map_from 1 2) (object (entry "tea" (text "36.6") no_members)) ≡ false)
    × (has (shape.map_from 1 0) (object (entry "tea" one_and_a_half no_members)) ≡ false)
unfolding has table belongs_within options_within
prices = (refl, refl, refl)

constants : (has (shape.literal (object_of (at_key "const" (number (float (fin true 1 (pos 0)))) ∷ []))) minus_one ≡ true)
    × (has (shape.literal (object_of (at_key "const" one_and_a_half ∷ []))) one_and_a_half ≡ true)
    × (has (shape.literal (object_of (at_key "const" one_and_a_half ∷ []))) one ≡ false)
unfolding has table belongs_within alike eq
constants = (refl, refl, refl)

listed : (has (shape.literal (object_of (at_key "enum" (list (one ∷ whole 2 ∷ [])) ∷ []))) (whole 1) ≡ true)
    × (has (shape.literal (object_of (at_key "enum" (list (one ∷ whole 2 ∷ [])) ∷ []))) two ≡ true)
    × (has (shape.literal (object_of (at_key "enum" (list (one ∷ whole 2 ∷ [])) ∷ []))) one_and_a_half ≡ false)
unfolding has table belongs_within alike eq
listed = (refl, refl, refl)

between : (has (shape.literal (object_of (at_key "maximum" temperature ∷ at_key "minimum" one_and_a_half ∷ []))) (whole 36) ≡ true)
    × (has (shape.literal (object_of (at_key "maximum" temperature ∷ at_key "minimum" one_and_a_half ∷ []))) (whole 37) ≡ false)
    × (has (shape.literal (object_of (at_key "maximum" temperature ∷ at_key "minimum" one_and_a_half ∷ []))) one_and_a_half ≡ true)
    × (has (shape.literal (object_of (at_key "maximum" temperature ∷ at_key "minimum" one_and_a_half ∷ []))) one ≡ false)
unfolding has table belongs_within le lt eq
between = (refl, refl, refl, refl)
