-- What documents become as parts of others, computed. The keys of an object are in order.
use Rattle.std.proofs.Common.{◌≡◌, List, [], ◌∷◌, true, false, refl}
use Rattle.schemars_flatten.proofs.Words.{String, Data, null, boolean, object, no_members, text, list, entry, one, empty, forms, in_items, in_names, in_keywords, closed_in, closed_in_items, closed_in_keywords, opened, opened_inside, closes_inside, must_be_in_place, flattened_part}

-- ---- JSON in short

abbrev yes : Data
yes = boolean true

abbrev no_one : Data
no_one = boolean false

abbrev object_with : Data → List Data → Data
object_with properties required =
    object (entry "properties" properties (entry "required" (list required) (entry "type" (text "object") no_members)))

abbrev closed_object_with : Data → List Data → Data
closed_object_with properties required =
    object (entry "additionalProperties" no_one
    (entry "properties" properties (entry "required" (list required) (entry "type" (text "object") no_members))))

-- the objects of an enum's variants
abbrev unit_of : String → Data
unit_of name = object_with (one name (one "type" (text "null"))) (text name ∷ [])

abbrev of_w : Data
of_w = object_with (one "W" yes) (text "W" ∷ [])

abbrev closed_of_w : Data
closed_of_w = closed_object_with (one "W" yes) (text "W" ∷ [])

abbrev texts : List Data → Data
texts ts = object (entry "enum" (list ts) (entry "type" (text "string") no_members))

abbrev names : Data
names = texts (text "U" ∷ text "V" ∷ [])

-- ---- units

units_among_others : flattened_part false (one "oneOf" (list (names ∷ closed_of_w ∷ [])))
    ≡ one "oneOf" (list (of_w ∷ unit_of "U" ∷ unit_of "V" ∷ []))
unfolding forms in_items in_names in_keywords
units_among_others = refl

units_alone : flattened_part false names ≡ one "oneOf" (list (unit_of "U" ∷ unit_of "V" ∷ []))
unfolding forms in_items in_names in_keywords
units_alone = refl

units_behind_a_choice : flattened_part false
    (object (entry "enum" (list (text "U" ∷ []))
    (entry "oneOf" (list (of_w ∷ [])) (entry "type" (text "string") no_members))))
    ≡ one "oneOf" (list (of_w ∷ unit_of "U" ∷ []))
unfolding forms in_items in_names in_keywords
units_behind_a_choice = refl

units_beside_no_list : flattened_part false
    (object (entry "enum" (list (text "U" ∷ [])) (entry "oneOf" yes (entry "type" (text "string") no_members))))
    ≡ one "oneOf" yes
unfolding forms in_items in_names in_keywords
units_beside_no_list = refl

texts_alone : flattened_part false (texts (null ∷ text "U" ∷ yes ∷ [])) ≡ one "oneOf" (list (unit_of "U" ∷ []))
unfolding forms in_items in_names in_keywords
texts_alone = refl

no_text : flattened_part false (texts (null ∷ [])) ≡ one "oneOf" (list [])
unfolding forms in_items in_names in_keywords
no_text = refl

-- an `enum` that is no list stays, and the choice is looked at
no_list_of_texts : flattened_part false
    (object (entry "enum" yes (entry "oneOf" (list (names ∷ [])) (entry "type" (text "string") no_members))))
    ≡ object (entry "enum" yes
    (entry "oneOf" (list (unit_of "U" ∷ unit_of "V" ∷ [])) (entry "type" (text "string") no_members)))
unfolding forms in_items in_names in_keywords
no_list_of_texts = refl

no_first_units : flattened_part false (one "oneOf" (list (of_w ∷ names ∷ []))) ≡ one "oneOf" (list (of_w ∷ names ∷ []))
unfolding forms in_items in_names in_keywords
no_first_units = refl

no_type : flattened_part false (one "enum" (list (text "U" ∷ []))) ≡ one "enum" (list (text "U" ∷ []))
unfolding forms in_items in_names in_keywords
no_type = refl

-- ---- further members

closed_struct : flattened_part false (closed_object_with (one "a" yes) (text "a" ∷ []))
    ≡ object_with (one "a" yes) (text "a" ∷ [])
unfolding forms in_items in_names in_keywords
closed_struct = refl

closed_below : flattened_part false
    (one "allOf" (list (one "then" (one "unevaluatedProperties" no_one) ∷ closed_of_w ∷ yes ∷ [])))
    ≡ one "allOf" (list (one "then" empty ∷ of_w ∷ yes ∷ []))
unfolding forms in_items in_names in_keywords
closed_below = refl

-- values of members are other objects
closed_member : flattened_part false (one "properties" (one "a" closed_of_w)) ≡ one "properties" (one "a" closed_of_w)
unfolding forms in_items in_names in_keywords
closed_member = refl

restricted_members : flattened_part false (one "additionalProperties" (one "type" (text "null")))
    ≡ one "additionalProperties" (one "type" (text "null"))
unfolding forms in_items in_names in_keywords
restricted_members = refl

truth_stays : flattened_part true no_one ≡ no_one
unfolding forms in_items in_names in_keywords
truth_stays = refl

-- ---- parts that may be missing

optional_struct : flattened_part true (closed_object_with (one "a" yes) (text "a" ∷ []))
    ≡ object (entry "properties" (one "a" yes) (entry "type" (text "object") no_members))
unfolding forms in_items in_names in_keywords
optional_struct = refl

optional_enum : flattened_part true (one "oneOf" (list (names ∷ closed_of_w ∷ [])))
    ≡ one "anyOf" (list (one "oneOf" (list (of_w ∷ unit_of "U" ∷ unit_of "V" ∷ [])) ∷ empty ∷ []))
unfolding forms in_items in_names in_keywords
optional_enum = refl

optional_choice : flattened_part true (one "anyOf" (list (of_w ∷ []))) ≡ one "anyOf" (list (of_w ∷ empty ∷ []))
unfolding forms in_items in_names in_keywords
optional_choice = refl

optional_already : flattened_part true (one "anyOf" (list (empty ∷ closed_of_w ∷ [])))
    ≡ one "anyOf" (list (empty ∷ of_w ∷ []))
unfolding forms in_items in_names in_keywords
optional_already = refl

-- both have to hold then
two_optional_choices : flattened_part true (object (entry "anyOf" (list (of_w ∷ [])) (entry "oneOf" yes no_members)))
    ≡ one "allOf" (list (one "anyOf" (list (of_w ∷ [])) ∷ one "anyOf" (list (one "oneOf" yes ∷ empty ∷ [])) ∷ []))
unfolding forms in_items in_names in_keywords
two_optional_choices = refl

-- ---- contents of variants with a tag among their members

opened_below_alone : opened_inside
    (object (entry "additionalProperties" no_one (entry "oneOf" (list (closed_of_w ∷ [])) no_members)))
    ≡ object (entry "additionalProperties" no_one (entry "oneOf" (list (of_w ∷ [])) no_members))
unfolding forms in_items in_names in_keywords
opened_below_alone = refl

all_opened : opened
    (object (entry "additionalProperties" no_one (entry "if" closed_of_w
    (entry "unevaluatedProperties" no_one no_members))))
    ≡ one "if" of_w
unfolding forms in_items in_names in_keywords
all_opened = refl

closed_inside : closes_inside (one "anyOf" (list (of_w ∷ one "else" closed_of_w ∷ []))) ≡ true
unfolding closed_in closed_in_items closed_in_keywords
closed_inside = refl

closed_at_the_top : closes_inside closed_of_w ≡ false
unfolding closed_in closed_in_items closed_in_keywords
closed_at_the_top = refl

nothing_closed : closes_inside (object (entry "anyOf" (list (of_w ∷ [])) (entry "not" closed_of_w no_members))) ≡ false
unfolding closed_in closed_in_items closed_in_keywords
nothing_closed = refl

open_by_reference : must_be_in_place false of_w ≡ false
unfolding closed_in closed_in_items closed_in_keywords
open_by_reference = refl

open_in_place : must_be_in_place true of_w ≡ true
unfolding closed_in closed_in_items closed_in_keywords
open_in_place = refl

null_in_place : must_be_in_place false (one "type" (text "null")) ≡ true
unfolding closed_in closed_in_items closed_in_keywords
null_in_place = refl

closed_in_place : must_be_in_place false closed_of_w ≡ true
unfolding closed_in closed_in_items closed_in_keywords
closed_in_place = refl

closed_inside_in_place : must_be_in_place false (one "oneOf" (list (closed_of_w ∷ []))) ≡ true
unfolding closed_in closed_in_items closed_in_keywords
closed_inside_in_place = refl
