-- What schemas become with others put in, computed. The keys of an object stand in order.
use Rattle.std.proofs.Common.{◌≡◌, List, [], ◌∷◌, true, false, refl}
use Rattle.schemars_flatten.proofs.Words.{Data, boolean, object, no_members, text, list, entry, one, empty, flattened, AreJoinable}

-- ---- JSON in short

abbrev yes : Data
yes = boolean true

abbrev no_one : Data
no_one = boolean false

-- ---- properties of two objects

abbrev object_with : Data → List Data → Data
object_with properties required =
    object (entry "properties" properties (entry "required" (list required) (entry "type" (text "object") no_members)))

both_objects : flattened (object_with (one "a" yes) (text "a" ∷ [])) (object_with (one "b" yes) (text "b" ∷ []))
    ≡ object_with (object (entry "a" yes (entry "b" yes no_members))) (text "a" ∷ text "b" ∷ [])
both_objects = refl

abbrev with_a : Data
with_a = object_with (one "a" yes) (text "a" ∷ [])

abbrev with_b : Data
with_b = object_with (one "b" yes) (text "b" ∷ [])

-- so these two in one accept what both accept
no_property_of_both : AreJoinable with_a with_b
no_property_of_both = record { first = refl; second = refl; apart = refl }

same_property : flattened (object_with (one "a" yes) (text "a" ∷ [])) (object_with (one "a" empty) (text "a" ∷ []))
    ≡ object_with (one "a" empty) (text "a" ∷ text "a" ∷ [])
same_property = refl

no_object_of_properties : flattened (one "properties" yes) (one "properties" (one "a" yes)) ≡ one "properties" yes
no_object_of_properties = refl

no_list_of_names : flattened (one "required" (text "a")) (one "required" (list (text "b" ∷ [])))
    ≡ one "required" (text "a")
no_list_of_names = refl

no_list_from_the_other : flattened (one "required" (list (text "a" ∷ []))) (one "required" (text "b"))
    ≡ one "required" (list (text "a" ∷ []))
no_list_from_the_other = refl

by_pattern : flattened (one "patternProperties" (one "a" yes)) (one "patternProperties" (one "b" yes))
    ≡ one "patternProperties" (object (entry "a" yes (entry "b" yes no_members)))
by_pattern = refl

first_title : flattened (one "title" (text "a")) (one "title" (text "b")) ≡ one "title" (text "a")
first_title = refl

-- ---- choices

two_choices : flattened (one "oneOf" (list (yes ∷ []))) (one "oneOf" (list (no_one ∷ [])))
    ≡ one "allOf" (list (one "oneOf" (list (yes ∷ [])) ∷ one "oneOf" (list (no_one ∷ [])) ∷ []))
two_choices = refl

-- those of the second side stand behind its `allOf`
choices_beside_a_list : flattened
    (object (entry "allOf" (list (yes ∷ [])) (entry "oneOf" (list (yes ∷ [])) no_members)))
    (object (entry "allOf" (list (no_one ∷ [])) (entry "oneOf" (list (no_one ∷ [])) no_members)))
    ≡ one "allOf" (list (yes ∷ no_one ∷ one "oneOf" (list (yes ∷ [])) ∷ one "oneOf" (list (no_one ∷ [])) ∷ []))
choices_beside_a_list = refl

-- where no list stands, neither choice is left
choices_beside_no_list : flattened (object (entry "allOf" yes (entry "oneOf" (list (yes ∷ [])) no_members)))
    (one "oneOf" (list (no_one ∷ []))) ≡ one "allOf" yes
choices_beside_no_list = refl

two_and_two_choices : flattened (object (entry "anyOf" yes (entry "oneOf" yes no_members)))
    (object (entry "anyOf" no_one (entry "oneOf" no_one no_members)))
    ≡ one "allOf" (list (one "anyOf" yes ∷ one "anyOf" no_one ∷ one "oneOf" yes ∷ one "oneOf" no_one ∷ []))
two_and_two_choices = refl

one_choice : flattened (one "title" (text "a")) (one "anyOf" (list (yes ∷ [])))
    ≡ object (entry "anyOf" (list (yes ∷ [])) (entry "title" (text "a") no_members))
one_choice = refl

-- ---- what is left of an object

closed_beside_a_choice : flattened
    (object (entry "additionalProperties" no_one (entry "type" (text "object") no_members)))
    (one "anyOf" (list (yes ∷ [])))
    ≡ object (entry "anyOf" (list (yes ∷ []))
    (entry "type" (text "object") (entry "unevaluatedProperties" no_one no_members)))
closed_beside_a_choice = refl

choice_beside_a_closed_one : flattened (one "if" yes) (one "additionalProperties" no_one)
    ≡ object (entry "if" yes (entry "unevaluatedProperties" no_one no_members))
choice_beside_a_closed_one = refl

-- the first side's moves, and so does the second's then
both_closed : flattened (one "additionalProperties" yes)
    (object (entry "additionalProperties" no_one (entry "$ref" (text "#") no_members)))
    ≡ flattened (one "unevaluatedProperties" yes)
    (object (entry "additionalProperties" no_one (entry "$ref" (text "#") no_members)))
both_closed = refl

closed_twice : flattened (one "additionalProperties" yes) (one "additionalProperties" no_one)
    ≡ one "additionalProperties" yes
closed_twice = refl

-- ---- truth values

open_beside_a_choice : flattened (one "oneOf" (list (empty ∷ []))) yes
    ≡ object (entry "oneOf" (list (empty ∷ [])) (entry "unevaluatedProperties" yes no_members))
open_beside_a_choice = refl

opened_object : flattened (one "type" (text "object")) yes
    ≡ object (entry "additionalProperties" yes (entry "type" (text "object") no_members))
opened_object = refl

closed_stays : flattened (one "unevaluatedProperties" no_one) yes ≡ one "unevaluatedProperties" no_one
closed_stays = refl

true_beside_true : flattened yes yes ≡ yes
true_beside_true = refl

nothing_put_in : flattened (one "title" (text "a")) no_one ≡ one "title" (text "a")
nothing_put_in = refl

nothing_accepted : flattened no_one (one "type" (text "object"))
    ≡ object (entry "not" empty (entry "type" (text "object") no_members))
nothing_accepted = refl

everything_accepted : flattened yes (one "type" (text "object")) ≡ one "type" (text "object")
everything_accepted = refl
