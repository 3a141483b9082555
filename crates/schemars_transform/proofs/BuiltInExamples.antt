-- What the transforms make of schemas, computed.
use Rattle.std.proofs.Common.{◌≡◌, List, [], ◌∷◌, true, false, refl}
use Rattle.schemars_transform.proofs.Words.{Data, null, boolean, number, unsigned, object, no_members, text, list, entry, one, empty, forms, in_items, in_names, in_keywords, add_nullable, replace_bool_schemas, remove_ref_siblings, set_single_example, replace_const_value, replace_prefix_items}
use Rattle.schemars_transform.specs.declared.built_in.nullable.AddNullable.{AddNullable}

-- ---- truth values

skipped : replace_bool_schemas (record { skip_additional_properties = true }) (one "additionalProperties" (one "items" (boolean true)))
    ≡ one "additionalProperties" (one "items" empty)
unfolding forms in_items in_names in_keywords
skipped = refl

skipped_alone : replace_bool_schemas (record { skip_additional_properties = true }) (object (entry "additionalProperties" (boolean false)
    (entry "items" (boolean false) no_members)))
    ≡ object (entry "additionalProperties" (boolean false) (entry "items" (one "not" empty) no_members))
unfolding forms in_items in_names in_keywords
skipped_alone = refl

not_skipped : replace_bool_schemas (record { skip_additional_properties = false }) (one "additionalProperties" (boolean false)) ≡ one
    "additionalProperties" (one "not" empty)
unfolding forms in_items in_names in_keywords
not_skipped = refl

-- ---- `$ref`

siblings : remove_ref_siblings (object (entry "$ref" (text "#/definitions/A") (entry "title" (text "B") no_members)))
    ≡ object (entry "allOf" (list (one "$ref" (text "#/definitions/A") ∷ [])) (entry "title" (text "B") no_members))
unfolding forms in_items in_names in_keywords
siblings = refl

no_siblings : remove_ref_siblings (one "$ref" (text "#")) ≡ one "$ref" (text "#")
unfolding forms in_items in_names in_keywords
no_siblings = refl

at_the_end : remove_ref_siblings (object (entry "$ref" (text "#") (entry "allOf" (list (boolean true ∷ [])) no_members)))
    ≡ one "allOf" (list (boolean true ∷ one "$ref" (text "#") ∷ []))
unfolding forms in_items in_names in_keywords
at_the_end = refl

reference_lost : remove_ref_siblings (object (entry "$ref" (text "#") (entry "allOf" null no_members))) ≡ one "allOf" null
unfolding forms in_items in_names in_keywords
reference_lost = refl

-- ---- `examples` and `const`

first_of_two : set_single_example (one "examples" (list (number (unsigned 1) ∷ number (unsigned 2) ∷ []))) ≡ one "example" (number
    (unsigned 1))
unfolding forms in_items in_names in_keywords
first_of_two = refl

first_of_none : set_single_example (one "examples" (list [])) ≡ empty
unfolding forms in_items in_names in_keywords
first_of_none = refl

no_list : set_single_example (one "examples" null) ≡ empty
unfolding forms in_items in_names in_keywords
no_list = refl

const_null : replace_const_value (one "const" null) ≡ one "enum" (list (null ∷ []))
unfolding forms in_items in_names in_keywords
const_null = refl

-- ---- `prefixItems`

prefix : replace_prefix_items (object (entry "items" (boolean false) (entry "prefixItems" (list (one "type" (text "boolean") ∷ []))
    no_members)))
    ≡ object (entry "additionalItems" (boolean false) (entry "items" (list (one "type" (text "boolean") ∷ [])) no_members))
unfolding forms in_items in_names in_keywords
prefix = refl

prefix_inside : replace_prefix_items (one "$defs" (one "A" (one "prefixItems" (list (one "prefixItems" (list []) ∷ [])))))
    ≡ one "$defs" (one "A" (one "items" (list (one "items" (list []) ∷ []))))
unfolding forms in_items in_names in_keywords
prefix_inside = refl

-- ---- `nullable`

abbrev by_default : AddNullable
by_default = record { remove_null_type = true; add_const_null = true }

abbrev types : List Data → Data
types ds = one "type" (list ds)

null_alone : add_nullable by_default (one "type" (text "null")) ≡ object (entry "const" null (entry "nullable" (boolean true) no_members))
unfolding forms in_items in_names in_keywords
null_alone = refl

null_among : add_nullable by_default (types (text "string" ∷ text "null" ∷ [])) ≡ object (entry "nullable" (boolean true) (entry "type"
    (text "string") no_members))
unfolding forms in_items in_names in_keywords
null_among = refl

two_left : add_nullable by_default (types (text "null" ∷ text "string" ∷ text "array" ∷ []))
    ≡ object (entry "nullable" (boolean true) (entry "type" (list (text "string" ∷ text "array" ∷ [])) no_members))
unfolding forms in_items in_names in_keywords
two_left = refl

no_null : add_nullable by_default (one "not" (types (text "string" ∷ []))) ≡ one "not" (types (text "string" ∷ []))
unfolding forms in_items in_names in_keywords
no_null = refl

type_stays : add_nullable (record { remove_null_type = false; add_const_null = true }) (one "type" (text "null"))
    ≡ object (entry "const" null (entry "nullable" (boolean true) (entry "type" (text "null") no_members)))
unfolding forms in_items in_names in_keywords
type_stays = refl

no_const : add_nullable (record { remove_null_type = true; add_const_null = false }) (one "items" (one "type" (text "null")))
    ≡ one "items" (object (entry "nullable" (boolean true) (entry "type" (list []) no_members)))
unfolding forms in_items in_names in_keywords
no_const = refl

only_marked : add_nullable (record { remove_null_type = false; add_const_null = false }) (types (text "null" ∷ []))
    ≡ object (entry "nullable" (boolean true) (entry "type" (list (text "null" ∷ [])) no_members))
unfolding forms in_items in_names in_keywords
only_marked = refl
