-- What the transforms make of schemas, computed.
use Rattle.std.proofs.Common.{◌≡◌, [], ◌∷◌, true, false, refl}
use Rattle.schemars_transform.proofs.Words.{Global, String, Data, boolean, object, no_members, forms, in_items, in_names, in_keywords, rewritten, format_rules, BTreeSet, text, list, entry, one, empty, replace_unevaluated_properties, names_in, names_in_items, names_in_keywords}
use Rattle.std.specs.Prelude.{String as StringOf}
use Rattle.schemars_transform.specs.declared.built_in.formats.Draft.{Draft}
use Rattle.schemars_transform.specs.declared.built_in.formats.Draft.TheVariants.{NotAsked, Missing}

-- ---- `unevaluatedProperties`

abbrev with_a : Data
with_a = one "properties" (one "a" empty)

names_join : replace_unevaluated_properties (object (entry "anyOf" (list (with_a ∷ [])) (entry "unevaluatedProperties" (boolean false)
    no_members)))
    ≡ object (entry "additionalProperties" (boolean false) (entry "anyOf" (list (with_a ∷ [])) (entry "properties" (one "a" (boolean
    true)) no_members)))
unfolding forms in_items in_names in_keywords names_in names_in_items names_in_keywords
names_join = refl

names_stay : replace_unevaluated_properties (object (entry "properties" (one "a" (one "not" empty)) (entry "then" with_a (entry
    "unevaluatedProperties" (boolean true) no_members))))
    ≡ object (entry "additionalProperties" (boolean true) (entry "properties" (one "a" (one "not" empty)) (entry "then" with_a no_members)))
unfolding forms in_items in_names in_keywords names_in names_in_items names_in_keywords
names_stay = refl

deep_names : replace_unevaluated_properties (object (entry "allOf" (list (one "oneOf" (list (one "else" with_a ∷ [])) ∷ [])) (entry
    "unevaluatedProperties" (boolean false) no_members)))
    ≡ object (entry "additionalProperties" (boolean false) (entry "allOf" (list (one "oneOf" (list (one "else" with_a ∷ [])) ∷ []))
    (entry "properties" (one "a" (boolean true)) no_members)))
unfolding forms in_items in_names in_keywords names_in names_in_items names_in_keywords
deep_names = refl

no_names : replace_unevaluated_properties (object (entry "not" with_a (entry "unevaluatedProperties" (boolean false) no_members)))
    ≡ object (entry "additionalProperties" (boolean false) (entry "not" with_a no_members))
unfolding forms in_items in_names in_keywords names_in names_in_items names_in_keywords
no_names = refl

nothing_unevaluated : replace_unevaluated_properties (one "anyOf" (list (with_a ∷ []))) ≡ one "anyOf" (list (with_a ∷ []))
unfolding forms in_items in_names in_keywords names_in names_in_items names_in_keywords
nothing_unevaluated = refl

-- ---- formats

abbrev none_allowed : BTreeSet (StringOf Global)
none_allowed = record { keys = [] }

abbrev restricted_from : Draft → Data → Data
restricted_from draft s = rewritten (format_rules none_allowed) draft s

abbrev of_draft07 : String → Data
of_draft07 f = object (entry "$schema" (text "http://json-schema.org/draft-07/schema#") (entry "format" (text f) no_members))

none_known : restricted_from Missing (one "format" (text "custom")) ≡ one "format" (text "custom")
unfolding forms in_items in_names in_keywords
none_known = refl

not_of_draft07 : restricted_from Missing (of_draft07 "uuid") ≡ one "$schema" (text "http://json-schema.org/draft-07/schema#")
unfolding forms in_items in_names in_keywords
not_of_draft07 = refl

of_draft07_stays : restricted_from Missing (of_draft07 "date") ≡ of_draft07 "date"
unfolding forms in_items in_names in_keywords
of_draft07_stays = refl

handed_down : restricted_from Missing (object (entry "$schema" (text "https://json-schema.org/draft/2020-12/schema")
    (entry "anyOf" (list (one "format" (text "uuid") ∷ of_draft07 "uuid" ∷ one "format" (text "custom") ∷ [])) no_members)))
    ≡ object (entry "$schema" (text "https://json-schema.org/draft/2020-12/schema")
    (entry "anyOf" (list (one "format" (text "uuid") ∷ one "$schema" (text "http://json-schema.org/draft-07/schema#") ∷ empty ∷ []))
    no_members))
unfolding forms in_items in_names in_keywords
handed_down = refl

foreign : restricted_from Missing (object (entry "$schema" (text "x") (entry "not" (of_draft07 "uuid") no_members)))
    ≡ object (entry "$schema" (text "x") (entry "not" (of_draft07 "uuid") no_members))
unfolding forms in_items in_names in_keywords
foreign = refl

not_asked : restricted_from NotAsked (one "format" (text "uuid")) ≡ empty
unfolding forms in_items in_names in_keywords
not_asked = refl
