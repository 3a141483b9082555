-- The definitions at examples, computed.
use Rattle.std.proofs.Common.{◌≡◌, negsuc, [], ◌∷◌, true, false, refl, map}
use Rattle.schemars_readable.proofs.Words.{codes, chars, fin, le, lt, eq, digits, encode, Data, unsigned, float, boolean, number, string, array, object, Items, no_items, item, Members, no_members, member, expression_of, schemas_at, schemas_inside, schemas_under, schemas_listed, schemas_named, unread_among, is_malformed, patterns_in}
use Rattle.schemars_readable.specs.declared.draft.Draft.TheVariants.{Draft07, Draft2019_09, Draft2020_12, OpenApi3}

-- ---- patterns

classes_of_escapes : expression_of (codes "^\\d+.$") ≡ codes "^[0-9]+[^\\n\\r\\x{2028}\\x{2029}]$"
unfolding expression_of chars encode
classes_of_escapes = refl

brackets : expression_of (codes "[^[\\b&][]") ≡ codes "[^\\[\\x08\\&][[a&&b]]"
unfolding expression_of chars encode
brackets = refl

ranges : expression_of (codes "[+--/][--9][a-c--e][^^-a][\\x41-\\x5A--z]")
    ≡ codes "[+-\\-/][\\--9][a-c\\--e][^^-a][\\x41-\\x5A\\--z]"
unfolding expression_of chars encode
ranges = refl

boundaries : expression_of (codes "\\b\\B") ≡ codes "(?-u:\\b)(?-u:\\B)"
unfolding expression_of chars encode
boundaries = refl

backslash : expression_of (codes "a\\") ≡ codes "a\\"
unfolding expression_of chars encode
backslash = refl

-- ---- places

-- {"allOf": [true, {"not": {}}], "enum": [{"not": {}}], "properties": {"a/~": {}}}
abbrev choices : Items
choices = item (boolean true) (item (object (member (codes "not") (object no_members) no_members)) no_items)

abbrev document : Data
document = object (member (codes "allOf") (array choices)
    (member (codes "enum") (array choices)
    (member (codes "properties") (object (member (codes "a/~") (object no_members) no_members)) no_members)))

places : map (λ s. s.0) (schemas_at [] document)
    ≡ [] ∷ codes "/allOf/1" ∷ codes "/allOf/1/not" ∷ codes "/properties/a~1~0" ∷ []
unfolding schemas_at schemas_inside schemas_under schemas_listed schemas_named chars encode digits
places = refl

abbrev nothing : Data
nothing = object no_members

-- {"if": {"contains": {}}, "dependentSchemas": {"a": {"propertyNames": {}}, "b": {"then": {}, "else": {}}},
-- "dependentRequired": {"c": {}}}
abbrev conditions : Data
conditions = object (member (codes "if") (object (member (codes "contains") nothing no_members))
    (member (codes "dependentSchemas") (object (member (codes "a") (object (member (codes "propertyNames") nothing no_members))
    (member (codes "b") (object (member (codes "then") nothing (member (codes "else") nothing no_members))) no_members)))
    (member (codes "dependentRequired") (object (member (codes "c") nothing no_members)) no_members)))

places_of_conditions : map (λ s. s.0) (schemas_at [] conditions)
    ≡ [] ∷ codes "/if" ∷ codes "/if/contains" ∷ codes "/dependentSchemas/a" ∷ codes "/dependentSchemas/a/propertyNames"
    ∷ codes "/dependentSchemas/b" ∷ codes "/dependentSchemas/b/then" ∷ codes "/dependentSchemas/b/else" ∷ []
unfolding schemas_at schemas_inside schemas_under schemas_listed schemas_named chars encode digits
places_of_conditions = refl

-- {"dependencies": {"a": [], "b": {}}, "unevaluatedItems": {}}
abbrev later_keywords : Data
later_keywords = object (member (codes "dependencies") (object (member (codes "a") (array no_items) (member (codes "b") nothing no_members)))
    (member (codes "unevaluatedItems") nothing no_members))

places_of_later_keywords : map (λ s. s.0) (schemas_at [] later_keywords)
    ≡ [] ∷ codes "/dependencies/b" ∷ codes "/unevaluatedItems" ∷ []
unfolding schemas_at schemas_inside schemas_under schemas_listed schemas_named chars encode digits
places_of_later_keywords = refl

-- ---- keywords that are not read

-- {"$id": "a", "if": {}, "dependencies": {}, "$dynamicRef": true}
abbrev dependent : Members
dependent = member (codes "$id") (string (codes "a")) (member (codes "if") nothing (member (codes "dependencies") nothing
    (member (codes "$dynamicRef") (boolean true) no_members)))

unread : unread_among Draft2020_12 document (codes "/not") dependent
    ≡ (codes "/not/$id", codes "$id") ∷ (codes "/not/dependencies", codes "dependencies")
    ∷ (codes "/not/$dynamicRef", codes "$dynamicRef") ∷ []
unfolding chars encode
unread = refl

unread_whole : (unread_among OpenApi3 document [] dependent ≡ []) × (unread_among Draft07 document [] dependent ≡ [])
unfolding chars encode
unread_whole = (refl, refl)

-- {"multipleOf": 0.5}, and 2
divided : (unread_among Draft07 document [] (member (codes "multipleOf") (number (float (fin false 1 (negsuc 0)))) no_members)
    ≡ (codes "/multipleOf", codes "multipleOf") ∷ [])
    × (unread_among Draft07 document [] (member (codes "multipleOf") (number (unsigned 2)) no_members) ≡ [])
unfolding chars encode le lt eq
divided = (refl, refl)

-- {"$schema": "a"}
other_dialect : unread_among Draft07 document [] (member (codes "$schema") (string (codes "a")) no_members)
    ≡ (codes "/$schema", codes "$schema") ∷ []
unfolding chars encode
other_dialect = refl

-- ---- keywords of the wrong form

-- {"items": [{}]}
a_list_of_items : (is_malformed Draft2020_12 (codes "items") (array (item nothing no_items)) ≡ true)
    × (is_malformed OpenApi3 (codes "items") (array (item nothing no_items)) ≡ true)
    × (is_malformed Draft07 (codes "items") (array (item nothing no_items)) ≡ false)
a_list_of_items = (refl, refl, refl)

-- {"type": "strin"}, {"type": "null"} and {"type": 3}
types : (is_malformed Draft07 (codes "type") (string (codes "strin")) ≡ true)
    × (is_malformed Draft07 (codes "type") (string (codes "null")) ≡ false)
    × (is_malformed OpenApi3 (codes "type") (string (codes "null")) ≡ true)
    × (is_malformed Draft07 (codes "type") (number (unsigned 3)) ≡ true)
types = (refl, refl, refl, refl)

-- {"minLength": "5"}, {"required": "name"}, {"properties": {"b": 3}}, {"multipleOf": 0}, {"anyOf": []}, {"title": 3}
others : (is_malformed Draft2019_09 (codes "minLength") (string (codes "5")) ≡ true)
    × (is_malformed Draft2019_09 (codes "required") (string (codes "name")) ≡ true)
    × (is_malformed Draft2019_09 (codes "properties") (object (member (codes "b") (number (unsigned 3)) no_members)) ≡ true)
    × (is_malformed Draft2019_09 (codes "multipleOf") (number (unsigned 0)) ≡ true)
    × (is_malformed Draft2019_09 (codes "anyOf") (array no_items) ≡ true)
    × (is_malformed Draft2019_09 (codes "title") (number (unsigned 3)) ≡ false)
unfolding le
others = (refl, refl, refl, refl, refl, refl)

-- ---- patterns of a schema

-- {"pattern": "a", "patternProperties": {"b": true}}
asked : patterns_in (codes "/not") (member (codes "pattern") (string (codes "a"))
    (member (codes "patternProperties") (object (member (codes "b") (boolean true) no_members)) no_members))
    ≡ (codes "/not/pattern", codes "a") ∷ (codes "/not/patternProperties", codes "b") ∷ []
unfolding chars encode
asked = refl
