-- The schemas of a document that have keywords, and their places.
use Rattle.std.specs.Prelude.{◌≡◌, ℕ, ◌+◌, ◌==◌, List, [], ◌∷◌, ◌++◌, Option, Some, None, option_and_then, if◌then◌else◌, codes, map, Contains, string_bytes}
use Rattle.std.specs.Char.{encode_utf8}
use Rattle.std.specs.Fmt.{decimal}
use Rattle.std.specs.Str.{chars}
use Rattle.serde_json.specs.Data.{Data, null, boolean, number, string, array, object, Items, no_items, item, Members, no_members, member}
use Rattle.serde_json.specs.Find.{get_member, as_str, pointer}
use Rattle.serde_json.specs.View.{members_view}
use Rattle.schemars_text.specs.OrderedText.{is_listed}
use Rattle.schemars_schema.specs.Json.{Text}
use Rattle.schemars_schema.specs.Encoding.{percent_decoded}
use Rattle.schemars_readable.specs.declared.places.Place.{Place}

-- ---- places: JSON Pointers (RFC 6901)

-- `~` becomes `~0`, and `/` becomes `~1`
abbrev pub escaped_character : ℕ → Text
escaped_character c = if c == 126 then codes "~0" else if c == 47 then codes "~1" else encode_utf8 c

abbrev pub escaped_characters : List ℕ → Text
escaped_characters [] = []
escaped_characters (c ∷ cs) = escaped_character c ++ escaped_characters cs

abbrev pub escaped : Text → Text
escaped t = escaped_characters (chars t)

-- the place of a member, and of an item, of what is at a place
abbrev pub member_place : Text → Text → Text
member_place place k = place ++ 47 ∷ escaped k

abbrev pub item_place : Text → ℕ → Text
item_place place n = place ++ 47 ∷ decimal n

-- ---- schemas inside one another

-- the keywords with a schema, with a list of schemas, and with schemas by name
abbrev pub with_schema : List Text
with_schema = codes "not" ∷ codes "if" ∷ codes "then" ∷ codes "else" ∷ codes "items" ∷ codes "additionalItems" ∷ codes "contains"
    ∷ codes "additionalProperties" ∷ codes "propertyNames" ∷ codes "unevaluatedProperties" ∷ codes "unevaluatedItems" ∷ []

abbrev pub with_schemas : List Text
with_schemas = codes "allOf" ∷ codes "anyOf" ∷ codes "oneOf" ∷ codes "prefixItems" ∷ codes "items" ∷ []

abbrev pub with_names : List Text
with_names = codes "properties" ∷ codes "patternProperties" ∷ codes "dependentSchemas" ∷ codes "dependencies" ∷ codes "$defs"
    ∷ codes "definitions" ∷ []

-- a schema that is at a place, and those inside it: the place and the members of each
unfoldable mutual
  pub schemas_at : Text → Data → List (Text × Members)
  schemas_at place null = []
  schemas_at place (boolean b) = []
  schemas_at place (number n) = []
  schemas_at place (string s) = []
  schemas_at place (array ds) = []
  schemas_at place (object ms) = (place, ms) ∷ schemas_inside place ms

  pub schemas_inside : Text → Members → List (Text × Members)
  schemas_inside place no_members = []
  schemas_inside place (member k d ms) = schemas_under k (member_place place k) d ++ schemas_inside place ms

  -- under a keyword
  pub schemas_under : Text → Text → Data → List (Text × Members)
  schemas_under k place null = []
  schemas_under k place (boolean b) = []
  schemas_under k place (number n) = []
  schemas_under k place (string s) = []
  schemas_under k place (array ds) = if is_listed k with_schemas then schemas_listed place 0 ds else []
  schemas_under k place (object ms) =
      if is_listed k with_schema then (place, ms) ∷ schemas_inside place ms
      else if is_listed k with_names then schemas_named place ms
      else []

  pub schemas_listed : Text → ℕ → Items → List (Text × Members)
  schemas_listed place n no_items = []
  schemas_listed place n (item d ds) = schemas_at (item_place place n) d ++ schemas_listed place (n + 1) ds

  pub schemas_named : Text → Members → List (Text × Members)
  schemas_named place no_members = []
  schemas_named place (member k d ms) = schemas_at (member_place place k) d ++ schemas_named place ms

-- ---- references

-- the text of the reference of an object
abbrev pub reference_of : Members → Option Text
reference_of ms = option_and_then as_str (get_member (codes "$ref") ms)

-- the pointer behind its `#`
abbrev pub pointer_in : Text → Option Text
pointer_in [] = None
pointer_in (x ∷ rest) = if x == 35 then percent_decoded rest else None

abbrev pub schemas_found : Text → Option Data → List (Text × Members)
schemas_found place None = []
schemas_found place (Some d) = schemas_at place d

abbrev pub schemas_pointed : Data → Option Text → List (Text × Members)
schemas_pointed document None = []
schemas_pointed document (Some path) = schemas_found path (pointer path document)

-- the schemas in what a reference leads to
abbrev pub schemas_referred : Data → Text → List (Text × Members)
schemas_referred document reference = schemas_pointed document (pointer_in reference)

-- an object with these members is a schema of the document at a place: inside the whole, or in what a reference of such
-- a schema leads to
pub data StandsAt (document : Data) : Text → Members → Type 0 where
  inside : (place : Text) (ms : Members) → Contains (schemas_at [] document) (place, ms) → StandsAt document place ms
  referred : (from place : Text) (source ms : Members) (reference : Text) → StandsAt document from source
      → reference_of source ≡ Some reference → Contains (schemas_referred document reference) (place, ms)
      → StandsAt document place ms

-- ---- as they are found

abbrev pub standing : List Place → List (Text × Members)
standing places = map (λ p. (string_bytes p.pointer, members_view p.keywords.now.entries)) places
