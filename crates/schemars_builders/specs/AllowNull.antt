-- A schema that accepts null too.
use Rattle.std.specs.Prelude.{◌&&◌, ◌||◌, [], ◌∷◌, Bool, true, false, Option, Some, None, is_some, option_and_then, if◌then◌else◌, codes, bytes_eq}
use Rattle.serde_json.specs.Data.{Data, null, boolean, number, string, array, object, Items, no_items, item, Members, no_members, member, put}
use Rattle.serde_json.specs.Find.{get, get_member, as_str}
use Rattle.schemars_schema.specs.SchemaData.{object_of}
use Rattle.schemars_schema.specs.Edits.{without, is_text, holds_text, has_one_member, with_item}
use Rattle.schemars_schema.specs.Assertions.{is_null}

-- the schema of null alone
abbrev pub null_schema : Data
null_schema = object_of ((codes "type", string (codes "null")) ∷ [])

-- `{}` and `true` accept everything, so they refuse everything under `not`
abbrev pub accepts_everything : Option Data → Bool
accepts_everything None = false
accepts_everything (Some null) = false
accepts_everything (Some (boolean b)) = b
accepts_everything (Some (number n)) = false
accepts_everything (Some (string s)) = false
accepts_everything (Some (array ds)) = false
accepts_everything (Some (object no_members)) = true
accepts_everything (Some (object (member k d ms))) = false

-- such a schema may refuse null by more than its own type
abbrev pub is_combined : Data → Bool
is_combined s =
    is_some (get (codes "if") s)
    || (is_some (get (codes "allOf") s)
    || (is_some (get (codes "anyOf") s) || (is_some (get (codes "oneOf") s) ||
    (is_some (get (codes "$ref") s) || accepts_everything (get (codes "not") s)))))

-- ---- the schema of null among others

abbrev pub holds_null : Items → Bool
holds_null no_items = false
holds_null (item d ds) = is_null d || holds_null ds

abbrev pub const_admits_null : Option Data → Bool
const_admits_null None = true
const_admits_null (Some c) = is_null c

-- an `enum` that is not a list says nothing
abbrev pub enum_admits_null : Option Data → Bool
enum_admits_null None = true
enum_admits_null (Some null) = true
enum_admits_null (Some (boolean b)) = true
enum_admits_null (Some (number n)) = true
enum_admits_null (Some (string s)) = true
enum_admits_null (Some (array ds)) = holds_null ds
enum_admits_null (Some (object ms)) = true

-- its type is `null`, which its `const` and `enum` admit
abbrev pub is_null_schema : Data → Bool
is_null_schema d =
    is_text (codes "null") (option_and_then as_str (get (codes "type") d))
    && (const_admits_null (get (codes "const") d) && enum_admits_null (get (codes "enum") d))

abbrev pub holds_null_schema : Items → Bool
holds_null_schema no_items = false
holds_null_schema (item d ds) = is_null_schema d || holds_null_schema ds

abbrev pub offers_null : Option Data → Bool
offers_null None = false
offers_null (Some null) = false
offers_null (Some (boolean b)) = false
offers_null (Some (number n)) = false
offers_null (Some (string s)) = false
offers_null (Some (array ds)) = holds_null_schema ds
offers_null (Some (object ms)) = false

-- `anyOf` alone, with the schema of null among its schemas
abbrev pub is_null_choice : Data → Bool
is_null_choice s = has_one_member s && offers_null (get (codes "anyOf") s)

-- ---- null in a type

-- a type with null at its end, unless it has null
abbrev pub type_with_null : Data → Data
type_with_null null = null
type_with_null (boolean b) = boolean b
type_with_null (number n) = number n
type_with_null (string t) = if bytes_eq t (codes "null") then string t else array (item (string t) (item (string (codes "null")) no_items))
type_with_null (array ds) = if holds_text (codes "null") ds then array ds else array (with_item ds (string (codes "null")))
type_with_null (object ms) = object ms

abbrev pub null_in_type : Option Data → Members → Members
null_in_type None ms = ms
null_in_type (Some type) ms = put (codes "type") (type_with_null type) ms

-- ---- null in a `const` or an `enum`

-- a list of values with null at its end, unless it has null
abbrev pub enum_with_null : Data → Data
enum_with_null null = null
enum_with_null (boolean b) = boolean b
enum_with_null (number n) = number n
enum_with_null (string t) = string t
enum_with_null (array ds) = if holds_null ds then array ds else array (with_item ds null)
enum_with_null (object ms) = object ms

abbrev pub null_in_enum : Option Data → Members → Members
null_in_enum None ms = ms
null_in_enum (Some values) ms = put (codes "enum") (enum_with_null values) ms

-- this value or null, in place of this value alone
abbrev pub const_or_null : Data → Members → Members
const_or_null c ms = put (codes "enum") (array (item c (item null no_items))) (without (codes "const") ms)

-- a null stays; without a `const`, `enum` decides
abbrev pub null_in_const : Option Data → Members → Members
null_in_const None ms = null_in_enum (get_member (codes "enum") ms) ms
null_in_const (Some c) ms = if is_null c then ms else const_or_null c ms

abbrev pub null_in_values : Members → Members
null_in_values ms = null_in_const (get_member (codes "const") ms) ms

-- ---- the whole

-- this schema or null
abbrev pub or_null : Data → Data
or_null schema = object_of ((codes "anyOf", array (item schema (item null_schema no_items))) ∷ [])

abbrev pub allow_null : Data → Data
allow_null null = null
allow_null (boolean true) = boolean true
allow_null (boolean false) = null_schema
allow_null (number n) = number n
allow_null (string s) = string s
allow_null (array ds) = array ds
allow_null (object ms) =
    if is_null_choice (object ms) then object ms
    else if is_combined (object ms) then or_null (object ms)
    else object (null_in_values (null_in_type (get_member (codes "type") ms) ms))
