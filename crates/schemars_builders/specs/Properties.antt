-- Properties put into the schema of an object.
use Rattle.std.specs.Prelude.{◌&&◌, Bool, false, option_and_then, if◌then◌else◌, codes}
use Rattle.serde_json.specs.Data.{Data, boolean, string, array, object, no_items, Members, no_members, put}
use Rattle.serde_json.specs.Find.{get, as_str}
use Rattle.schemars_schema.specs.Json.{Text}
use Rattle.schemars_schema.specs.SchemaData.{members_in}
use Rattle.schemars_schema.specs.Edits.{is_text, with_member, with_first, with_last, changed_at, put_missing}
use Rattle.schemars_builders.specs.Variants.{unit_variant}

-- ---- the keywords of an object's schema

-- the schema of a property, in place of any under its name
abbrev pub with_property : Text → Data → Members → Members
with_property name schema ms = changed_at (codes "properties") (with_member name schema) (object no_members) ms

abbrev pub required_first : Text → Members → Members
required_first name ms = changed_at (codes "required") (with_first (string name)) (array no_items) ms

abbrev pub required_last : Text → Members → Members
required_last name ms = changed_at (codes "required") (with_last (string name)) (array no_items) ms

abbrev pub required_unless : Bool → Text → Members → Members
required_unless is_optional name ms = if is_optional then ms else required_last name ms

-- a schema, made an object, with this property
abbrev pub with_object_property : Text → Bool → Data → Data → Data
with_object_property name is_optional property schema =
    object (required_unless is_optional name (with_property name property (members_in schema)))

-- ---- tags

abbrev pub has_null_type : Data → Bool
has_null_type schema = is_text (codes "null") (option_and_then as_str (get (codes "type") schema))

-- objects that have to have the tag, with the variant's name under it
abbrev pub tagged : Text → Text → Members → Members
tagged tag variant ms =
    required_first tag (with_property tag (unit_variant variant) (put (codes "type") (string (codes "object")) ms))

-- no other keys, unless they are spoken of
abbrev pub closed_where : Bool → Members → Members
closed_where closed ms = if closed then put_missing (codes "additionalProperties") (boolean false) ms else ms

-- the schema of a variant's values, made that of objects with the tag among their members
abbrev pub internally_tagged_variant : Text → Text → Bool → Data → Data
internally_tagged_variant tag variant deny_unknown schema =
    object (closed_where (deny_unknown && has_null_type schema) (tagged tag variant (members_in schema)))
