-- The law of `flatten`: two schemas of objects in one accept what both accept.
use Rattle.std.specs.Prelude.{◌≡◌, ◌&&◌, Bool, true, false, not, if◌then◌else◌, None, Some, is_some, option_and_then, codes, bytes_eq}
use Rattle.serde_json.specs.Data.{Data, Members, no_members, member}
use Rattle.serde_json.specs.Find.{get, as_str, as_array, as_object}
use Rattle.schemars_schema.specs.Json.{Text}
use Rattle.schemars_schema.specs.SchemaData.{is_schema}
use Rattle.schemars_schema.specs.Annotations.{is_annotation}
use Rattle.schemars_schema.specs.Verdict.{both}
use Rattle.schemars_schema.specs.Judges.{Context}
use Rattle.schemars_schema.specs.Assertions.{texts_in}
use Rattle.schemars_schema.specs.Acceptance.{judge}
use Rattle.schemars_schema.specs.Edits.{is_text}
use Rattle.schemars_flatten.specs.Flatten.{contains_key}

-- each key once, as in a map
abbrev pub has_keys_once : Members → Bool
has_keys_once no_members = true
has_keys_once (member k d ms) = not (contains_key k ms) && has_keys_once ms

abbrev pub are_schemas : Members → Bool
are_schemas no_members = true
are_schemas (member k d ms) = is_schema d && are_schemas ms

abbrev pub are_schemas_by_name : Data → Bool
are_schemas_by_name d = elim (as_object d) [ None ↦ false | Some ms ↦ are_schemas ms && has_keys_once ms ]

abbrev pub are_texts : Data → Bool
are_texts d = is_some (option_and_then texts_in (as_array d))

-- `type` is `object`, and beside `properties` and `required` there are annotations alone
abbrev pub is_object_keyword : Text → Data → Bool
is_object_keyword k d =
    if bytes_eq k (codes "type") then is_text (codes "object") (as_str d)
    else if bytes_eq k (codes "properties") then are_schemas_by_name d
    else if bytes_eq k (codes "required") then are_texts d
    else is_annotation k

abbrev pub are_object_keywords : Members → Bool
are_object_keywords no_members = true
are_object_keywords (member k d ms) = is_object_keyword k d && are_object_keywords ms

abbrev pub is_object_schema : Data → Bool
is_object_schema s = elim (as_object s) [ None ↦ false | Some ms ↦ are_object_keywords ms && has_keys_once ms ]

abbrev pub properties_of : Data → Members
properties_of s = elim (option_and_then as_object (get (codes "properties") s)) [ None ↦ no_members | Some ms ↦ ms ]

-- no name in both
abbrev pub are_apart : Members → Members → Bool
are_apart ms no_members = true
are_apart ms (member k d ns) = not (contains_key k ms) && are_apart ms ns

-- two schemas of objects, with no property in both
pub record AreJoinable (s o : Data) : Type 0 where
  pub first : is_object_schema s ≡ true
  pub second : is_object_schema o ≡ true
  pub apart : are_apart (properties_of s) (properties_of o) ≡ true

-- in every dialect, wherever references lead and whatever patterns match
abbrev pub AcceptsBoth : Data → Data → Data → Type 0
AcceptsBoth s o new = (c : Context) (v : Data) → (judge c new).fits v ≡ both ((judge c s).fits v) ((judge c o).fits v)
