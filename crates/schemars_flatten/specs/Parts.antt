-- What a finished document becomes where it is a part of another object.
use Rattle.std.specs.Prelude.{◌||◌, [], ◌∷◌, Bool, true, false, Option, Some, None, if◌then◌else◌, option_map, option_and_then, codes}
use Rattle.serde_json.specs.Data.{Data, null, boolean, number, string, array, object, Items, no_items, item, no_members, member}
use Rattle.serde_json.specs.Find.{get, as_str, as_array}
use Rattle.schemars_schema.specs.Json.{Text}
use Rattle.schemars_schema.specs.SchemaData.{members_in, object_of}
use Rattle.schemars_schema.specs.Edits.{removed, replaced, with_item, changed_at, on_list}
use Rattle.schemars_builders.specs.AllowNull.{null_schema}
use Rattle.schemars_flatten.specs.Flatten.{appended, alone, flattened}
use Rattle.schemars_flatten.specs.Opening.{has_type, opened}

-- ---- units as objects

-- an object with the unit's name as its one key, and null there
abbrev pub unit_object : Text → Data
unit_object name = object_of (
    (codes "type", string (codes "object")) ∷ (codes "properties", object_of ((name, null_schema) ∷ []))
    ∷ (codes "required", array (item (string name) no_items)) ∷ []
    )

abbrev pub unit_object_first : Option Text → Items → Items
unit_object_first None units = units
unit_object_first (Some name) units = item (unit_object name) units

-- one for each text of a list
abbrev pub unit_objects : Items → Items
unit_objects no_items = no_items
unit_objects (item d ds) = unit_object_first (as_str d) (unit_objects ds)

-- those of a schema that lists texts
abbrev pub units_of : Data → Option Items
units_of s =
    if has_type (codes "string") s then option_map unit_objects (option_and_then as_array (get (codes "enum") s))
    else None

-- a list with these at its end
abbrev pub with_items : Items → Data → Data
with_items es d = on_list (λ ds. appended ds es) d

abbrev pub with_units : Items → Data → Data
with_units units s = object (changed_at (codes "oneOf") (with_items units) (array no_items) (members_in s))

abbrev pub first_units : Items → Option Items
first_units no_items = None
first_units (item d ds) = units_of d

abbrev pub behind_first : Items → Items
behind_first no_items = no_items
behind_first (item d ds) = ds

-- a list whose first schema lists texts has their objects at its end in place of it
abbrev pub first_as_objects : Items → Items
first_as_objects ds = elim (first_units ds) [ None ↦ ds | Some units ↦ appended (behind_first ds) units ]

-- a schema with the list at a keyword changed, if there is one
abbrev pub list_changed_at : Text → (Items → Items) → Data → Data
list_changed_at k change s = elim (get k s) [
  | None ↦ s
  | Some d ↦ object (replaced k (on_list change d) (members_in s))
]

-- texts that a schema lists, or the first schema of its `oneOf`, become objects under `oneOf`
abbrev pub units_as_objects : Data → Data
units_as_objects s = elim (units_of s) [
  | None ↦ list_changed_at (codes "oneOf") first_as_objects s
  | Some units ↦ with_units units (removed (codes "type") (removed (codes "enum") s))
]

-- ---- parts that may be missing

abbrev pub is_empty_object : Data → Bool
is_empty_object null = false
is_empty_object (boolean b) = false
is_empty_object (number n) = false
is_empty_object (string s) = false
is_empty_object (array ds) = false
is_empty_object (object no_members) = true
is_empty_object (object (member k d ms)) = false

abbrev pub holds_empty_object : Items → Bool
holds_empty_object no_items = false
holds_empty_object (item d ds) = is_empty_object d || holds_empty_object ds

-- a list with `{}` at its end, unless it has it
abbrev pub with_empty_object : Items → Items
with_empty_object ds = if holds_empty_object ds then ds else with_item ds (object no_members)

-- one of these, or anything
abbrev pub one_or_anything : Data → Data
one_or_anything choice =
    alone (codes "anyOf") (array (item (alone (codes "oneOf") choice) (item (object no_members) no_items)))

-- its `oneOf` is moved into an `anyOf` that admits anything
abbrev pub choice_or_anything : Data → Data
choice_or_anything s = elim (get (codes "oneOf") s) [
  | None ↦ s
  | Some choice ↦ flattened (removed (codes "oneOf") s) (one_or_anything choice)
]

-- nothing is required, and its choices admit anything
abbrev pub optional : Data → Data
optional s = list_changed_at (codes "anyOf") with_empty_object (choice_or_anything (removed (codes "required") s))

abbrev pub optional_where : Bool → Data → Data
optional_where is_optional s = if is_optional then optional s else s

-- ---- the whole

-- what is flattened into the document of the object around it
abbrev pub flattened_part : Bool → Data → Data
flattened_part is_optional s = opened (optional_where is_optional (units_as_objects s))
