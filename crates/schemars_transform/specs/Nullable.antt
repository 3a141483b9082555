-- `nullable` in place of null among the types of a schema.
use Rattle.std.specs.Prelude.{◌&&◌, Bool, true, false, Option, Some, None, if◌then◌else◌, codes, bytes_eq}
use Rattle.serde_json.specs.Data.{Data, null, boolean, number, string, array, object, Items, no_items, item}
use Rattle.serde_json.specs.Find.{get, as_str}
use Rattle.schemars_schema.specs.SchemaData.{members_in, inserted}
use Rattle.schemars_schema.specs.Edits.{removed, replaced, is_text, holds_text}
use Rattle.schemars_walk.specs.Rewritten.{all_changed}
use Rattle.schemars_transform.specs.declared.built_in.nullable.AddNullable.{AddNullable}
use Rattle.schemars_transform.specs.declared.built_in.nullable.Nulls.{Nulls}
use Rattle.schemars_transform.specs.declared.built_in.nullable.Nulls.TheVariants.{Missing, Alone, Among}

abbrev pub is_null_name : Data → Bool
is_null_name d = is_text (codes "null") (as_str d)

abbrev pub all_null : Items → Bool
all_null no_items = true
all_null (item d ds) = is_null_name d && all_null ds

-- whether a `type` holds null, and whether it holds nothing else
abbrev pub nulls_in : Option Data → Nulls
nulls_in None = Missing
nulls_in (Some null) = Missing
nulls_in (Some (boolean b)) = Missing
nulls_in (Some (number n)) = Missing
nulls_in (Some (string s)) = if bytes_eq s (codes "null") then Alone else Missing
nulls_in (Some (array ds)) = if holds_text (codes "null") ds then if all_null ds then Alone else Among else Missing
nulls_in (Some (object ms)) = Missing

-- whether a `type` holds null
abbrev pub has_null : Data → Bool
has_null null = false
has_null (boolean b) = false
has_null (number n) = false
has_null (string s) = bytes_eq s (codes "null")
has_null (array ds) = holds_text (codes "null") ds
has_null (object ms) = false

abbrev pub without_null : Items → Items
without_null no_items = no_items
without_null (item d ds) = if is_null_name d then without_null ds else item d (without_null ds)

-- a list of one becomes its item
abbrev pub one_or_list : Items → Data
one_or_list no_items = array no_items
one_or_list (item d no_items) = d
one_or_list (item d (item e ds)) = array (item d (item e ds))

abbrev pub type_without_null : Data → Data
type_without_null null = null
type_without_null (boolean b) = boolean b
type_without_null (number n) = number n
type_without_null (string s) = string s
type_without_null (array ds) = one_or_list (without_null ds)
type_without_null (object ms) = object ms

abbrev pub null_taken_out : Option Data → Data → Data
null_taken_out None s = s
null_taken_out (Some type) s = object (replaced (codes "type") (type_without_null type) (members_in s))

-- null is the only type
abbrev pub null_alone : AddNullable → Data → Data
null_alone t s =
    if t.add_const_null then if t.remove_null_type then removed (codes "type") (inserted (codes "const") null s) else inserted (codes
    "const") null s
    else if t.remove_null_type then inserted (codes "type") (array no_items) s
    else s

-- null is one of several types
abbrev pub null_among : AddNullable → Data → Data
null_among t s = if t.remove_null_type then null_taken_out (get (codes "type") s) s else s

abbrev pub nullable_by : AddNullable → Nulls → Data → Data
nullable_by t Missing s = s
nullable_by t Alone s = null_alone t (inserted (codes "nullable") (boolean true) s)
nullable_by t Among s = null_among t (inserted (codes "nullable") (boolean true) s)

-- one schema
abbrev pub with_nullable : AddNullable → Data → Data
with_nullable t s = nullable_by t (nulls_in (get (codes "type") s)) s

-- a schema and all schemas inside it; `type`, `nullable` and `const` hold no schemas, so that the order of walk and change is the same
abbrev pub add_nullable : AddNullable → Data → Data
add_nullable t s = all_changed (with_nullable t) s
