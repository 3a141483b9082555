-- What each transform makes of one schema whose subschemas are done, and of a schema with all schemas inside it.
use Rattle.std.specs.Prelude.{◌≡◌, ◌&&◌, Option, Some, None, is_some, if◌then◌else◌, codes, bytes_eq, MatchResult}
use Rattle.serde_json.specs.Data.{Data, null, boolean, number, string, array, object, no_items, item, no_members, member}
use Rattle.serde_json.specs.Find.{get, as_bool}
use Rattle.schemars_schema.specs.SchemaData.{members_in, inserted}
use Rattle.schemars_schema.specs.Edits.{removed, has_one_member, with_last, changed_at}
use Rattle.schemars_schema.specs.References.{NoSchemas, place_under}
use Rattle.schemars_walk.specs.Walk.{Answer}
use Rattle.schemars_walk.specs.Rewritten.{Rules, rewritten, all_changed}
use Rattle.schemars_walk.specs.declared.transform.TransformError.TheVariants.{Memory}
use Rattle.schemars_transform.specs.declared.built_in.bool_schemas.ReplaceBoolSchemas.{ReplaceBoolSchemas}

-- a transform that changes a schema by a function: its own state stays, and its only error is that memory runs out
abbrev pub Changes : {T : Type 0} → (Data → Data) → T → Data → Answer → T → Data → Type 0
Changes f t s r u v = (u ≡ t) × MatchResult r (λ _. v ≡ f s) (λ e. e ≡ Memory)

-- ---- truth values

-- truth values become objects, but with the skip not those under `additionalProperties`
abbrev pub bool_rules : Rules ReplaceBoolSchemas
bool_rules = record {
  inside = λ r s. r;
  place = λ r k d. if r.skip_additional_properties && (bytes_eq k (codes "additionalProperties") && is_some (as_bool d)) then NoSchemas
      else place_under k;
  finish = λ r s. object (members_in s);
}

abbrev pub replace_bool_schemas : ReplaceBoolSchemas → Data → Data
replace_bool_schemas t s = rewritten bool_rules t s

-- ---- `$ref` beside other keywords

abbrev pub referring : Data → Data
referring r = object (member (codes "$ref") r no_members)

-- it is added at the end of `allOf`, which is made if it is missing, and stays as it is if it is not a list
abbrev pub reference_moved : Option Data → Data → Data
reference_moved None s = s
reference_moved (Some r) s = object (changed_at (codes "allOf") (with_last (referring r)) (array no_items) (members_in s))

abbrev pub without_siblings : Data → Data
without_siblings s =
    if has_one_member s then s else reference_moved (get (codes "$ref") s) (removed (codes "$ref") s)

abbrev pub remove_ref_siblings : Data → Data
remove_ref_siblings s = all_changed without_siblings s

-- ---- `examples`

abbrev pub first_as_example : Option Data → Data → Data
first_as_example None s = s
first_as_example (Some null) s = s
first_as_example (Some (boolean b)) s = s
first_as_example (Some (number n)) s = s
first_as_example (Some (string t)) s = s
first_as_example (Some (array no_items)) s = s
first_as_example (Some (array (item d ds))) s = inserted (codes "example") d s
first_as_example (Some (object ms)) s = s

-- `examples` go, and the first of them becomes `example`
abbrev pub with_single_example : Data → Data
with_single_example s = first_as_example (get (codes "examples") s) (removed (codes "examples") s)

abbrev pub set_single_example : Data → Data
set_single_example s = all_changed with_single_example s

-- ---- `const`

abbrev pub value_as_enum : Option Data → Data → Data
value_as_enum None s = s
value_as_enum (Some c) s = inserted (codes "enum") (array (item c no_items)) s

-- `const` becomes an `enum` of its value alone
abbrev pub const_as_enum : Data → Data
const_as_enum s = value_as_enum (get (codes "const") s) (removed (codes "const") s)

abbrev pub replace_const_value : Data → Data
replace_const_value s = all_changed const_as_enum s

-- ---- `prefixItems`

abbrev pub old_items_moved : Option Data → Data → Data
old_items_moved None s = s
old_items_moved (Some items) s = inserted (codes "additionalItems") items s

abbrev pub prefix_moved : Option Data → Data → Data
prefix_moved None s = s
prefix_moved (Some prefix) s = old_items_moved (get (codes "items") s) (inserted (codes "items") prefix s)

-- `prefixItems` become `items`, and old `items` become `additionalItems`
abbrev pub prefix_as_items : Data → Data
prefix_as_items s = prefix_moved (get (codes "prefixItems") s) (removed (codes "prefixItems") s)

abbrev pub replace_prefix_items : Data → Data
replace_prefix_items s = all_changed prefix_as_items s
