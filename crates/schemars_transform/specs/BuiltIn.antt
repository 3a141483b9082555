-- What built-in transforms make of a schema.
use Rattle.std.specs.Prelude.{◌≡◌, List, [], ◌∷◌}
use Rattle.serde_json.specs.Data.{Data, null, boolean, number, string, array, object, Members, no_members, member}
use Rattle.schemars_transform.specs.Built.{replace_bool_schemas, remove_ref_siblings, set_single_example, replace_const_value, replace_prefix_items}
use Rattle.schemars_transform.specs.Nullable.{add_nullable}
use Rattle.schemars_transform.specs.Unevaluated.{replace_unevaluated_properties}
use Rattle.schemars_transform.specs.Formats.{restrict_formats}
use Rattle.schemars_transform.specs.declared.gen_transform.GenTransform.{GenTransform}
use Rattle.schemars_transform.specs.declared.gen_transform.GenTransform.TheVariants.{ReplaceBoolSchemas, RemoveRefSiblings, SetSingleExample, ReplaceConstValue, ReplacePrefixItems, AddNullable, ReplaceUnevaluatedProperties, RestrictFormats, Own}

-- the function of a built-in transform; of one's own nothing is known
abbrev pub function_of : {O : Type 0} → GenTransform O → Data → Data
function_of (ReplaceBoolSchemas t) s = replace_bool_schemas t s
function_of (RemoveRefSiblings t) s = remove_ref_siblings s
function_of (SetSingleExample t) s = set_single_example s
function_of (ReplaceConstValue t) s = replace_const_value s
function_of (ReplacePrefixItems t) s = replace_prefix_items s
function_of (AddNullable t) s = add_nullable t s
function_of (ReplaceUnevaluatedProperties t) s = replace_unevaluated_properties s
function_of (RestrictFormats t) s = restrict_formats t s
function_of (Own t) s = s

-- one after another
abbrev pub made_by : {O : Type 0} → List (GenTransform O) → Data → Data
made_by [] s = s
made_by (t ∷ ts) s = made_by ts (function_of t s)

-- a value that is not a schema stays
abbrev pub value_made_by : {O : Type 0} → List (GenTransform O) → Data → Data
value_made_by ts null = null
value_made_by ts (boolean b) = made_by ts (boolean b)
value_made_by ts (number n) = number n
value_made_by ts (string t) = string t
value_made_by ts (array ds) = array ds
value_made_by ts (object ms) = made_by ts (object ms)

abbrev pub each_made_by : {O : Type 0} → List (GenTransform O) → Members → Members
each_made_by ts no_members = no_members
each_made_by ts (member k d ms) = member k (value_made_by ts d) (each_made_by ts ms)

-- what they make of a document of which R holds
abbrev pub IsMadeBy : {O : Type 0} → List (GenTransform O) → (Data → Type 0) → Data → Type 0
IsMadeBy ts R document = (d : Data) × R d × (document ≡ made_by ts d)
