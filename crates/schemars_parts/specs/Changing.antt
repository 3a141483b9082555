-- What a built-in transform makes of a value, read in each way.
use Rattle.std.specs.Prelude.{◌≡◌, ◌&&◌, ⊤, false, is_some, if◌then◌else◌, codes, bytes_eq}
use Rattle.serde_json.specs.Data.{Data, null, boolean, number, string, array, object, Items, no_items, item}
use Rattle.serde_json.specs.Find.{as_bool}
use Rattle.schemars_schema.specs.Json.{Text}
use Rattle.schemars_schema.specs.SchemaData.{members_in}
use Rattle.schemars_schema.specs.References.{Place, NoSchemas, place_under}
use Rattle.schemars_walk.specs.Rewritten.{Rules, Forms, forms}
use Rattle.schemars_transform.specs.Built.{without_siblings, with_single_example, const_as_enum, prefix_as_items}
use Rattle.schemars_transform.specs.Nullable.{with_nullable}
use Rattle.schemars_transform.specs.Unevaluated.{unevaluated_as_additional}
use Rattle.schemars_transform.specs.declared.gen_transform.GenTransform.{GenTransform}
use Rattle.schemars_transform.specs.declared.gen_transform.GenTransform.TheVariants.{ReplaceBoolSchemas, RemoveRefSiblings, SetSingleExample, ReplaceConstValue, ReplacePrefixItems, AddNullable, ReplaceUnevaluatedProperties, RestrictFormats, Own}

-- where the schemas are that it changes
abbrev pub changed_place : {O : Type 0} → GenTransform O → Text → Data → Place
changed_place (ReplaceBoolSchemas t) k d = if t.skip_additional_properties && (bytes_eq k (codes "additionalProperties") && is_some (as_bool d)) then
    NoSchemas else place_under k
changed_place (RemoveRefSiblings t) k d = place_under k
changed_place (SetSingleExample t) k d = place_under k
changed_place (ReplaceConstValue t) k d = place_under k
changed_place (ReplacePrefixItems t) k d = place_under k
changed_place (AddNullable t) k d = place_under k
changed_place (ReplaceUnevaluatedProperties t) k d = place_under k
changed_place (RestrictFormats t) k d = place_under k
changed_place (Own t) k d = place_under k

-- what it makes of one schema whose subschemas are done; formats are restricted by what is around a schema
abbrev pub changed_one : {O : Type 0} → GenTransform O → Data → Data
changed_one (ReplaceBoolSchemas t) s = object (members_in s)
changed_one (RemoveRefSiblings t) s = without_siblings s
changed_one (SetSingleExample t) s = with_single_example s
changed_one (ReplaceConstValue t) s = const_as_enum s
changed_one (ReplacePrefixItems t) s = prefix_as_items s
changed_one (AddNullable t) s = with_nullable t s
changed_one (ReplaceUnevaluatedProperties t) s = unevaluated_as_additional s
changed_one (RestrictFormats t) s = s
changed_one (Own t) s = s

abbrev pub rules_of : {O : Type 0} → Rules (GenTransform O)
rules_of = record { inside = λ t s. t; place = λ t k d. changed_place t k d; finish = λ t s. changed_one t s }

-- the value, changed as a schema, as a list of schemas, as either, and as schemas by name
abbrev pub forms_by : {O : Type 0} → GenTransform O → Data → Forms
forms_by t d = forms rules_of t d

-- these names of types are this one, and then null
abbrev pub IsBesideNull : Text → Items → Type 0
IsBesideNull name ds = (ds ≡ item (string name) (item (string (codes "null")) no_items)) × (bytes_eq name (codes "null") ≡ false)

-- null, a number or a text
abbrev pub IsScalar : Data → Type 0
IsScalar null = ⊤
IsScalar (boolean b) = ⊥
IsScalar (number n) = ⊤
IsScalar (string s) = ⊤
IsScalar (array ds) = ⊥
IsScalar (object ms) = ⊥
