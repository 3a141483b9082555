-- What a value has that built-in transforms change, read as a schema, as a list of schemas, as either, and as schemas by name.
use Rattle.std.specs.Prelude.{◌||◌, ◌&&◌, ◌==◌, List, Bool, true, false, not, is_some, if◌then◌else◌, codes, bytes_eq}
use Rattle.std.specs.List.{list_all}
use Rattle.serde_json.specs.Data.{Data, null, boolean, number, string, array, object, Items, no_items, item, Members, no_members, member}
use Rattle.serde_json.specs.Events.{members_len}
use Rattle.serde_json.specs.Find.{as_bool}
use Rattle.schemars_schema.specs.Json.{Text}
use Rattle.schemars_schema.specs.References.{Place, NoSchemas, OneSchema, SchemaList, SchemaOrList, SchemasByName, place_under}
use Rattle.schemars_transform.specs.Nullable.{has_null}
use Rattle.schemars_transform.specs.declared.gen_transform.GenTransform.{GenTransform}
use Rattle.schemars_transform.specs.declared.gen_transform.GenTransform.TheVariants.{ReplaceBoolSchemas, RemoveRefSiblings, SetSingleExample, ReplaceConstValue, ReplacePrefixItems, AddNullable, ReplaceUnevaluatedProperties, RestrictFormats, Own}
use Rattle.schemars_transform.specs.declared.needs.Needs.{Needs}
use Rattle.schemars_transform.specs.declared.needs.Keyword.{Keyword}
use Rattle.schemars_transform.specs.declared.needs.Keyword.TheVariants.{Other, Additional, Reference, Examples, Const, PrefixItems, Types, Unevaluated}

abbrev pub no_needs : Needs
no_needs = record {
  truth_value = false;
  additional = false;
  reference = false;
  examples = false;
  constant = false;
  prefix_items = false;
  null_type = false;
  unevaluated = false;
}

abbrev pub keyword_named : Text → Keyword
keyword_named k =
    if bytes_eq k (codes "type") then Types
    else if bytes_eq k (codes "$ref") then Reference
    else if bytes_eq k (codes "const") then Const
    else if bytes_eq k (codes "examples") then Examples
    else if bytes_eq k (codes "prefixItems") then PrefixItems
    else if bytes_eq k (codes "additionalProperties") then Additional
    else if bytes_eq k (codes "unevaluatedProperties") then Unevaluated
    else Other

-- whether the value of a keyword, alone in its object or not, is changed with it
abbrev pub is_changed : Keyword → Bool → Data → Bool
is_changed Other alone d = false
is_changed Additional alone d = is_some (as_bool d)
is_changed Reference alone d = not alone
is_changed Examples alone d = true
is_changed Const alone d = true
is_changed PrefixItems alone d = true
is_changed Types alone d = has_null d
is_changed Unevaluated alone d = true

-- with what a keyword needs, if its value is changed
abbrev pub with_keyword : Keyword → Bool → Needs → Needs
with_keyword Other b n = n
with_keyword Additional b n = record n { additional = n.additional || b }
with_keyword Reference b n = record n { reference = n.reference || b }
with_keyword Examples b n = record n { examples = n.examples || b }
with_keyword Const b n = record n { constant = n.constant || b }
with_keyword PrefixItems b n = record n { prefix_items = n.prefix_items || b }
with_keyword Types b n = record n { null_type = n.null_type || b }
with_keyword Unevaluated b n = record n { unevaluated = n.unevaluated || b }

-- where the schemas are that may need something; a truth value under `additionalProperties` is its keyword's
abbrev pub place_asked : Text → Data → Place
place_asked k d = if bytes_eq k (codes "additionalProperties") && is_some (as_bool d) then NoSchemas else place_under k

-- what is needed by a value, read in each way, and by what was before it
pub record Needed : Type 0 where
  pub as_schema : Needs
  pub as_list : Needs
  pub as_either : Needs
  pub by_name : Needs

abbrev pub needed_at : Place → Needs → Needed → Needs
needed_at NoSchemas n a = n
needed_at OneSchema n a = a.as_schema
needed_at SchemaList n a = a.as_list
needed_at SchemaOrList n a = a.as_either
needed_at SchemasByName n a = a.by_name

abbrev pub nothing_needed : Needs → Needed
nothing_needed n = record { as_schema = n; as_list = n; as_either = n; by_name = n }

unfoldable mutual
  pub needed : Data → Needs → Needed
  needed null n = nothing_needed n
  needed (boolean b) n = record {
    as_schema = record n { truth_value = true };
    as_list = n;
    as_either = record n { truth_value = true };
    by_name = n;
  }
  needed (number x) n = nothing_needed n
  needed (string s) n = nothing_needed n
  needed (array ds) n = record { as_schema = n; as_list = needed_by_items ds n; as_either = needed_by_items ds n; by_name = n }
  needed (object ms) n = record {
    as_schema = needed_by_keywords (members_len ms == 1) ms n;
    as_list = n;
    as_either = needed_by_keywords (members_len ms == 1) ms n;
    by_name = needed_by_names ms n;
  }

  pub needed_by_items : Items → Needs → Needs
  needed_by_items no_items n = n
  needed_by_items (item d ds) n = needed_by_items ds (needed d n).as_schema

  pub needed_by_names : Members → Needs → Needs
  needed_by_names no_members n = n
  needed_by_names (member k d ms) n = needed_by_names ms (needed d n).as_schema

  pub needed_by_keywords : Bool → Members → Needs → Needs
  needed_by_keywords alone no_members n = n
  needed_by_keywords alone (member k d ms) n =
      needed_by_keywords alone ms (needed_at (place_asked k d)
      (with_keyword (keyword_named k) (is_changed (keyword_named k) alone d) n)
      (needed d (with_keyword (keyword_named k) (is_changed (keyword_named k) alone d) n)))

abbrev pub needs_of : Data → Needs
needs_of s = (needed s no_needs).as_schema

-- whether a transform leaves every schema inside one with these needs as it is
abbrev pub is_idle : {O : Type 0} → GenTransform O → Needs → Bool
is_idle (ReplaceBoolSchemas t) n = not n.truth_value && (t.skip_additional_properties || not n.additional)
is_idle (RemoveRefSiblings t) n = not n.reference
is_idle (SetSingleExample t) n = not n.examples
is_idle (ReplaceConstValue t) n = not n.constant
is_idle (ReplacePrefixItems t) n = not n.prefix_items
is_idle (AddNullable t) n = not n.null_type
is_idle (ReplaceUnevaluatedProperties t) n = not n.unevaluated
is_idle (RestrictFormats t) n = false
is_idle (Own t) n = false

abbrev pub are_idle : {O : Type 0} → List (GenTransform O) → Needs → Bool
are_idle ts n = list_all (λ t. is_idle t n) ts
