-- Definitions that are transformed apart from the document that they are in.
use Rattle.std.specs.Prelude.{◌≡◌, List, [], ◌∷◌, Some, Bool, true, false, codes}
use Rattle.serde_json.specs.Data.{Data, object, Members, no_members}
use Rattle.serde_json.specs.Find.{get}
use Rattle.schemars_schema.specs.Json.{Text}
use Rattle.schemars_schema.specs.SchemaData.{members_in}
use Rattle.schemars_schema.specs.Edits.{replaced}
use Rattle.std.specs.List.{list_all}
use Rattle.schemars_transform.specs.declared.gen_transform.GenTransform.{GenTransform}
use Rattle.schemars_transform.specs.declared.gen_transform.GenTransform.TheVariants.{ReplaceBoolSchemas, RemoveRefSiblings, SetSingleExample, ReplaceConstValue, ReplacePrefixItems, AddNullable, ReplaceUnevaluatedProperties, RestrictFormats, Own}

-- whether a transform does the same at every schema, whatever is around it:
-- formats are restricted by the draft that is named above; of a transform of one's own nothing is known
abbrev pub is_local : {O : Type 0} → GenTransform O → Bool
is_local (ReplaceBoolSchemas t) = true
is_local (RemoveRefSiblings t) = true
is_local (SetSingleExample t) = true
is_local (ReplaceConstValue t) = true
is_local (ReplacePrefixItems t) = true
is_local (AddNullable t) = true
is_local (ReplaceUnevaluatedProperties t) = true
is_local (RestrictFormats t) = false
is_local (Own t) = false

abbrev pub are_local : {O : Type 0} → List (GenTransform O) → Bool
are_local ts = list_all is_local ts

abbrev pub definition_keys : List Text
definition_keys = codes "$defs" ∷ codes "definitions" ∷ []

-- the schemas by name at k have been taken out of d, which leaves an empty object in their place
abbrev pub IsTaken : Text → Data → Members → Data → Type 0
IsTaken k d names s = (get k d ≡ Some (object names)) × (s ≡ object (replaced k (object no_members) (members_in d)))
