-- What a transform of any kind does, and what its copies are.
use Rattle.std.specs.Prelude.{◌≡◌, List, Vec, Bool, true, false, map, string_bytes}
use Rattle.std.specs.Global.{Global}
use Rattle.std.specs.List.{AllZip, list_any}
use Rattle.schemars_walk.specs.Walk.{TransformStep}
use Rattle.schemars_walk.specs.Order.{InOrder}
use Rattle.schemars_transform.specs.Built.{Changes, replace_bool_schemas, remove_ref_siblings, set_single_example, replace_const_value, replace_prefix_items}
use Rattle.schemars_transform.specs.Nullable.{add_nullable}
use Rattle.schemars_transform.specs.Unevaluated.{replace_unevaluated_properties}
use Rattle.schemars_transform.specs.Formats.{restrict_formats}
use Rattle.schemars_transform.specs.declared.built_in.formats.RestrictFormats as formats
use Rattle.schemars_transform.specs.declared.gen_transform.GenTransform.{GenTransform}
use Rattle.schemars_transform.specs.declared.gen_transform.GenTransform.TheVariants.{ReplaceBoolSchemas, RemoveRefSiblings, SetSingleExample, ReplaceConstValue, ReplacePrefixItems, AddNullable, ReplaceUnevaluatedProperties, RestrictFormats, Own}

-- a built-in transform changes the schema by its function and stays as it is; one of one's own does what it states
abbrev pub OfMember : {O : Type 0} → TransformStep O → TransformStep (GenTransform O)
OfMember Q (ReplaceBoolSchemas t) s r u v = Changes (replace_bool_schemas t) (ReplaceBoolSchemas t) s r u v
OfMember Q (RemoveRefSiblings t) s r u v = Changes remove_ref_siblings (RemoveRefSiblings t) s r u v
OfMember Q (SetSingleExample t) s r u v = Changes set_single_example (SetSingleExample t) s r u v
OfMember Q (ReplaceConstValue t) s r u v = Changes replace_const_value (ReplaceConstValue t) s r u v
OfMember Q (ReplacePrefixItems t) s r u v = Changes replace_prefix_items (ReplacePrefixItems t) s r u v
OfMember Q (AddNullable t) s r u v = Changes (add_nullable t) (AddNullable t) s r u v
OfMember Q (ReplaceUnevaluatedProperties t) s r u v = Changes replace_unevaluated_properties (ReplaceUnevaluatedProperties t) s r u v
OfMember Q (RestrictFormats t) s r u v = Changes (restrict_formats t) (RestrictFormats t) s r u v
OfMember {O} Q (Own t) s r u v = (w : O) × Q t s r w v × (u ≡ Own w)

-- transforms in a list, one after another
abbrev pub ApplyInOrder : {O : Type 0} → TransformStep O → TransformStep (Vec (GenTransform O) Global)
ApplyInOrder Q ts s r us v = InOrder (OfMember Q) ts.items s r us.items v

abbrev pub is_own : {O : Type 0} → GenTransform O → Bool
is_own (ReplaceBoolSchemas t) = false
is_own (RemoveRefSiblings t) = false
is_own (SetSingleExample t) = false
is_own (ReplaceConstValue t) = false
is_own (ReplacePrefixItems t) = false
is_own (AddNullable t) = false
is_own (ReplaceUnevaluatedProperties t) = false
is_own (RestrictFormats t) = false
is_own (Own t) = true

abbrev pub some_own : {O : Type 0} → List (GenTransform O) → Bool
some_own ts = list_any is_own ts

-- the same setting, and the same texts as formats
abbrev pub AllowsTheSame : formats.RestrictFormats → formats.RestrictFormats → Type 0
AllowsTheSame t u =
    (u.infer_from_meta_schema ≡ t.infer_from_meta_schema)
    × (map string_bytes u.allowed_formats.keys ≡ map string_bytes t.allowed_formats.keys)

-- the same built-in transform, beside own transforms of another type; one of one's own has no copy
abbrev pub IsCopy : {O P : Type 0} → GenTransform O → GenTransform P → Type 0
IsCopy (ReplaceBoolSchemas t) c = c ≡ ReplaceBoolSchemas t
IsCopy (RemoveRefSiblings t) c = c ≡ RemoveRefSiblings t
IsCopy (SetSingleExample t) c = c ≡ SetSingleExample t
IsCopy (ReplaceConstValue t) c = c ≡ ReplaceConstValue t
IsCopy (ReplacePrefixItems t) c = c ≡ ReplacePrefixItems t
IsCopy (AddNullable t) c = c ≡ AddNullable t
IsCopy (ReplaceUnevaluatedProperties t) c = c ≡ ReplaceUnevaluatedProperties t
IsCopy (RestrictFormats t) c = (u : formats.RestrictFormats) × (c ≡ RestrictFormats u) × AllowsTheSame t u
IsCopy (Own t) c = ⊥

-- one for each, in order
abbrev pub AreCopies : {O P : Type 0} → List (GenTransform O) → List (GenTransform P) → Type 0
AreCopies ts cs = AllZip IsCopy ts cs
