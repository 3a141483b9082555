-- The laws of transforms over whole documents, whose definitions stand at one key or under components.
use Rattle.std.proofs.Common.{◌≡◌, ◌≢◌, codes, refl, sym, ap, ◌∙◌}
use Rattle.schemars_laws.proofs.Words.{object, Members, Text, Place, NoSchemas, OneSchema, SchemaList, SchemaOrList, SchemasByName, place_under, Dialect, differ, Rules, in_keywords, rewritten, replace_bool_schemas, remove_ref_siblings, set_single_example, replace_const_value, replace_prefix_items, bool_rules, without_siblings, with_single_example, const_as_enum, prefix_as_items, add_nullable, format_rules, restrict_formats, unevaluated_as_additional, replace_unevaluated_properties, IsConstAlone, HasPlainItems, HasPlainReference, HasPlainType, HasNoUnevaluated, plain_nullable, without_const, with_const, by_items, by_prefix_items, alone_by, beside_by, with_nullable_read, without_nullable_read, with_unevaluated, without_unevaluated, Anything, MovesAcceptance, MovesDocuments, forms}
use Rattle.schemars_transform.specs.declared.built_in.bool_schemas.ReplaceBoolSchemas.{ReplaceBoolSchemas}
use Rattle.schemars_transform.specs.declared.built_in.formats.RestrictFormats.{RestrictFormats}
use Rattle.schemars_laws.proofs.Moved.{Moves}
use Rattle.schemars_laws.proofs.AtKey.{at-key}
use Rattle.schemars_laws.proofs.Paths.{moves-components}
use Rattle.schemars_laws.proofs.Looked.{change_rules, moves}
use Rattle.schemars_laws.proofs.Examples.{single_example}
use Rattle.schemars_laws.proofs.ConstValue.{const_value}
use Rattle.schemars_laws.proofs.PrefixItems.{prefix_items}
use Rattle.schemars_laws.proofs.Siblings.{ref_siblings}
use Rattle.schemars_laws.proofs.Formats.{formats}
use Rattle.schemars_laws.proofs.Unevaluated.{unevaluated_properties}
use Rattle.schemars_laws.proofs.BoolSchemas.{bool_schemas}
use Rattle.schemars_laws.proofs.Nullable.{nullable_change, nullable}

-- a keyword for schemas by name is no other keyword
pub other : (key k : Text) (p : Place) → place_under key ≡ SchemasByName → place_under k ≡ p → (p ≡ SchemasByName → ⊥) → key ≢ k
other key k p at is apart same = apart (sym is ∙ (ap place_under (sym same) ∙ at))

pub none : NoSchemas ≡ SchemasByName → ⊥
none e = cc

-- ---- what each transform moves, and that it leaves what stands at the key

module _ (key : Text) (at : place_under key ≡ SchemasByName) where
  pub example-moves : (d : Dialect) (Q : Members → Type 0) → Moves (change_rules with_single_example) key d d Q
  example-moves d Q =
      moves with_single_example key d d Q
      (single_example key d Q (other key (codes "example") NoSchemas at refl none) (other key (codes "examples") NoSchemas at refl none))

  pub const-moves : (d : Dialect) → Moves (change_rules const_as_enum) key (with_const d) (without_const d) IsConstAlone
  const-moves d =
      moves const_as_enum key (with_const d) (without_const d) IsConstAlone
      (const_value key d (other key (codes "const") NoSchemas at refl none) (other key (codes "enum") NoSchemas at refl none))

  pub prefix-moves : (d : Dialect) → Moves (change_rules prefix_as_items) key (by_prefix_items d) (by_items d) HasPlainItems
  prefix-moves d =
      moves prefix_as_items key (by_prefix_items d) (by_items d) HasPlainItems
      (prefix_items key d (other key (codes "prefixItems") SchemaList at refl (λ e. cc))
      (other key (codes "items") SchemaOrList at refl (λ e. cc))
      (other key (codes "additionalItems") OneSchema at refl (λ e. cc)))

  pub siblings-moves : (d : Dialect) → Moves (change_rules without_siblings) key (beside_by d) (alone_by d) HasPlainReference
  siblings-moves d =
      moves without_siblings key (beside_by d) (alone_by d) HasPlainReference
      (ref_siblings key d (other key (codes "$ref") NoSchemas at refl none) (other key (codes "allOf") SchemaList at refl (λ e. cc)))

  pub nullable-moves : (d : Dialect)
      → Moves (change_rules nullable_change) key (without_nullable_read d) (with_nullable_read d) HasPlainType
  nullable-moves d =
      moves nullable_change key (without_nullable_read d) (with_nullable_read d) HasPlainType
      (nullable key d (other key (codes "type") NoSchemas at refl none) (other key (codes "const") NoSchemas at refl none)
      (other key (codes "nullable") NoSchemas at refl none))

  pub formats-moves : (t : RestrictFormats) (d : Dialect) (Q : Members → Type 0) → Moves (format_rules t.allowed_formats) key d d Q
  formats-moves t d Q = formats t.allowed_formats key d Q (other key (codes "format") NoSchemas at refl none)

  pub unevaluated-moves : (d : Dialect) → key ≢ codes "properties"
      → Moves (change_rules unevaluated_as_additional) key (with_unevaluated d) (without_unevaluated d) HasNoUnevaluated
  unevaluated-moves d apart =
      moves unevaluated_as_additional key (with_unevaluated d) (without_unevaluated d) HasNoUnevaluated
      (unevaluated_properties key d (other key (codes "unevaluatedProperties") NoSchemas at refl none)
      (other key (codes "additionalProperties") OneSchema at refl (λ e. cc)) apart)

  -- ---- with the definitions at the key

  -- in place of positions by `prefixItems` those by `items`
  pub replace_prefix_items-at : (d : Dialect) → MovesAcceptance replace_prefix_items (by_prefix_items d) (by_items d) key HasPlainItems
  replace_prefix_items-at d =
      at-key (change_rules prefix_as_items) tt (by_prefix_items d) (by_items d) key HasPlainItems at (prefix-moves d)

  -- references alone, where their siblings are passed over
  pub remove_ref_siblings-at : (d : Dialect) → MovesAcceptance remove_ref_siblings (beside_by d) (alone_by d) key HasPlainReference
  remove_ref_siblings-at d =
      at-key (change_rules without_siblings) tt (beside_by d) (alone_by d) key HasPlainReference at (siblings-moves d)

  -- without `unevaluatedProperties` there is nothing to replace
  pub replace_unevaluated_properties-at : (d : Dialect) → key ≢ codes "properties"
      → MovesAcceptance replace_unevaluated_properties (with_unevaluated d) (without_unevaluated d) key HasNoUnevaluated
  replace_unevaluated_properties-at d apart =
      at-key (change_rules unevaluated_as_additional) tt (with_unevaluated d) (without_unevaluated d) key HasNoUnevaluated at
      (unevaluated-moves d apart)

-- ---- wherever definitions stand

-- the rewrite itself is the same there
documents : {R : Type 0} (ρ : Rules R) (r : R) (old new : Dialect) (Q : Members → Type 0)
    → ((key : Text) → place_under key ≡ SchemasByName → key ≢ codes "properties" → Moves ρ key old new Q)
    → MovesDocuments (rewritten ρ r) old new Q
unfolding forms
documents ρ r old new Q h = (
  (at-key ρ r old new (codes "$defs") Q refl defs, at-key ρ r old new (codes "definitions") Q refl definitions),
  moves-components ρ r old new Q defs.rewrites whole,
)
  where
    defs : Moves ρ (codes "$defs") old new Q
    defs = h (codes "$defs") refl (differ (codes "$defs") (codes "properties") refl)

    definitions : Moves ρ (codes "definitions") old new Q
    definitions = h (codes "definitions") refl (differ (codes "definitions") (codes "properties") refl)

    whole : (ms : Members) → (ns : Members) × (rewritten ρ r (object ms) ≡ object ns)
    whole ms =
        let at = defs.definitions (ρ.inside r (object ms)) (in_keywords ρ (ρ.inside r (object ms)) ms) in
        (at.0, at.1)

pub replace_bool_schemas-law : (t : ReplaceBoolSchemas) (d : Dialect) → MovesDocuments (replace_bool_schemas t) d d Anything
replace_bool_schemas-law t d = documents bool_rules t d d Anything (λ key at apart. bool_schemas key d Anything)

pub set_single_example-law : (d : Dialect) → MovesDocuments set_single_example d d Anything
set_single_example-law d = documents (change_rules with_single_example) tt d d Anything (λ key at apart. example-moves key at d Anything)

pub replace_const_value-law : (d : Dialect) → MovesDocuments replace_const_value (with_const d) (without_const d) IsConstAlone
replace_const_value-law d =
    documents (change_rules const_as_enum) tt (with_const d) (without_const d) IsConstAlone (λ key at apart. const-moves key at d)

pub replace_prefix_items-law : (d : Dialect) → MovesDocuments replace_prefix_items (by_prefix_items d) (by_items d) HasPlainItems
replace_prefix_items-law d =
    documents (change_rules prefix_as_items) tt (by_prefix_items d) (by_items d) HasPlainItems (λ key at apart. prefix-moves key at d)

pub remove_ref_siblings-law : (d : Dialect) → MovesDocuments remove_ref_siblings (beside_by d) (alone_by d) HasPlainReference
remove_ref_siblings-law d =
    documents (change_rules without_siblings) tt (beside_by d) (alone_by d) HasPlainReference (λ key at apart. siblings-moves key at d)

pub add_nullable-law : (d : Dialect)
    → MovesDocuments (add_nullable plain_nullable) (without_nullable_read d) (with_nullable_read d) HasPlainType
add_nullable-law d =
    documents (change_rules nullable_change) tt (without_nullable_read d) (with_nullable_read d) HasPlainType
    (λ key at apart. nullable-moves key at d)

pub restrict_formats-law : (t : RestrictFormats) (d : Dialect) → MovesDocuments (restrict_formats t) d d Anything
restrict_formats-law t d = documents (format_rules t.allowed_formats) _ d d Anything (λ key at apart. formats-moves key at t d Anything)

pub replace_unevaluated_properties-law : (d : Dialect)
    → MovesDocuments replace_unevaluated_properties (with_unevaluated d) (without_unevaluated d) HasNoUnevaluated
replace_unevaluated_properties-law d =
    documents (change_rules unevaluated_as_additional) tt (with_unevaluated d) (without_unevaluated d) HasNoUnevaluated
    (λ key at apart. unevaluated-moves key at d apart)
