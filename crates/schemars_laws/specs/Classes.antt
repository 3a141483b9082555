-- Which schema objects the laws speak of, and the dialects that they lead from and to.
use Rattle.std.specs.Prelude.{◌≡◌, ◌⊎◌, ◌&&◌, List, [], ◌∷◌, Option, Some, None, Bool, true, false, bytes_eq, codes, ◌==◌}
use Rattle.serde_json.specs.Data.{Data, null, boolean, number, string, array, object, Items, no_items, item, Members}
use Rattle.serde_json.specs.Events.{members_len}
use Rattle.serde_json.specs.Find.{get_member}
use Rattle.schemars_schema.specs.Json.{Text}
use Rattle.schemars_schema.specs.SchemaData.{IsSchema}
use Rattle.schemars_schema.specs.Edits.{without, holds_text}
use Rattle.schemars_schema.specs.Dialects.{Dialect}
use Rattle.schemars_transform.specs.Nullable.{all_null}
use Rattle.schemars_transform.specs.declared.built_in.nullable.AddNullable.{AddNullable}

-- ---- the value of a keyword

-- the first of the members at k is the only one
abbrev pub IsOnce : Text → Members → Type 0
IsOnce k ms = get_member k (without k ms) ≡ None

abbrev pub IsText : Option Data → Type 0
IsText None = Unit {0}
IsText (Some null) = ⊥
IsText (Some (boolean b)) = ⊥
IsText (Some (number n)) = ⊥
IsText (Some (string s)) = Unit {0}
IsText (Some (array ds)) = ⊥
IsText (Some (object ms)) = ⊥

abbrev pub AreTexts : Items → Type 0
AreTexts no_items = Unit {0}
AreTexts (item d ds) = IsText (Some d) × AreTexts ds

-- a list of types is one of texts
abbrev pub IsTypes : Option Data → Type 0
IsTypes None = Unit {0}
IsTypes (Some null) = Unit {0}
IsTypes (Some (boolean b)) = Unit {0}
IsTypes (Some (number n)) = Unit {0}
IsTypes (Some (string s)) = Unit {0}
IsTypes (Some (array ds)) = AreTexts ds
IsTypes (Some (object ms)) = Unit {0}

-- the only type is null
abbrev pub is_null_alone : Option Data → Bool
is_null_alone None = false
is_null_alone (Some null) = false
is_null_alone (Some (boolean b)) = false
is_null_alone (Some (number n)) = false
is_null_alone (Some (string s)) = bytes_eq s (codes "null")
is_null_alone (Some (array ds)) = holds_text (codes "null") ds && all_null ds
is_null_alone (Some (object ms)) = false

abbrev pub IsNoList : Option Data → Type 0
IsNoList None = Unit {0}
IsNoList (Some null) = Unit {0}
IsNoList (Some (boolean b)) = Unit {0}
IsNoList (Some (number n)) = Unit {0}
IsNoList (Some (string s)) = Unit {0}
IsNoList (Some (array ds)) = ⊥
IsNoList (Some (object ms)) = Unit {0}

abbrev pub AreSchemas : Items → Type 0
AreSchemas no_items = Unit {0}
AreSchemas (item d ds) = IsSchema d × AreSchemas ds

abbrev pub IsSchemaList : Option Data → Type 0
IsSchemaList None = Unit {0}
IsSchemaList (Some null) = ⊥
IsSchemaList (Some (boolean b)) = ⊥
IsSchemaList (Some (number n)) = ⊥
IsSchemaList (Some (string s)) = ⊥
IsSchemaList (Some (array ds)) = AreSchemas ds
IsSchemaList (Some (object ms)) = ⊥

-- ---- schema objects

-- none of these keywords is there
abbrev pub HasNone : List Text → Members → Type 0
HasNone [] ms = Unit {0}
HasNone (k ∷ ks) ms = (get_member k ms ≡ None) × HasNone ks ms

-- the keywords beside `const` that came with Drafts 6 and 7 (`then` and `else` say nothing without `if`), and `dependencies`, which
-- is read where they are
abbrev pub of_draft06 : List Text
of_draft06 = codes "exclusiveMinimum" ∷ codes "exclusiveMaximum" ∷ codes "contains" ∷ codes "propertyNames" ∷ codes "if"
    ∷ codes "dependencies" ∷ []

-- the keywords beside `unevaluatedProperties` that came with Draft 2019-09, and `dependencies`, which went with them
abbrev pub of_draft2019_09 : List Text
of_draft2019_09 = codes "minContains" ∷ codes "maxContains" ∷ codes "dependentRequired" ∷ codes "dependentSchemas"
    ∷ codes "unevaluatedItems" ∷ codes "dependencies" ∷ []

-- `const` occurs once, and not beside `enum`, nor is there another keyword that came with it
abbrev pub IsConstAlone : Members → Type 0
IsConstAlone ms =
    IsOnce (codes "const") ms × ((get_member (codes "const") ms ≡ None) ⊎ (get_member (codes "enum") ms ≡ None)) × HasNone of_draft06 ms

-- `prefixItems` occurs once and is a list of schemas, `items` is not a list, and there are no `additionalItems`, nor is there
-- `contains`, which judges the items that it accepts where `prefixItems` are read
abbrev pub HasPlainItems : Members → Type 0
HasPlainItems ms =
    IsOnce (codes "prefixItems") ms × IsSchemaList (get_member (codes "prefixItems") ms) × IsNoList (get_member (codes "items") ms)
    × (get_member (codes "additionalItems") ms ≡ None) × (get_member (codes "contains") ms ≡ None)

-- `$ref` occurs once and is a text, and `allOf` is a list of schemas
abbrev pub HasPlainReference : Members → Type 0
HasPlainReference ms =
    IsOnce (codes "$ref") ms × IsText (get_member (codes "$ref") ms) × IsSchemaList (get_member (codes "allOf") ms)

-- a list of types is one of texts, there is no `nullable`, and no `const` beside null alone
abbrev pub HasPlainType : Members → Type 0
HasPlainType ms =
    IsTypes (get_member (codes "type") ms) × (get_member (codes "nullable") ms ≡ None)
    × ((is_null_alone (get_member (codes "type") ms) ≡ false) ⊎ (get_member (codes "const") ms ≡ None))

-- no other keyword is beside `$ref`
abbrev pub IsReferenceAlone : Members → Type 0
IsReferenceAlone ms = (get_member (codes "$ref") ms ≡ None) ⊎ ((members_len ms == 1) ≡ true)

-- there are no `unevaluatedProperties`, nor another keyword that came or went with them
abbrev pub HasNoUnevaluated : Members → Type 0
HasNoUnevaluated ms =
    IsOnce (codes "unevaluatedProperties") ms × (get_member (codes "unevaluatedProperties") ms ≡ None) × HasNone of_draft2019_09 ms

-- of documents for Draft 7
abbrev pub IsDraft07 : Members → Type 0
IsDraft07 ms = HasNoUnevaluated ms × HasPlainReference ms × HasPlainItems ms

-- the defaults of `AddNullable`
abbrev pub plain_nullable : AddNullable
plain_nullable = record { remove_null_type = true; add_const_null = true }

-- ---- dialects that differ in one respect

abbrev pub without_const : Dialect → Dialect
without_const d = record d { reads_const = false }

abbrev pub with_const : Dialect → Dialect
with_const d = record d { reads_const = true }

abbrev pub by_items : Dialect → Dialect
by_items d = record d { reads_prefix_items = false }

abbrev pub by_prefix_items : Dialect → Dialect
by_prefix_items d = record d { reads_prefix_items = true }

abbrev pub alone_by : Dialect → Dialect
alone_by d = record d { judges_siblings = false }

abbrev pub beside_by : Dialect → Dialect
beside_by d = record d { judges_siblings = true }

-- `const` is known to both
abbrev pub with_nullable_read : Dialect → Dialect
with_nullable_read d = record d { reads_nullable = true; reads_const = true }

abbrev pub without_nullable_read : Dialect → Dialect
without_nullable_read d = record d { reads_nullable = false; reads_const = true }

abbrev pub without_unevaluated : Dialect → Dialect
without_unevaluated d = record d { reads_unevaluated = false }

abbrev pub with_unevaluated : Dialect → Dialect
with_unevaluated d = record d { reads_unevaluated = true }
