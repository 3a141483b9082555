-- Tables of plain parts.
-- This file is trusted: the theorem is stated in its words.
use Rattle.std.specs.Prelude.{◌≡◌, ◌⊎◌, ℕ, List, [], ◌∷◌, ◌++◌, map, Option, Some, None, Bool, true, false, not, is_some, ◌&&◌, bytes_eq}
use Rattle.std.specs.List.{AllByRecursion}
use Rattle.schemars_schema.specs.Json.{Text}
use Rattle.schemars_text.specs.OrderedText.{is_listed}
use Rattle.schemars_schema.specs.Annotations.{AreNotes}
use Rattle.schemars_schema.specs.Literal.{IsPlainLiteral}
use Rattle.schemars_shapes.specs.Shape as shape
use Rattle.schemars_shapes.specs.Shape.{Shape, Field, Flattened, Fields, Entry, Payload, Variant, no_payload, newtype_payload, tuple_payload, struct_payload, payload_names, tag_beside}
use Rattle.schemars_shapes.specs.Units.{is_none}
use Rattle.schemars_shapes.specs.Decimals.{entry_has_float}
use Rattle.schemars_types.specs.Rows.{Row, entry_at}
use Rattle.schemars_types.specs.Edges.{option_at}
use Rattle.schemars_types.specs.Effective.{effective, flattened_in, without_options, flattened_enums, part_enums, expanded_shape_in}
use Rattle.schemars_types.specs.declared.contract.Contract.{Contract}
use Rattle.schemars_types.specs.Meaning.{is_required}

-- no field has this name
abbrev pub IsNoName : Text → List Field → Type 0
IsNoName k = AllByRecursion (λ x. bytes_eq x.name k ≡ false)

-- the names of the fields are all different
abbrev pub AreDistinct : List Field → Type 0
AreDistinct [] = Unit {0}
AreDistinct (x ∷ xs) = IsNoName x.name xs × AreDistinct xs

-- the notes of each field are annotations
abbrev pub AreNoted : List Field → Type 0
AreNoted = AllByRecursion (λ x. AreNotes x.notes)

-- ---- variants

-- no variant has this name
abbrev pub IsNoVariant : Text → List Variant → Type 0
IsNoVariant k = AllByRecursion (λ x. bytes_eq x.name k ≡ false)

-- the names of the variants are all different
abbrev pub AreDistinctVariants : List Variant → Type 0
AreDistinctVariants [] = Unit {0}
AreDistinctVariants (x ∷ xs) = IsNoVariant x.name xs × AreDistinctVariants xs

abbrev pub IsPlainPayload : Payload → Type 0
IsPlainPayload (struct_payload x) = AreDistinct x.list × AreNoted x.list
IsPlainPayload _ = Unit {0}

-- the notes of each variant and of its fields are annotations
abbrev pub ArePlainVariants : List Variant → Type 0
ArePlainVariants [] = Unit {0}
ArePlainVariants (x ∷ xs) = AreNotes x.notes × IsPlainPayload x.payload × ArePlainVariants xs

-- what is tagged inside its map is no tuple, and none of its own fields is named as the tag
abbrev pub IsTagged : Text → Payload → Type 0
IsTagged tag no_payload = Unit {0}
IsTagged tag (newtype_payload n) = Unit {0}
IsTagged tag (tuple_payload ns) = ⊥
IsTagged tag (struct_payload x) = IsNoName tag x.list

abbrev pub AreTagged : Text → List Variant → Type 0
AreTagged tag = AllByRecursion (λ x. IsTagged tag x.payload)

-- below, `Fits tag n` says that the members of row n may stand beside this tag

-- a newtype
abbrev pub HasContent : (Text → ℕ → Type 0) → Text → Payload → Type 0
HasContent Fits tag (newtype_payload n) = Fits tag n
HasContent Fits tag _ = Unit {0}

abbrev pub HaveContents : (Text → ℕ → Type 0) → Text → List Variant → Type 0
HaveContents Fits tag = AllByRecursion (λ x. HasContent Fits tag x.payload)

-- the newtypes of an enum that is tagged inside its maps
abbrev pub ShapeHasContents : (Text → ℕ → Type 0) → Shape → Type 0
ShapeHasContents Fits (shape.enum (shape.by_tag tag closed) xs) = HaveContents Fits tag xs
ShapeHasContents Fits _ = Unit {0}

-- no row may
abbrev pub IsNoContent : Text → ℕ → Type 0
IsNoContent tag n = ⊥

-- ---- flattened rows

-- what is flattened into the maps of variants
abbrev pub payload_parts : Payload → List Flattened
payload_parts (struct_payload x) = x.flatten
payload_parts _ = []

abbrev pub variant_parts : List Variant → List Flattened
variant_parts [] = []
variant_parts (x ∷ xs) = payload_parts x.payload ++ variant_parts xs

-- what is flattened into the maps of a shape
abbrev pub parts_in : Shape → List Flattened
parts_in (shape.struct x) = x.flatten
parts_in (shape.enum tagging xs) = variant_parts xs
parts_in _ = []

abbrev pub IsOpenStruct : Option Entry → Type 0
IsOpenStruct None = ⊥
IsOpenStruct (Some e) = (x : Fields) × (e.shape ≡ shape.struct x) × (x.closed ≡ false)

-- an open struct whose members have to be there, read or written
abbrev pub IsPlainPart : List Row → Flattened → Type 0
IsPlainPart rows p = IsOpenStruct (entry_at rows p.ty) × (p.required.deserialize ≡ true) × (p.required.serialize ≡ true)

abbrev pub ArePlainParts : List Row → List Flattened → Type 0
ArePlainParts rows = AllByRecursion (IsPlainPart rows)

-- ---- shapes

-- of a shape that has the fields of flattened rows among its own
abbrev pub IsPlainShape : Shape → Type 0
IsPlainShape (shape.struct x) = AreDistinct x.list × AreNoted x.list
IsPlainShape (shape.enum shape.by_name xs) = AreDistinctVariants xs × ArePlainVariants xs
IsPlainShape (shape.enum shape.by_nothing xs) = ArePlainVariants xs
IsPlainShape (shape.enum (shape.by_tag tag closed) xs) = AreDistinctVariants xs × ArePlainVariants xs × AreTagged tag xs
IsPlainShape (shape.enum (shape.by_tag_and_content tag content closed) xs) =
    (bytes_eq tag content ≡ false) × AreDistinctVariants xs × ArePlainVariants xs
IsPlainShape (shape.literal d) = IsPlainLiteral d
IsPlainShape _ = Unit {0}

abbrev pub IsPlainEntry : List Row → Option Entry → Type 0
IsPlainEntry rows None = Unit {0}
IsPlainEntry rows (Some e) = AreNotes e.notes × IsPlainShape (expanded_shape_in rows e.shape) × ArePlainParts rows (parts_in e.shape)
    × ShapeHasContents IsNoContent e.shape

-- Literals are plain, the notes of rows, fields and variants are annotations alone, and what is flattened is an open struct.
-- The names of a struct's own and flattened fields are all different, and those of the variants that are told by their
-- names; what is tagged inside its map is a unit or has fields of its own, none of them named as the tag. Where name and content are
-- under two keys, the keys are different.
abbrev pub IsPlainTable : List Row → Type 0
IsPlainTable rows = (n : ℕ) → IsPlainEntry rows (entry_at rows n)

-- ---- Options and enums among what is flattened

-- the names that an enum puts into a map
abbrev pub all_payload_names : List Variant → List Text
all_payload_names [] = []
all_payload_names (x ∷ xs) = payload_names x.payload ++ all_payload_names xs

abbrev pub enum_names : Shape → List Text
enum_names (shape.enum shape.by_name xs) = map (λ x. x.name) xs
enum_names (shape.enum (shape.by_tag tag closed) xs) = tag ∷ all_payload_names xs
enum_names _ = []

abbrev pub enum_names_at : List Row → ℕ → List Text
enum_names_at rows n = elim (entry_at rows n) [ None ↦ [] | Some e ↦ enum_names (expanded_shape_in rows e.shape) ]

-- none of these names is a field's
abbrev pub AreNoNames : List Field → List Text → Type 0
AreNoNames list = AllByRecursion (λ k. IsNoName k list)

-- none of the second is one of the first
abbrev pub AreOthers : List Text → List Text → Type 0
AreOthers ks = AllByRecursion (λ l. is_listed l ks ≡ false)

abbrev pub AreApartFrom : List Text → List (List Text) → Type 0
AreApartFrom ks = AllByRecursion (AreOthers ks)

-- the names of the fields and of each other part are all different
abbrev pub AreApart : List Field → List (List Text) → Type 0
AreApart list [] = Unit {0}
AreApart list (ks ∷ rest) = AreNoNames list ks × AreApartFrom ks rest × AreApart list rest

abbrev pub tag_names : Option Text → List (List Text)
tag_names None = []
tag_names (Some tag) = (tag ∷ []) ∷ []

-- below, `names` says which names an enum has, and `tags` are the names beside the members of a struct

abbrev pub HasNamesApart : (ℕ → List Text) → List (List Text) → Fields → Type 0
HasNamesApart names tags x = AreApart x.list (tags ++ map (λ p. names p.ty) x.flatten)

abbrev pub PayloadHasNamesApart : (ℕ → List Text) → List (List Text) → Payload → Type 0
PayloadHasNamesApart names tags (struct_payload x) = HasNamesApart names tags x
PayloadHasNamesApart names tags _ = Unit {0}

abbrev pub VariantsHaveNamesApart : (ℕ → List Text) → List (List Text) → List Variant → Type 0
VariantsHaveNamesApart names tags = AllByRecursion (λ x. PayloadHasNamesApart names tags x.payload)

-- of a shape into which enums alone are flattened
abbrev pub ShapeHasNamesApart : (ℕ → List Text) → Shape → Type 0
ShapeHasNamesApart names (shape.struct x) = HasNamesApart names [] x
ShapeHasNamesApart names (shape.enum tagging xs) = VariantsHaveNamesApart names (tag_names (tag_beside tagging)) xs
ShapeHasNamesApart names _ = Unit {0}

-- ---- what stands beside a tag

-- no enum anywhere in what is flattened
abbrev pub HasNoEnums : List Row → List Flattened → Type 0
HasNoEnums rows ps = flattened_enums (part_enums rows) ps ≡ []

abbrev pub VariantsHaveNoEnums : List Row → List Variant → Type 0
VariantsHaveNoEnums rows = AllByRecursion (λ x. HasNoEnums rows (payload_parts x.payload))

-- a struct, none of whose fields is named as the tag, without enums among its members
abbrev pub IsContentShape : List Row → Text → Shape → Type 0
IsContentShape rows tag (shape.struct x) = IsNoName tag (effective (flattened_in rows) x) × HasNoEnums rows x.flatten
IsContentShape rows tag _ = ⊥

abbrev pub IsContentEntry : List Row → Text → Option Entry → Type 0
IsContentEntry rows tag None = ⊥
IsContentEntry rows tag (Some e) = IsContentShape rows tag e.shape

abbrev pub IsPlainContent : List Row → Text → ℕ → Type 0
IsPlainContent rows tag n = IsContentEntry rows tag (entry_at rows n)

-- ---- what may be flattened

-- a unit without notes
abbrev pub IsBare : Variant → Type 0
IsBare x = elim x.payload [
  | no_payload ↦ is_none x.notes ≡ true
  | newtype_payload n ↦ Unit {0}
  | tuple_payload ns ↦ Unit {0}
  | struct_payload y ↦ Unit {0}
]

abbrev pub HasBareUnits : List Variant → Type 0
HasBareUnits = AllByRecursion IsBare

abbrev pub HasVariant : List Variant → Type 0
HasVariant [] = ⊥
HasVariant (x ∷ xs) = Unit {0}

-- an open struct, or an enum that has to be there
abbrev pub IsPartShape : List Row → Bool → Shape → Type 0
IsPartShape rows optional (shape.struct x) = (x.closed ≡ false) × (optional ≡ true → HasNoEnums rows x.flatten)
IsPartShape rows optional (shape.enum shape.by_name xs) = (optional ≡ false) × HasVariant xs × HasBareUnits xs
IsPartShape rows optional (shape.enum (shape.by_tag tag closed) xs) =
    (optional ≡ false) × HasVariant xs × HaveContents IsNoContent tag xs × VariantsHaveNoEnums rows xs
IsPartShape rows optional _ = ⊥

abbrev pub IsPartEntry : List Row → Bool → Option Entry → Type 0
IsPartEntry rows optional None = ⊥
IsPartEntry rows optional (Some e) = IsPartShape rows optional e.shape

-- the members of an Option may be missing, unless they have to be there under the contract
abbrev pub may_miss : List Row → Contract → Flattened → Bool
may_miss rows contract p = is_some (option_at rows p.ty) && not (is_required contract p.required)

abbrev pub IsPartUnder : Contract → List Row → Flattened → Type 0
IsPartUnder contract rows p = IsPartEntry rows (may_miss rows contract p) (entry_at rows (without_options rows p.ty))

abbrev pub ArePartsUnder : Contract → List Row → List Flattened → Type 0
ArePartsUnder contract rows = AllByRecursion (IsPartUnder contract rows)

abbrev pub IsEntryUnder : Contract → List Row → Option Entry → Type 0
IsEntryUnder contract rows None = Unit {0}
IsEntryUnder contract rows (Some e) = AreNotes e.notes × IsPlainShape (expanded_shape_in rows e.shape)
    × ShapeHasNamesApart (enum_names_at rows) (expanded_shape_in rows e.shape) × ArePartsUnder contract rows (parts_in e.shape)
    × ShapeHasContents (IsPlainContent rows) e.shape

-- What is flattened is, its Options taken off, an open struct, or an enum that has to be there under the contract and has a variant: one
-- told by its names, without notes on units, or one told by a tag, without newtypes. No enum stands in a struct that may be missing, nor in
-- a variant of a flattened enum that is tagged. The names of different parts are all different. A newtype that is tagged inside its map is
-- of a struct that has no enum among its members, and no field named as the tag. All else is as in a plain table.
abbrev pub IsPlainUnder : Contract → List Row → Type 0
IsPlainUnder contract rows = (n : ℕ) → IsEntryUnder contract rows (entry_at rows n)

-- ---- tables into which no enum is flattened

abbrev pub ShapeFlattensNoEnums : List Row → Shape → Type 0
ShapeFlattensNoEnums rows (shape.struct x) = HasNoEnums rows x.flatten
ShapeFlattensNoEnums rows (shape.enum tagging xs) = VariantsHaveNoEnums rows xs
ShapeFlattensNoEnums rows _ = Unit {0}

abbrev pub EntryFlattensNoEnums : List Row → Option Entry → Type 0
EntryFlattensNoEnums rows None = Unit {0}
EntryFlattensNoEnums rows (Some e) = ShapeFlattensNoEnums rows e.shape

-- no enum is among the members of a map into which rows are flattened
abbrev pub FlattensNoEnums : List Row → Type 0
FlattensNoEnums rows = (n : ℕ) → EntryFlattensNoEnums rows (entry_at rows n)

-- what is promised of the documents for the contract is promised in each dialect
abbrev pub IsPlainForEach : Contract → List Row → Type 0
IsPlainForEach contract rows = IsPlainTable rows ⊎ (FlattensNoEnums rows × IsPlainUnder contract rows)

-- ---- notes and literals

abbrev pub HasPlainLiteral : Shape → Type 0
HasPlainLiteral (shape.literal d) = IsPlainLiteral d
HasPlainLiteral _ = Unit {0}

abbrev pub IsNotedEntry : Option Entry → Type 0
IsNotedEntry None = Unit {0}
IsNotedEntry (Some e) = AreNotes e.notes × HasPlainLiteral e.shape

-- literals are plain, and the notes of rows are annotations alone, whatever those of their fields and variants are
abbrev pub HasPlainNotes : List Row → Type 0
HasPlainNotes rows = (n : ℕ) → IsNotedEntry (entry_at rows n)

abbrev pub IsNotedPayload : Payload → Type 0
IsNotedPayload (struct_payload x) = AreNoted x.list
IsNotedPayload _ = Unit {0}

abbrev pub AreNotedVariants : List Variant → Type 0
AreNotedVariants [] = Unit {0}
AreNotedVariants (x ∷ xs) = AreNotes x.notes × IsNotedPayload x.payload × AreNotedVariants xs

-- the notes inside a shape are annotations, and a literal is plain
abbrev pub IsNotedShape : Shape → Type 0
IsNotedShape (shape.struct x) = AreNoted x.list
IsNotedShape (shape.enum tagging xs) = AreNotedVariants xs
IsNotedShape (shape.literal d) = IsPlainLiteral d
IsNotedShape _ = Unit {0}

abbrev pub IsNotedThroughout : Option Entry → Type 0
IsNotedThroughout None = Unit {0}
IsNotedThroughout (Some e) = AreNotes e.notes × IsNotedShape e.shape

-- literals are plain, and all notes are annotations alone, whatever is flattened or is beside a tag
abbrev pub HasPlainNotesThroughout : List Row → Type 0
HasPlainNotesThroughout rows = (n : ℕ) → IsNotedThroughout (entry_at rows n)

-- ---- numbers in notes and literals

abbrev pub EntryHasNoFloat : Option Entry → Type 0
EntryHasNoFloat None = Unit {0}
EntryHasNoFloat (Some e) = entry_has_float e ≡ false

-- the numbers in notes and literals are whole numbers
abbrev pub HasNoFloat : List Row → Type 0
HasNoFloat rows = (n : ℕ) → EntryHasNoFloat (entry_at rows n)
