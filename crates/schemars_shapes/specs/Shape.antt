-- What an entry of a table says: a row's shape, whether it is written in place, and its notes.
-- This file is trusted: the theorem is stated in its words.
use Rattle.std.specs.Prelude.{ℕ, ◌==◌, if◌then◌else◌, List, [], ◌∷◌, ◌++◌, map, Bool, true, Option, Some, None, string_bytes}
use Rattle.serde_json.specs.Data.{Data, Members, no_members}
use Rattle.serde_json.specs.View.{members_view}
use Rattle.schemars_schema.specs.Json.{Text}
use Rattle.schemars_shapes.specs.declared.shape.IntKind.{IntKind}
use Rattle.schemars_shapes.specs.declared.shape.Required as src-required
use Rattle.schemars_shapes.specs.declared.shape.Field as src-field
use Rattle.schemars_shapes.specs.declared.shape.Flattened as src-flattened
use Rattle.schemars_shapes.specs.declared.shape.Fields as src-fields
use Rattle.schemars_shapes.specs.declared.shape.TypeEntry as src-entry
use Rattle.schemars_shapes.specs.declared.variant.Variant as src-variant
use Rattle.schemars_shapes.specs.declared.variant.Payload as src-payload
use Rattle.schemars_shapes.specs.declared.variant.Payload.TheVariants as payload
use Rattle.schemars_shapes.specs.declared.variant.Internal as src-internal
use Rattle.schemars_shapes.specs.declared.variant.InternalVariant as src-internal_variant
use Rattle.schemars_shapes.specs.declared.variant.InternalPayload as src-internal_payload
use Rattle.schemars_shapes.specs.declared.variant.InternalPayload.TheVariants as inside
use Rattle.schemars_shapes.specs.declared.variant.Adjacent as src-adjacent
use Rattle.schemars_shapes.specs.declared.shape.Shape as src-shape
use Rattle.schemars_shapes.specs.declared.shape.Shape.TheVariants as src

-- whether a member has to be there, in values that are read and in those that are written
pub record Required : Type 0 where
  pub deserialize : Bool
  pub serialize : Bool

pub record Field : Type 0 where
  pub name : Text
  pub ty : ℕ
  pub required : Required
  pub notes : Members

-- a row whose members are in the map itself, and whether they are required
pub record Flattened : Type 0 where
  pub ty : ℕ
  pub required : Required

-- the fields of a struct, in order, the rows flattened into it, and whether it is closed to other keys
pub record Fields : Type 0 where
  pub list : List Field
  pub flatten : List Flattened
  pub closed : Bool

-- what a variant has beside its name
pub data Payload : Type 0 where
  no_payload : Payload
  newtype_payload : ℕ → Payload
  tuple_payload : List ℕ → Payload
  struct_payload : Fields → Payload

pub record Variant : Type 0 where
  pub name : Text
  pub payload : Payload
  pub notes : Members

-- How a variant's name is written: with what the variant has under the name, as the one key of a map; not at all; under a tag among
-- the members of the variant's own map; or under a tag, with what the variant has under a key of its own. A tag comes with whether
-- other keys are excluded: under `by_tag` of units alone.
pub data Tagging : Type 0 where
  by_name : Tagging
  by_nothing : Tagging
  by_tag : Text → Bool → Tagging
  by_tag_and_content : Text → Text → Bool → Tagging

-- Numbers are those of rows. An array has just so many items, and `up_to` has so many at most. A result has the row of `Ok`
-- first, `either` that of `Left`, and a map that of its keys. A literal is given as a schema.
pub data Shape : Type 0 where
  null : Shape
  bool : Shape
  int : IntKind → Shape
  non_zero : IntKind → Shape
  number : Shape
  text : Shape
  char : Shape
  formatted : Text → Shape
  any : Shape
  bytes : Shape
  schema_itself : Shape
  option : ℕ → Shape
  seq : ℕ → Shape
  set : ℕ → Shape
  array : ℕ → ℕ → Shape
  up_to : ℕ → ℕ → Shape
  tuple : List ℕ → Shape
  struct : Fields → Shape
  newtype : ℕ → Shape
  result : ℕ → ℕ → Shape
  bound : ℕ → Shape
  range : ℕ → Shape
  either : ℕ → ℕ → Shape
  map_from : ℕ → ℕ → Shape
  enum : Tagging → List Variant → Shape
  literal : Data → Shape

pub record Entry : Type 0 where
  pub inline : Bool
  pub notes : Members
  pub shape : Shape

abbrev pub required_of : src-required.Required → Required
required_of r = record { deserialize = r.deserialize; serialize = r.serialize }

abbrev pub field_of : src-field.Field → Field
field_of f = record { name = string_bytes f.name; ty = f.ty; required = required_of f.required; notes = members_view f.notes.entries }

abbrev pub flattened_of : src-flattened.Flattened → Flattened
flattened_of p = record { ty = p.ty; required = required_of p.required }

abbrev pub fields_of : src-fields.Fields → Fields
fields_of x = record { list = map field_of x.list.items; flatten = map flattened_of x.flatten.items; closed = x.closed }

abbrev pub payload_of : src-payload.Payload → Payload
payload_of payload.Unit = no_payload
payload_of (payload.Newtype n) = newtype_payload n
payload_of (payload.Tuple parts) = tuple_payload parts.items
payload_of (payload.Struct fields) = struct_payload (fields_of fields)

abbrev pub variant_of : src-variant.Variant → Variant
variant_of x = record { name = string_bytes x.name; payload = payload_of x.payload; notes = members_view x.notes.entries }

abbrev pub internal_payload_of : src-internal_payload.InternalPayload → Payload
internal_payload_of inside.Unit = no_payload
internal_payload_of (inside.Newtype n) = newtype_payload n
internal_payload_of (inside.Struct fields) = struct_payload (fields_of fields)

abbrev pub internal_variant_of : src-internal_variant.InternalVariant → Variant
internal_variant_of x =
    record { name = string_bytes x.name; payload = internal_payload_of x.payload; notes = members_view x.notes.entries }

-- the tag, whether units exclude other keys, and the variants
abbrev pub internal_view : src-internal.Internal → Text × Bool × List Variant
internal_view x = (string_bytes x.tag, x.closed, map internal_variant_of x.variants.items)

-- the keys of name and content, whether other keys are excluded, and the variants
abbrev pub adjacent_view : src-adjacent.Adjacent → Text × Text × Bool × List Variant
adjacent_view x = (string_bytes x.tag, string_bytes x.content, x.closed, map variant_of x.variants.items)

abbrev pub shape_of : src-shape.Shape → Shape
shape_of src.Null = null
shape_of src.Bool = bool
shape_of (src.Int k) = int k
shape_of (src.NonZero k) = non_zero k
shape_of src.Number = number
shape_of src.Text = text
shape_of src.Char = char
shape_of (src.Formatted s) = formatted (string_bytes s)
shape_of src.Any = any
shape_of src.Bytes = bytes
shape_of src.SchemaItself = schema_itself
shape_of (src.Option n) = option n
shape_of (src.Seq n) = seq n
shape_of (src.Set n) = set n
shape_of (src.Array n len) = array n len
shape_of (src.UpTo n cap) = up_to n cap
shape_of (src.Tuple parts) = tuple parts.items
shape_of (src.Struct fields) = struct (fields_of fields)
shape_of (src.Newtype n) = newtype n
shape_of (src.Result ok err) = result ok err
shape_of (src.Bound n) = bound n
shape_of (src.Range n) = range n
shape_of (src.Either left right) = either left right
shape_of (src.Map key value) = map_from key value
shape_of (src.External variants) = enum by_name (map variant_of variants.items)
shape_of (src.Untagged variants) = enum by_nothing (map variant_of variants.items)
shape_of (src.Internal x) = enum (by_tag (internal_view x).0 (internal_view x).1) (internal_view x).2
shape_of (src.Adjacent x) =
    enum (by_tag_and_content (adjacent_view x).0 (adjacent_view x).1 (adjacent_view x).2) (adjacent_view x).3
shape_of (src.Literal schema) = literal schema

abbrev pub entry_of : src-entry.TypeEntry → Entry
entry_of e = record { inline = e.inline; notes = members_view e.notes.entries; shape = shape_of e.shape }

-- an array of no items is the empty tuple
abbrev pub array_of : ℕ → ℕ → Shape
array_of n len = if len == 0 then tuple [] else array n len

abbrev pub without_notes : Bool → Shape → Entry
without_notes inline s = record { inline = inline; notes = no_members; shape = s }

-- a field that has to be there, without notes
abbrev pub needed : Text → ℕ → Field
needed name n = record { name = name; ty = n; required = record { deserialize = true; serialize = true }; notes = no_members }

-- written in place, without notes
abbrev pub in_place : Shape → Entry
in_place s = without_notes true s

-- no row is flattened in
abbrev pub bare_fields : List Field → Bool → Fields
bare_fields list closed = record { list = list; flatten = []; closed = closed }

-- ---- the rows that a shape refers to

-- those that are flattened into a map
abbrev pub flattened_rows : Fields → List ℕ
flattened_rows x = map (λ p. p.ty) x.flatten

abbrev pub fields_numbers : Fields → List ℕ
fields_numbers x = map (λ f. f.ty) x.list ++ flattened_rows x

abbrev pub payload_numbers : Payload → List ℕ
payload_numbers no_payload = []
payload_numbers (newtype_payload n) = n ∷ []
payload_numbers (tuple_payload ns) = ns
payload_numbers (struct_payload x) = fields_numbers x

abbrev pub payload_flattened : Payload → List ℕ
payload_flattened no_payload = []
payload_flattened (newtype_payload n) = []
payload_flattened (tuple_payload ns) = []
payload_flattened (struct_payload x) = flattened_rows x

-- the rows whose values, or whose members, a payload has itself
abbrev pub payload_same : Payload → List ℕ
payload_same no_payload = []
payload_same (newtype_payload n) = n ∷ []
payload_same (tuple_payload ns) = []
payload_same (struct_payload x) = flattened_rows x

-- such rows of each variant, in their order
abbrev pub of_variants : (Payload → List ℕ) → List Variant → List ℕ
of_variants rows [] = []
of_variants rows (x ∷ xs) = rows x.payload ++ of_variants rows xs

abbrev pub variant_numbers : List Variant → List ℕ
variant_numbers = of_variants payload_numbers

-- the rows that a shape refers to, as they are written
abbrev pub numbers_of : Shape → List ℕ
numbers_of (option n) = n ∷ []
numbers_of (seq n) = n ∷ []
numbers_of (set n) = n ∷ []
numbers_of (array n len) = n ∷ []
numbers_of (up_to n cap) = n ∷ []
numbers_of (tuple ns) = ns
numbers_of (struct x) = fields_numbers x
numbers_of (newtype n) = n ∷ []
numbers_of (result ok err) = ok ∷ err ∷ []
numbers_of (bound n) = n ∷ []
numbers_of (range n) = n ∷ []
numbers_of (either left right) = left ∷ right ∷ []
numbers_of (map_from key value) = key ∷ value ∷ []
numbers_of (enum tagging xs) = variant_numbers xs
numbers_of _ = []

-- such rows of a variant, by tagging: where its map has more than itself, a payload's value is not the variant's
abbrev pub payload_same_by : Tagging → Payload → List ℕ
payload_same_by by_name = payload_flattened
payload_same_by by_nothing = payload_same
payload_same_by (by_tag tag closed) = payload_same
payload_same_by (by_tag_and_content tag content closed) = payload_flattened

-- the rows whose values, or whose members, a shape has itself
abbrev pub same_value_numbers : Shape → List ℕ
same_value_numbers (option n) = n ∷ []
same_value_numbers (newtype n) = n ∷ []
same_value_numbers (struct x) = flattened_rows x
same_value_numbers (enum tagging xs) = of_variants (payload_same_by tagging) xs
same_value_numbers _ = []

-- the rows that are flattened into a shape's maps
abbrev pub flattened_numbers : Shape → List ℕ
flattened_numbers (struct x) = flattened_rows x
flattened_numbers (enum tagging xs) = of_variants payload_flattened xs
flattened_numbers _ = []

-- the rows whose members are beside the name of a variant
abbrev pub payload_beside : Tagging → Payload → List ℕ
payload_beside (by_tag tag closed) = payload_same
payload_beside _ = payload_flattened

-- the tag that stands among the members of a variant's own map
abbrev pub tag_beside : Tagging → Option Text
tag_beside (by_tag tag closed) = Some tag
tag_beside _ = None

-- the rows that a shape needs at once, in place or not: the row of a map's keys, and the rows whose members are in its own maps
abbrev pub asked_numbers : Shape → List ℕ
asked_numbers (map_from key value) = key ∷ []
asked_numbers (struct x) = flattened_rows x
asked_numbers (enum tagging xs) = of_variants (payload_beside tagging) xs
asked_numbers _ = []

-- the row in an Option
abbrev pub option_of : Shape → Option ℕ
option_of (option n) = Some n
option_of _ = None

-- the names of a variant's fields
abbrev pub payload_names : Payload → List Text
payload_names (struct_payload x) = map (λ f. f.name) x.list
payload_names _ = []

abbrev pub variant_names : List Variant → List (List Text)
variant_names xs = map (λ x. x.name) xs ∷ map (λ x. payload_names x.payload) xs

-- the keys of name and content, where they stand side by side
abbrev pub tagging_keys : Tagging → List (List Text)
tagging_keys (by_tag_and_content tag content closed) = (tag ∷ content ∷ []) ∷ []
tagging_keys _ = []

-- the lists of names in a shape: those of its fields, or of its keys and variants and then of the fields of each
abbrev pub names_of : Shape → List (List Text)
names_of (struct x) = map (λ f. f.name) x.list ∷ []
names_of (enum tagging xs) = tagging_keys tagging ++ variant_names xs
names_of _ = []
