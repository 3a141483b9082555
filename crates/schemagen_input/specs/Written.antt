-- The JSON of a table, with every member written out, and the tables that can be written so. Objects have their keys in order
-- (`object_of`).
use Rattle.std.specs.Prelude.{◌≡◌, ℕ, List, [], ◌∷◌, Bool, true, map, codes, Option, Some, None, is_some}
use Rattle.std.specs.List.{list_all}
use Rattle.std.specs.Option.{option_map_or}
use Rattle.serde_json.specs.Data.{Data, boolean, number, unsigned, string, array, object, no_members, member}
use Rattle.serde_json.specs.View.{items_of}
use Rattle.schemars_schema.specs.Json.{Text}
use Rattle.schemars_schema.specs.SchemaData.{object_of, is_schema}
use Rattle.schemars_shapes.specs.declared.shape.IntKind.{IntKind}
use Rattle.schemars_shapes.specs.declared.shape.IntKind.TheVariants.{I8, I16, I32, I64, I128, Isize, U8, U16, U32, U64, U128, Usize}
use Rattle.schemars_shapes.specs.Shape.{Required, Field, Flattened, Fields, Payload, Variant, Shape, Entry, no_payload, newtype_payload, tuple_payload, struct_payload, null, bool, int, non_zero, number as number_shape, text, char, formatted, any, bytes, schema_itself, option, seq, set, array as array_shape, up_to, tuple, struct, newtype, result, bound, range, either, map_from, enum, by_name, by_nothing, by_tag, by_tag_and_content, literal}
use Rattle.schemars_types.specs.Rows.{Row}
use Rattle.schemagen_shapes.specs.Forms.{payload_inside}
use Rattle.schemagen_input.specs.Input.{is_complete}

-- ---- forms

abbrev pub whole : ℕ → Data
whole n = number (unsigned n)

-- the list of the JSON of each
abbrev pub list_of : {T : Type 0} → (T → Data) → List T → Data
list_of json xs = array (items_of (map json xs))

-- an object with this one member
abbrev pub with_one_member : Text → Data → Data
with_one_member key d = object (member key d no_members)

-- an object with two numbers
abbrev pub two_of : Text → ℕ → Text → ℕ → Data
two_of first m second n = object_of ((first, whole m) ∷ (second, whole n) ∷ [])

-- ---- fields

abbrev pub required_json : Required → Data
required_json r = object_of ((codes "deserialize", boolean r.deserialize) ∷ (codes "serialize", boolean r.serialize) ∷ [])

abbrev pub field_json : Field → Data
field_json f =
    object_of ((codes "name", string f.name) ∷ (codes "type", whole f.ty) ∷ (codes "required", required_json f.required)
    ∷ (codes "notes", object f.notes) ∷ [])

abbrev pub flattened_json : Flattened → Data
flattened_json p = object_of ((codes "type", whole p.ty) ∷ (codes "required", required_json p.required) ∷ [])

abbrev pub fields_json : Fields → Data
fields_json x =
    object_of ((codes "fields", list_of field_json x.list) ∷ (codes "flatten", list_of flattened_json x.flatten)
    ∷ (codes "closed", boolean x.closed) ∷ [])

-- ---- variants

abbrev pub payload_json : Payload → Data
payload_json no_payload = string (codes "unit")
payload_json (newtype_payload n) = with_one_member (codes "newtype") (whole n)
payload_json (tuple_payload ns) = with_one_member (codes "tuple") (list_of whole ns)
payload_json (struct_payload x) = with_one_member (codes "struct") (fields_json x)

abbrev pub variant_json : Variant → Data
variant_json x =
    object_of ((codes "name", string x.name) ∷ (codes "notes", object x.notes) ∷ (codes "payload", payload_json x.payload) ∷ [])

abbrev pub variants_json : List Variant → Data
variants_json xs = with_one_member (codes "variants") (list_of variant_json xs)

-- the members of an enum behind the names of its tags
abbrev pub tagged_members : Bool → List Variant → List (Text × Data)
tagged_members closed xs = (codes "closed", boolean closed) ∷ (codes "variants", list_of variant_json xs) ∷ []

abbrev pub internal_json : Text → Bool → List Variant → Data
internal_json tag closed xs = object_of ((codes "tag", string tag) ∷ tagged_members closed xs)

abbrev pub adjacent_json : Text → Text → Bool → List Variant → Data
adjacent_json tag content closed xs = object_of ((codes "tag", string tag) ∷ (codes "content", string content) ∷ tagged_members closed xs)

-- ---- shapes

abbrev pub kind_json : IntKind → Data
kind_json I8 = string (codes "i8")
kind_json I16 = string (codes "i16")
kind_json I32 = string (codes "i32")
kind_json I64 = string (codes "i64")
kind_json I128 = string (codes "i128")
kind_json Isize = string (codes "isize")
kind_json U8 = string (codes "u8")
kind_json U16 = string (codes "u16")
kind_json U32 = string (codes "u32")
kind_json U64 = string (codes "u64")
kind_json U128 = string (codes "u128")
kind_json Usize = string (codes "usize")

abbrev pub shape_json : Shape → Data
shape_json null = string (codes "null")
shape_json bool = string (codes "bool")
shape_json (int k) = with_one_member (codes "int") (kind_json k)
shape_json (non_zero k) = with_one_member (codes "nonzero") (kind_json k)
shape_json number_shape = string (codes "number")
shape_json text = string (codes "text")
shape_json char = string (codes "char")
shape_json (formatted t) = with_one_member (codes "format") (string t)
shape_json any = string (codes "any")
shape_json bytes = string (codes "bytes")
shape_json schema_itself = string (codes "schema")
shape_json (option n) = with_one_member (codes "option") (whole n)
shape_json (seq n) = with_one_member (codes "seq") (whole n)
shape_json (set n) = with_one_member (codes "set") (whole n)
shape_json (array_shape n len) = with_one_member (codes "array") (two_of (codes "of") n (codes "len") len)
shape_json (up_to n cap) = with_one_member (codes "up_to") (two_of (codes "of") n (codes "cap") cap)
shape_json (tuple ns) = with_one_member (codes "tuple") (list_of whole ns)
shape_json (struct x) = with_one_member (codes "struct") (fields_json x)
shape_json (newtype n) = with_one_member (codes "newtype") (whole n)
shape_json (result ok err) = with_one_member (codes "result") (two_of (codes "ok") ok (codes "err") err)
shape_json (bound n) = with_one_member (codes "bound") (whole n)
shape_json (range n) = with_one_member (codes "range") (whole n)
shape_json (either left right) = with_one_member (codes "either") (two_of (codes "left") left (codes "right") right)
shape_json (map_from key value) = with_one_member (codes "map") (two_of (codes "key") key (codes "value") value)
shape_json (enum by_name xs) = with_one_member (codes "external") (variants_json xs)
shape_json (enum by_nothing xs) = with_one_member (codes "untagged") (variants_json xs)
shape_json (enum (by_tag tag closed) xs) = with_one_member (codes "internal") (internal_json tag closed xs)
shape_json (enum (by_tag_and_content tag content closed) xs) = with_one_member (codes "adjacent") (adjacent_json tag content closed xs)
shape_json (literal d) = with_one_member (codes "literal") d

-- ---- tables

-- the members of a row beside its id and its name; none before it is defined
abbrev pub entry_members : Option Entry → List (Text × Data)
entry_members None = []
entry_members (Some e) =
    (codes "inline", boolean e.inline) ∷ (codes "notes", object e.notes) ∷ (codes "shape", shape_json e.shape) ∷ []

abbrev pub row_json : Row → Data
row_json r = object_of ((codes "id", string r.id) ∷ (codes "name", string r.name) ∷ entry_members r.entry)

-- the JSON of a table, with a number for the root
abbrev pub json_of : List Row → ℕ → Data
json_of rows root = object_of ((codes "types", list_of row_json rows) ∷ (codes "root", whole root) ∷ [])

-- ---- what can be written

-- Each shape of the library is of this kind: a literal is a schema, and beside a tag are fields, the members of a row, or nothing.
abbrev pub is_library_shape : Shape → Bool
is_library_shape (literal d) = is_schema d
is_library_shape (enum (by_tag tag closed) xs) = list_all (λ x. is_some (payload_inside x.payload)) xs
is_library_shape _ = true

abbrev pub has_library_shape : Row → Bool
has_library_shape r = option_map_or (λ e. is_library_shape e.shape) r.entry true

-- a table that is complete, and has no other shapes
pub record CanBeWritten (rows : List Row) : Type 0 where
  pub complete : is_complete rows ≡ true
  pub shapes : list_all has_library_shape rows ≡ true
