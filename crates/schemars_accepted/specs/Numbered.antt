-- Structs and enums of one's own: what they say, and how their entries are made of the numbers of their parts.
use Rattle.std.specs.Prelude.{◌≡◌, ℕ, Bool, true, false, List, [], ◌∷◌, ◌++◌, Some, map, if◌then◌else◌}
use Rattle.std.specs.Str.{bytes_eq}
use Rattle.std.specs.List.{AllByRecursion}
use Rattle.schemars_schema.specs.Json.{Text}
use Rattle.schemars_shapes.specs.Shape.{Required, Field, Payload, no_payload, newtype_payload, tuple_payload, struct_payload, Variant, Tagging, struct, enum, Entry, without_notes, bare_fields}
use Rattle.schemars_types.specs.Rows.{Row, place_of}
use Rattle.schemars_impls.specs.Describes.{Making, OfAll}
use Rattle.schemars_impls.specs.Dictionary.{Dictionary, TypeRow, IsIn}
use Rattle.schemars_impls.specs.Containers.{PartRows}
use Rattle.schemars_impls.specs.Fields.{plain_field, bare_variant}

-- ---- numbers by ids

-- the number of an id, in a list with one for each of these ids
abbrev pub number_in : Text → List Text → List ℕ → ℕ
number_in id [] ns = 0
number_in id (i ∷ ids) [] = 0
number_in id (i ∷ ids) (n ∷ ns) = if bytes_eq i id then n else number_in id ids ns

-- made of the numbers of these ids
abbrev pub of_ids : List Text → ((Text → ℕ) → Entry) → Making
of_ids ids make = OfAll ids (λ ns. make (λ id. number_in id ids ns))

-- these are the numbers of these ids
abbrev pub AreNumbers : List Row → (Text → ℕ) → List Text → Type 0
AreNumbers rows number = AllByRecursion (λ id. place_of id rows ≡ Some (number id))

-- a type of one's own with these parts, whose name is its id, which is not written in place, and whose entry is made so
abbrev pub own_as : Text → Making → (Dictionary → Type 0) → TypeRow
own_as name making parts = record { id = name; name = name; inline = false; making = making; parts = parts }

-- ---- fields

-- a field: its name, the id of its row, and whether it has to be there
pub record FieldTold : Type 0 where
  pub name : Text
  pub id : Text
  pub required : Required

abbrev pub field_ids : List FieldTold → List Text
field_ids [] = []
field_ids (f ∷ fs) = f.id ∷ field_ids fs

abbrev pub fields_by : (Text → ℕ) → List FieldTold → List Field
fields_by number [] = []
fields_by number (f ∷ fs) = plain_field f.name (number f.id) f.required ∷ fields_by number fs

-- a struct with these fields
unfoldable pub fields_made : Bool → List FieldTold → Making
fields_made closed fields =
    of_ids (field_ids fields) (λ number. without_notes false (struct (bare_fields (fields_by number fields) closed)))

-- the fields of a struct, and that their types are in a dictionary
pub record FieldRows : Type 1 where
  pub list : List FieldTold
  pub are_in : Dictionary → Type 0

abbrev pub no_field : FieldRows
no_field = record { list = []; are_in = λ d. Unit {0} }

-- a field of the row with this id, of which this is in a dictionary, before others
abbrev pub and_row : Text → Required → Text → (Dictionary → Type 0) → FieldRows → FieldRows
and_row name required id is_in rest = record {
  list = record { name = name; id = id; required = required } ∷ rest.list;
  are_in = λ d. is_in d × rest.are_in d;
}

-- a field of this type before others
abbrev pub and_field : Text → Required → TypeRow → FieldRows → FieldRows
and_field name required t rest = and_row name required t.id (λ d. IsIn t d) rest

-- a struct with these fields, whose name is its id, closed to other keys or open
abbrev pub fields_row : Text → Bool → FieldRows → TypeRow
fields_row name closed fields = own_as name (fields_made closed fields.list) fields.are_in

-- a field that has to be there; one that is always written and may be missing where it is read; and one that may be missing
abbrev pub required : Required
required = record { deserialize = true; serialize = true }

abbrev pub read_optional : Required
read_optional = record { deserialize = false; serialize = true }

abbrev pub optional : Required
optional = record { deserialize = false; serialize = false }

-- ---- variants

-- what a variant has beside its name: nothing, the value of one row, those of several, or these fields
pub data PayloadTold : Type 0 where
  Nothing : PayloadTold
  OneValue : Text → PayloadTold
  Values : List Text → PayloadTold
  Members : Bool → List FieldTold → PayloadTold

pub record VariantTold : Type 0 where
  pub name : Text
  pub payload : PayloadTold

abbrev pub payload_ids : PayloadTold → List Text
payload_ids Nothing = []
payload_ids (OneValue id) = id ∷ []
payload_ids (Values ids) = ids
payload_ids (Members closed fields) = field_ids fields

abbrev pub payload_by : (Text → ℕ) → PayloadTold → Payload
payload_by number Nothing = no_payload
payload_by number (OneValue id) = newtype_payload (number id)
payload_by number (Values ids) = tuple_payload (map number ids)
payload_by number (Members closed fields) = struct_payload (bare_fields (fields_by number fields) closed)

abbrev pub variant_ids : List VariantTold → List Text
variant_ids [] = []
variant_ids (x ∷ xs) = payload_ids x.payload ++ variant_ids xs

abbrev pub variants_by : (Text → ℕ) → List VariantTold → List Variant
variants_by number [] = []
variants_by number (x ∷ xs) = bare_variant x.name (payload_by number x.payload) ∷ variants_by number xs

-- an enum with these variants
unfoldable pub variants_made : Tagging → List VariantTold → Making
variants_made tagging variants = of_ids (variant_ids variants) (λ number. without_notes false (enum tagging (variants_by number variants)))

-- the variants of an enum, and that their types are in a dictionary
pub record VariantRows : Type 1 where
  pub list : List VariantTold
  pub are_in : Dictionary → Type 0

abbrev pub no_variant : VariantRows
no_variant = record { list = []; are_in = λ d. Unit {0} }

-- a variant with this beside its name, of which this is in a dictionary, before others
abbrev pub and_variant : Text → PayloadTold → (Dictionary → Type 0) → VariantRows → VariantRows
and_variant name payload are_in rest =
    record { list = record { name = name; payload = payload } ∷ rest.list; are_in = λ d. are_in d × rest.are_in d }

abbrev pub and_unit : Text → VariantRows → VariantRows
and_unit name rest = record { list = record { name = name; payload = Nothing } ∷ rest.list; are_in = rest.are_in }

abbrev pub and_newtype : Text → TypeRow → VariantRows → VariantRows
and_newtype name t rest = and_variant name (OneValue t.id) (λ d. IsIn t d) rest

abbrev pub and_tuple : Text → PartRows → VariantRows → VariantRows
and_tuple name parts rest = and_variant name (Values parts.ids) parts.are_in rest

abbrev pub and_struct : Text → Bool → FieldRows → VariantRows → VariantRows
and_struct name closed fields rest = and_variant name (Members closed fields.list) fields.are_in rest

-- an enum of this tagging with these variants, whose name is its id
abbrev pub variants_row : Text → Tagging → VariantRows → TypeRow
variants_row name tagging variants = own_as name (variants_made tagging variants.list) variants.are_in
