-- What members, fields and variants say in a JSON value.
use Rattle.std.specs.Prelude.{ℕ, List, [], ◌∷◌, Bool, true, false, Option, Some, None, option_map, option_and_then, if◌then◌else◌, bytes_eq, codes}
use Rattle.std.specs.Option.{option_map_or}
use Rattle.serde_json.specs.Data.{Data, null, boolean, number, string, array, object, Items, no_items, item, Members, no_members}
use Rattle.serde_json.specs.Find.{get, as_bool, as_number, as_str, as_array, as_object, as_u64}
use Rattle.schemars_schema.specs.Json.{Text}
use Rattle.schemagen_json.specs.Members.{has_only, lone_in}
use Rattle.schemars_shapes.specs.declared.shape.IntKind.{IntKind}
use Rattle.schemars_shapes.specs.declared.shape.IntKind.TheVariants.{I8, I16, I32, I64, I128, Isize, U8, U16, U32, U64, U128, Usize}
use Rattle.schemars_shapes.specs.Shape.{Required, Field, Flattened, Fields, Payload, Variant, Shape, no_payload, newtype_payload, tuple_payload, struct_payload, struct, enum, by_name, by_nothing, by_tag, by_tag_and_content}

-- ---- the members of an object

-- what a member says that has to be there
abbrev pub needed_member : {T : Type 0} → (Data → Option T) → Text → Data → Option T
needed_member says name d = option_and_then says (get name d)

-- what a member says, or this where it is missing
abbrev pub optional_member : {T : Type 0} → T → (Data → Option T) → Text → Data → Option T
optional_member missing says name d = option_map_or says (get name d) (Some missing)

-- ---- lists

-- what each item says
abbrev pub read_each : {T : Type 0} → (Data → Option T) → Items → Option (List T)
read_each says no_items = Some []
read_each says (item d ds) = option_and_then (λ x. option_map (λ xs. x ∷ xs) (read_each says ds)) (says d)

-- the items of the list under this key: none where it is missing
abbrev pub items_under : Text → Data → Option Items
items_under key d = optional_member no_items as_array key d

-- what each of them says
abbrev pub read_list : {T : Type 0} → (Data → Option T) → Text → Data → Option (List T)
read_list says key d = option_and_then (read_each says) (items_under key d)

-- ---- enums that are tagged by the names of their variants

-- a text is the name of a variant with no content, and an object has the content under the name
abbrev pub externally_tagged : {T : Type 0} → (Text → Option T) → (Text → Data → Option T) → Data → Option T
externally_tagged unit content null = None
externally_tagged unit content (boolean b) = None
externally_tagged unit content (number n) = None
externally_tagged unit content (string t) = unit t
externally_tagged unit content (array ds) = None
externally_tagged unit content (object ms) = option_and_then (λ m. content m.0 m.1) (lone_in ms)

-- ---- the parts of a row

-- the number of a row: a whole number
abbrev pub number_in : Data → Option ℕ
number_in d = option_and_then as_u64 (as_number d)

-- the notes of a row, a field or a variant: an object with any members, and none where they are missing
abbrev pub notes_in : Data → Option Members
notes_in d = optional_member no_members as_object (codes "notes") d

abbrev pub kind_named : Text → Option IntKind
kind_named t =
    if bytes_eq t (codes "i8") then Some I8 else (if bytes_eq t (codes "i16") then Some I16 else (if bytes_eq t (codes "i32") then Some I32
    else (if bytes_eq t (codes "i64") then Some I64 else (if bytes_eq t (codes "i128") then Some I128 else
    (if bytes_eq t (codes "isize") then Some Isize
    else (if bytes_eq t (codes "u8") then Some U8 else (if bytes_eq t (codes "u16") then Some U16 else
    (if bytes_eq t (codes "u32") then Some U32
    else (if bytes_eq t (codes "u64") then Some U64 else (if bytes_eq t (codes "u128") then Some U128 else
    (if bytes_eq t (codes "usize") then Some Usize else None)))))))))))

abbrev pub kind_in : Data → Option IntKind
kind_in d = option_and_then kind_named (as_str d)

-- ---- fields

abbrev pub required : Bool → Bool → Required
required read written = record { deserialize = read; serialize = written }

-- an object says it for values that are read, and for those that are written
abbrev pub required_each : Data → Option Required
required_each d =
    if has_only (codes "deserialize" ∷ codes "serialize" ∷ []) d
    then option_and_then (λ read. option_map (required read) (needed_member as_bool (codes "serialize") d))
    (needed_member as_bool (codes "deserialize") d)
    else None

-- a truth value says it for both
abbrev pub required_in : Data → Option Required
required_in d = option_map_or (λ b. Some (required b b)) (as_bool d) (required_each d)

abbrev pub field_names : List Text
field_names = codes "name" ∷ codes "type" ∷ codes "required" ∷ codes "notes" ∷ []

-- a field whose members are known by name
abbrev pub field_of_members : Data → Option Field
field_of_members d =
    option_and_then (λ name. option_and_then (λ ty. option_and_then (λ need.
    option_map (λ notes. record { name = name; ty = ty; required = need; notes = notes })
    (notes_in d))
    (optional_member (required true true) required_in (codes "required") d))
    (needed_member number_in (codes "type") d))
    (needed_member as_str (codes "name") d)

abbrev pub field_in : Data → Option Field
field_in d = if has_only field_names d then field_of_members d else None

-- the fields of a struct
abbrev pub fields_in : Data → Option (List Field)
fields_in d = read_list field_in (codes "fields") d

-- a row whose members are known by name
abbrev pub flattened_of_members : Data → Option Flattened
flattened_of_members d =
    option_and_then (λ ty. option_map (λ need. record { ty = ty; required = need })
    (optional_member (required true true) required_in (codes "required") d)) (needed_member number_in (codes "type") d)

-- a row whose members are in the map itself
abbrev pub flattened_from : Data → Option Flattened
flattened_from d = if has_only (codes "type" ∷ codes "required" ∷ []) d then flattened_of_members d else None

-- the rows flattened into a struct
abbrev pub all_flattened_in : Data → Option (List Flattened)
all_flattened_in d = read_list flattened_from (codes "flatten") d

-- the fields, the rows that are flattened, and whether other keys are excluded
abbrev pub fields_of_members : Data → Option Fields
fields_of_members d =
    option_and_then (λ closed. option_and_then (λ list. option_map (λ flatten. record { list = list; flatten = flatten; closed = closed })
    (all_flattened_in d)) (fields_in d)) (optional_member false as_bool (codes "closed") d)

abbrev pub fields_said : Data → Option Fields
fields_said d = if has_only (codes "fields" ∷ codes "flatten" ∷ codes "closed" ∷ []) d then fields_of_members d else None

abbrev pub struct_in : Data → Option Shape
struct_in d = option_map struct (fields_said d)

-- ---- lists of rows

abbrev pub parts_from : Data → Option (List ℕ)
parts_from d = option_and_then (read_each number_in) (as_array d)

-- ---- variants

-- the payload that is said by a text
abbrev pub payload_named : Text → Option Payload
payload_named t = if bytes_eq t (codes "unit") then Some no_payload else None

-- and those that are said by an object with this one member
abbrev pub payload_under : Text → Data → Option Payload
payload_under name d =
    if bytes_eq name (codes "newtype") then option_map newtype_payload (number_in d) else
    (if bytes_eq name (codes "tuple") then option_map tuple_payload (parts_from d)
    else (if bytes_eq name (codes "struct") then option_map struct_payload (fields_said d) else None))

abbrev pub payload_in : Data → Option Payload
payload_in d = externally_tagged payload_named payload_under d

abbrev pub variant_keys : List Text
variant_keys = codes "name" ∷ codes "notes" ∷ codes "payload" ∷ []

-- a variant whose members are known by name: a unit where the payload is missing
abbrev pub variant_of_members : Data → Option Variant
variant_of_members d =
    option_and_then (λ name. option_and_then (λ payload. option_map (λ notes. record { name = name; payload = payload; notes = notes })
    (notes_in d)) (optional_member no_payload payload_in (codes "payload") d)) (needed_member as_str (codes "name") d)

abbrev pub variant_in : Data → Option Variant
variant_in d = if has_only variant_keys d then variant_of_members d else None

-- the variants of an enum
abbrev pub variants_in : Data → Option (List Variant)
variants_in d = read_list variant_in (codes "variants") d

-- an enum of which nothing else is said
abbrev pub enum_in : Data → Option (List Variant)
enum_in d = if has_only (codes "variants" ∷ []) d then variants_in d else None

abbrev pub external_in : Data → Option Shape
external_in d = option_map (enum by_name) (enum_in d)

abbrev pub untagged_in : Data → Option Shape
untagged_in d = option_map (enum by_nothing) (enum_in d)

-- beside a tag are fields, the members of a row, or nothing
abbrev pub payload_inside : Payload → Option Payload
payload_inside no_payload = Some no_payload
payload_inside (newtype_payload n) = Some (newtype_payload n)
payload_inside (tuple_payload ns) = None
payload_inside (struct_payload x) = Some (struct_payload x)

abbrev pub variant_inside : Variant → Option Variant
variant_inside x = option_map (λ payload. record { name = x.name; payload = payload; notes = x.notes }) (payload_inside x.payload)

-- a variant beside a tag
abbrev pub internal_variant_in : Data → Option Variant
internal_variant_in d = option_and_then variant_inside (variant_in d)

abbrev pub internals_in : Data → Option (List Variant)
internals_in d = read_list internal_variant_in (codes "variants") d

abbrev pub internal_names : List Text
internal_names = codes "tag" ∷ codes "closed" ∷ codes "variants" ∷ []

abbrev pub internal_in : Data → Option Shape
internal_in d =
    if has_only internal_names d
    then option_and_then (λ tag. option_and_then (λ closed. option_map (enum (by_tag tag closed)) (internals_in d))
    (optional_member false as_bool (codes "closed") d)) (needed_member as_str (codes "tag") d)
    else None

-- the keys of name and content, whether other keys are excluded, and the variants
abbrev pub adjacent_of_members : Data → Option Shape
adjacent_of_members d =
    option_and_then (λ tag. option_and_then (λ content. option_and_then (λ closed.
    option_map (enum (by_tag_and_content tag content closed)) (variants_in d))
    (optional_member false as_bool (codes "closed") d))
    (needed_member as_str (codes "content") d))
    (needed_member as_str (codes "tag") d)

abbrev pub adjacent_names : List Text
adjacent_names = codes "tag" ∷ codes "content" ∷ codes "closed" ∷ codes "variants" ∷ []

abbrev pub adjacent_in : Data → Option Shape
adjacent_in d = if has_only adjacent_names d then adjacent_of_members d else None
