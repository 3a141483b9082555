-- The shape that a JSON value says, and the entry of a row.
use Rattle.std.specs.Prelude.{ℕ, [], ◌∷◌, false, Option, Some, None, option_map, option_and_then, if◌then◌else◌, bytes_eq, codes}
use Rattle.serde_json.specs.Data.{Data}
use Rattle.serde_json.specs.Find.{as_bool, as_str}
use Rattle.schemars_schema.specs.Json.{Text}
use Rattle.schemars_shapes.specs.Shape.{Shape, Entry, either, map_from, null as null_shape, bool, int, non_zero, number as number_shape, text, char, formatted, any, bytes, schema_itself, option, seq, set, array as array_shape, up_to, tuple, newtype, result, bound, range, literal}
use Rattle.schemars_schema.specs.Lookup.{schema_only}
use Rattle.schemagen_json.specs.Members.{has_only}
use Rattle.schemagen_shapes.specs.Forms.{needed_member, optional_member, externally_tagged, number_in, notes_in, kind_in, struct_in, parts_from, external_in, untagged_in, internal_in, adjacent_in}

-- ---- shapes

-- the shapes that are said by a text
abbrev pub shape_named : Text → Option Shape
shape_named t =
    if bytes_eq t (codes "null") then Some null_shape else (if bytes_eq t (codes "bool") then Some bool else
    (if bytes_eq t (codes "number") then Some number_shape
    else (if bytes_eq t (codes "text") then Some text else (if bytes_eq t (codes "char") then Some char else
    (if bytes_eq t (codes "any") then Some any
    else (if bytes_eq t (codes "bytes") then Some bytes else (if bytes_eq t (codes "schema") then Some schema_itself else None)))))))

abbrev pub tuple_in : Data → Option Shape
tuple_in d = option_map tuple (parts_from d)

-- the row of a list's items, and their number under this name
abbrev pub counted_in : Text → Data → Option (ℕ × ℕ)
counted_in count d =
    if has_only (codes "of" ∷ count ∷ []) d
    then option_and_then (λ n. option_map (λ k. (n, k)) (needed_member number_in count d)) (needed_member number_in (codes "of") d)
    else None

abbrev pub array_in : Data → Option Shape
array_in d = option_map (λ p. array_shape p.0 p.1) (counted_in (codes "len") d)

abbrev pub up_to_in : Data → Option Shape
up_to_in d = option_map (λ p. up_to p.0 p.1) (counted_in (codes "cap") d)

-- two rows under these names
abbrev pub two_in : Text → Text → Data → Option (ℕ × ℕ)
two_in first second d =
    if has_only (first ∷ second ∷ []) d
    then option_and_then (λ m. option_map (λ n. (m, n)) (needed_member number_in second d)) (needed_member number_in first d)
    else None

abbrev pub result_in : Data → Option Shape
result_in d = option_map (λ p. result p.0 p.1) (two_in (codes "ok") (codes "err") d)

abbrev pub either_in : Data → Option Shape
either_in d = option_map (λ p. either p.0 p.1) (two_in (codes "left") (codes "right") d)

abbrev pub map_in : Data → Option Shape
map_in d = option_map (λ p. map_from p.0 p.1) (two_in (codes "key") (codes "value") d)

-- maps, by the name of their kind
abbrev pub fixed_under : Text → Data → Option Shape
fixed_under name d =
    if bytes_eq name (codes "bound") then option_map bound (number_in d) else
    (if bytes_eq name (codes "range") then option_map range (number_in d)
    else (if bytes_eq name (codes "result") then result_in d else (if bytes_eq name (codes "either") then either_in d else
    (if bytes_eq name (codes "map") then map_in d else None))))

-- lists, by the name of their kind
abbrev pub list_under : Text → Data → Option Shape
list_under name d =
    if bytes_eq name (codes "seq") then option_map seq (number_in d) else (if bytes_eq name (codes "set") then option_map set (number_in d)
    else (if bytes_eq name (codes "array") then array_in d else (if bytes_eq name (codes "up_to") then up_to_in d
    else (if bytes_eq name (codes "tuple") then tuple_in d else fixed_under name d))))

-- a schema that is used as it is written
abbrev pub literal_in : Data → Option Shape
literal_in d = option_map literal (schema_only d)

-- other shapes without fields and variants
abbrev pub plain_under : Text → Data → Option Shape
plain_under name d =
    if bytes_eq name (codes "int") then option_map int (kind_in d) else
    (if bytes_eq name (codes "nonzero") then option_map non_zero (kind_in d)
    else (if bytes_eq name (codes "format") then option_map formatted (as_str d) else
    (if bytes_eq name (codes "option") then option_map option (number_in d)
    else (if bytes_eq name (codes "newtype") then option_map newtype (number_in d)
    else (if bytes_eq name (codes "literal") then literal_in d else list_under name d)))))

-- and those that are said by an object with this one member
abbrev pub shape_under : Text → Data → Option Shape
shape_under name d =
    if bytes_eq name (codes "struct") then struct_in d else
    (if bytes_eq name (codes "external") then external_in d
    else (if bytes_eq name (codes "untagged") then untagged_in d
    else (if bytes_eq name (codes "internal") then internal_in d
    else (if bytes_eq name (codes "adjacent") then adjacent_in d else plain_under name d))))

abbrev pub shape_in : Data → Option Shape
shape_in d = externally_tagged shape_named shape_under d

-- ---- entries

abbrev pub entry_in : Data → Option Entry
entry_in d =
    option_and_then (λ inline. option_and_then (λ notes. option_map (λ shape. record { inline = inline; notes = notes; shape = shape })
    (needed_member shape_in (codes "shape") d))
    (notes_in d)) (optional_member false as_bool (codes "inline") d)
