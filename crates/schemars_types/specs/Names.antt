-- The ids and names of types that are made of others.
use Rattle.std.specs.Prelude.{ℕ, ◌==◌, if◌then◌else◌, ◌++◌, List, [], ◌∷◌, Bool, bytes_eq, codes}
use Rattle.std.specs.List.{join_by}
use Rattle.std.specs.Fmt.{decimal}
use Rattle.schemars_schema.specs.Json.{Text}
use Rattle.schemars_shapes.specs.declared.shape.IntKind.{IntKind}
use Rattle.schemars_shapes.specs.IntKind.{non_zero_name}

abbrev pub non_zero_id : IntKind → Text
non_zero_id k = codes "std::num::" ++ non_zero_name k

abbrev pub option_id : Text → Text
option_id id = codes "Option<" ++ (id ++ codes ">")

abbrev pub option_name : Text → Text
option_name name = codes "Nullable_" ++ name

abbrev pub seq_id : Text → Text
seq_id id = codes "[" ++ (id ++ codes "]")

abbrev pub seq_name : Text → Text
seq_name name = codes "Array_of_" ++ name

abbrev pub set_id : Text → Text
set_id id = codes "Set<" ++ (id ++ codes ">")

abbrev pub set_name : Text → Text
set_name name = codes "Set_of_" ++ name

-- lists of no items are one type, whatever the items would be
abbrev pub array_id : Text → ℕ → Text
array_id id len = if len == 0 then codes "[]" else codes "[" ++ (decimal len ++ (codes "; " ++ (id ++ codes "]")))

abbrev pub array_name : Text → ℕ → Text
array_name name len = if len == 0 then codes "EmptyArray" else codes "Array_size_" ++ (decimal len ++ (codes "_of_" ++ name))

abbrev pub up_to_id : Text → ℕ → Text
up_to_id id cap = codes "[" ++ (id ++ (codes "; up to " ++ (decimal cap ++ codes "]")))

abbrev pub up_to_name : Text → ℕ → Text
up_to_name name cap = codes "Array_up_to_size_" ++ (decimal cap ++ (codes "_of_" ++ name))

-- of lists without parts there is one type
abbrev pub tuple_id : List Text → Text
tuple_id [] = codes "[]"
tuple_id (t ∷ ts) = codes "(" ++ (join_by (λ id. id) (codes ",") (t ∷ ts) ++ codes ")")

abbrev pub tuple_name : List Text → Text
tuple_name [] = codes "EmptyArray"
tuple_name (t ∷ ts) = codes "Tuple_of_" ++ join_by (λ name. name) (codes "_and_") (t ∷ ts)

abbrev pub result_id : Text → Text → Text
result_id value error = codes "Result<" ++ (value ++ (codes ", " ++ (error ++ codes ">")))

abbrev pub result_name : Text → Text → Text
result_name value error = codes "Result_of_" ++ (value ++ (codes "_or_" ++ error))

abbrev pub bound_id : Text → Text
bound_id id = codes "Bound<" ++ (id ++ codes ">")

abbrev pub bound_name : Text → Text
bound_name name = codes "Bound_of_" ++ name

abbrev pub range_id : Text → Text
range_id id = codes "Range<" ++ (id ++ codes ">")

abbrev pub range_name : Text → Text
range_name name = codes "Range_of_" ++ name

abbrev pub either_id : Text → Text → Text
either_id left right = codes "either::Either<" ++ (left ++ (codes ", " ++ (right ++ codes ">")))

-- a map whose keys are of the row with the id `string` is named by its values alone
abbrev pub is_text_id : Text → Bool
is_text_id id = bytes_eq id (codes "string")

abbrev pub map_id : Text → Text → Text
map_id key value = if is_text_id key then codes "Map<" ++ (value ++ codes ">") else
    codes "Map<" ++ (key ++ (codes ", " ++ (value ++ codes ">")))

abbrev pub map_name : Text → Text → Text → Text
map_name key_id key value = if is_text_id key_id then codes "Map_of_" ++ value else codes "Map_from_" ++ (key ++ (codes "_to_" ++ value))

abbrev pub either_name : Text → Text → Text
either_name left right = codes "Either_" ++ (left ++ (codes "_or_" ++ right))
