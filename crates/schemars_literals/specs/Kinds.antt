-- Which numbers are of a kind, by their order.
use Rattle.std.specs.Prelude.{ℤ, Bool, true, ◌&&◌, Option, Some, None, is_some}
use Rattle.serde_json.specs.Data.{Num}
use Rattle.serde_json.specs.Find.{of_integer}
use Rattle.schemars_schema.specs.Numbers.{number_le, whole_of}
use Rattle.schemars_shapes.specs.declared.shape.IntKind.{IntKind}
use Rattle.schemars_types.specs.Meaning.{least_of, greatest_of}

abbrev pub is_from : Option ℤ → Num → Bool
is_from None n = true
is_from (Some least) n = number_le (of_integer least) n

abbrev pub is_up_to : Option ℤ → Num → Bool
is_up_to None n = true
is_up_to (Some greatest) n = number_le n (of_integer greatest)

abbrev pub is_number_of_kind : IntKind → Num → Bool
is_number_of_kind kind n = is_some (whole_of n) && (is_from (least_of kind) n && is_up_to (greatest_of kind) n)
