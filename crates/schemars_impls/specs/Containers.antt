-- What types say that are made of others, each as one term.
use Rattle.std.specs.Prelude.{ℕ, ◌==◌, Bool, true, false, List, [], ◌∷◌, if◌then◌else◌}
use Rattle.schemars_schema.specs.Json.{Text}
use Rattle.schemars_shapes.specs.Shape.{in_place, option, seq, set, array, tuple, map_from}
use Rattle.schemars_types.specs.Names.{option_id, option_name, seq_id, seq_name, set_id, set_name, array_id, array_name, tuple_id, tuple_name, map_id, map_name}
use Rattle.schemars_impls.specs.Describes.{Making, Always, OfOne, OfAll}
use Rattle.schemars_impls.specs.Dictionary.{Dictionary, TypeRow, IsIn, of_one, of_two}

unfoldable pub option_row : TypeRow → TypeRow
option_row t = of_one (option_id t.id) (option_name t.name) true (λ n. in_place (option n)) t

unfoldable pub seq_row : TypeRow → TypeRow
seq_row t = of_one (seq_id t.id) (seq_name t.name) true (λ n. in_place (seq n)) t

unfoldable pub set_row : TypeRow → TypeRow
set_row t = of_one (set_id t.id) (set_name t.name) true (λ n. in_place (set n)) t

unfoldable pub map_row : TypeRow → TypeRow → TypeRow
map_row key value =
    of_two (map_id key.id value.id) (map_name key.id key.name value.name) true (λ n m. in_place (map_from n m)) key value

-- the items are in a dictionary, unless there are none
abbrev pub HasItems : Bool → TypeRow → Dictionary → Type 0
HasItems true t d = Unit {0}
HasItems false t d = IsIn t d

-- lists of `len` items with this id; those of no items are one type, whatever the items are
abbrev pub array_making : Text → ℕ → Making
array_making id len = if len == 0 then Always (in_place (tuple [])) else OfOne id (λ n. in_place (array n len))

unfoldable pub array_row : TypeRow → ℕ → TypeRow
array_row t len = record {
  id = array_id t.id len;
  name = array_name t.name len;
  inline = true;
  making = array_making t.id len;
  parts = λ d. HasItems (len == 0) t d;
}

-- the ids and the names of several types, and that they are in a dictionary
pub record PartRows : Type 1 where
  pub ids : List Text
  pub names : List Text
  pub are_in : Dictionary → Type 0

abbrev pub no_parts : PartRows
no_parts = record { ids = []; names = []; are_in = λ d. Unit {0} }

abbrev pub and_parts : TypeRow → PartRows → PartRows
and_parts t rest = record { ids = t.id ∷ rest.ids; names = t.name ∷ rest.names; are_in = λ d. IsIn t d × rest.are_in d }

unfoldable pub tuple_row : PartRows → TypeRow
tuple_row parts = record {
  id = tuple_id parts.ids;
  name = tuple_name parts.names;
  inline = true;
  making = OfAll parts.ids (λ ns. in_place (tuple ns));
  parts = parts.are_in;
}
