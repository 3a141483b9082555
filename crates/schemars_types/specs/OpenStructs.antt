-- The meaning of tables in which only structs that have to be there are flattened: no Option is looked through, and no enum is
-- among the members of a struct.
use Rattle.std.specs.Prelude.{ℕ, zero, suc, ◌+◌, ◌*◌, List, [], length, map, Bool, false, Some, None}
use Rattle.std.specs.Option.{option_map_or}
use Rattle.serde_json.specs.Data.{Data, depth}
use Rattle.schemars_schema.specs.Judges.{Patterns}
use Rattle.schemars_shapes.specs.Shape.{Field, Flattened, Fields, Shape, struct, enum, Payload, Variant, no_payload, newtype_payload, tuple_payload, struct_payload}
use Rattle.schemars_types.specs.KeyOptions.{key_options}
use Rattle.schemars_types.specs.Rows.{Row, entry_at}
use Rattle.schemars_types.specs.Effective.{effective, shape_fields}
use Rattle.schemars_types.specs.declared.contract.Contract.{Contract}
use Rattle.schemars_types.specs.Meaning.{VariantMatch, has_shape}

-- ---- shapes with the flattened fields among their own, into which nothing is flattened

abbrev pub joined_fields : (Flattened → List Field) → Fields → Fields
joined_fields part x = record { list = effective part x; flatten = []; closed = x.closed }

abbrev pub joined_payload : (Flattened → List Field) → Payload → Payload
joined_payload part no_payload = no_payload
joined_payload part (newtype_payload n) = newtype_payload n
joined_payload part (tuple_payload ns) = tuple_payload ns
joined_payload part (struct_payload x) = struct_payload (joined_fields part x)

abbrev pub joined_variant : (Flattened → List Field) → Variant → Variant
joined_variant part x = record { name = x.name; payload = joined_payload part x.payload; notes = x.notes }

abbrev pub joined_shape : (Flattened → List Field) → Shape → Shape
joined_shape part (struct x) = struct (joined_fields part x)
joined_shape part (enum tagging xs) = enum tagging (map (joined_variant part) xs)
joined_shape part s = s

-- ---- in a table

-- row n is asked, and others at most `steps` deep
unfoldable pub struct_fields_within : List Row → ℕ → ℕ → List Field
struct_fields_within rows zero n = []
struct_fields_within rows (suc steps) n =
    option_map_or (λ e. shape_fields (λ p. struct_fields_within rows steps p.ty) e.shape) (entry_at rows n) []

abbrev pub joined_in : List Row → Shape → Shape
joined_in rows s = joined_shape (λ p. struct_fields_within rows (length rows) p.ty) s

abbrev pub no_choices : ℕ → Data → List VariantMatch
no_choices n v = []

-- row n has the value; a row is asked at most `steps` deep
unfoldable pub belongs_plainly_within : List Row → Contract → Patterns → ℕ → ℕ → Data → Bool
belongs_plainly_within rows contract patterns zero n v = false
belongs_plainly_within rows contract patterns (suc steps) n v =
    elim (entry_at rows n) [
      | None ↦ false
      | Some entry ↦ has_shape contract patterns (key_options rows) no_choices (belongs_plainly_within rows contract patterns steps)
          (joined_in rows entry.shape) v
    ]

-- the meaning of row n: at each depth of the value every row is asked once at most
abbrev pub belongs_plainly : List Row → Contract → Patterns → ℕ → Data → Bool
belongs_plainly rows contract patterns n v = belongs_plainly_within rows contract patterns ((depth v + 1) * length rows) n v
