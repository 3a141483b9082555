-- The fields of a struct together with those of the structs that are flattened into it, and the enums among its members.
-- This file is trusted: the theorem is stated in its words.
use Rattle.std.specs.Prelude.{ℕ, zero, suc, List, [], ◌∷◌, ◌++◌, map, length, true, Some, None, is_some, ◌&&◌, if◌then◌else◌}
use Rattle.std.specs.Option.{option_map_or}
use Rattle.schemars_shapes.specs.Shape.{Required, Field, Flattened, Fields, Shape, struct, enum, by_name, by_tag, Payload, Variant, no_payload, newtype_payload, tuple_payload, struct_payload}
use Rattle.schemars_types.specs.Rows.{Row, entry_at}
use Rattle.schemars_types.specs.Edges.{option_at}

-- row n without the Options around it
abbrev pub without_options_within : List Row → ℕ → ℕ → ℕ
without_options_within rows zero n = n
without_options_within rows (suc steps) n = elim (option_at rows n) [ None ↦ n | Some m ↦ without_options_within rows steps m ]

abbrev pub without_options : List Row → ℕ → ℕ
without_options rows n = without_options_within rows (length rows) n

-- ---- fields

-- below, `part` says which fields a flattened row has

abbrev pub flattened_fields : (Flattened → List Field) → List Flattened → List Field
flattened_fields part [] = []
flattened_fields part (p ∷ ps) = part p ++ flattened_fields part ps

-- its own fields, and those of each flattened row
abbrev pub effective : (Flattened → List Field) → Fields → List Field
effective part x = x.list ++ flattened_fields part x.flatten

-- a field that has to be there only where its row has to
abbrev pub required_only_if : Required → Field → Field
required_only_if r f = record {
  name = f.name;
  ty = f.ty;
  required = record { deserialize = r.deserialize && f.required.deserialize; serialize = r.serialize && f.required.serialize };
  notes = f.notes;
}

-- the fields of a flattened Option may all be missing, unless it has to be there
abbrev pub part_fields : List Row → (ℕ → List Field) → Flattened → List Field
part_fields rows own p =
    if is_some (option_at rows p.ty) then map (required_only_if p.required) (own (without_options rows p.ty))
    else own (without_options rows p.ty)

-- a shape that is not a struct has no fields to flatten
abbrev pub shape_fields : (Flattened → List Field) → Shape → List Field
shape_fields part (struct x) = effective part x
shape_fields part _ = []

-- row n is asked, and others at most `steps` deep
unfoldable pub fields_within : List Row → ℕ → ℕ → List Field
fields_within rows zero n = []
fields_within rows (suc steps) n =
    option_map_or (λ e. shape_fields (part_fields rows (fields_within rows steps)) e.shape) (entry_at rows n) []

-- in a table without faults no row is asked twice on the way down
abbrev pub row_fields : List Row → ℕ → List Field
row_fields rows n = fields_within rows (length rows) n

abbrev pub flattened_in : List Row → Flattened → List Field
flattened_in rows = part_fields rows (row_fields rows)

-- ---- enums

-- below, `part` says which enums are in a flattened row

abbrev pub flattened_enums : (Flattened → List ℕ) → List Flattened → List ℕ
flattened_enums part [] = []
flattened_enums part (p ∷ ps) = part p ++ flattened_enums part ps

-- the enums among the members of a struct; an enum that is distinguished by its names or by a tag is one itself
abbrev pub shape_enums : (Flattened → List ℕ) → ℕ → Shape → List ℕ
shape_enums part n (struct x) = flattened_enums part x.flatten
shape_enums part n (enum by_name xs) = n ∷ []
shape_enums part n (enum (by_tag tag closed) xs) = n ∷ []
shape_enums part n _ = []

-- row n is asked, and others at most `steps` deep
unfoldable pub enums_within : List Row → ℕ → ℕ → List ℕ
enums_within rows zero n = []
enums_within rows (suc steps) n =
    option_map_or (λ e. shape_enums (λ p. enums_within rows steps (without_options rows p.ty)) n e.shape) (entry_at rows n) []

-- in a table without faults no row is asked twice on the way down
abbrev pub part_enums : List Row → Flattened → List ℕ
part_enums rows p = enums_within rows (length rows) (without_options rows p.ty)

-- ---- shapes with the flattened fields among their own, into which enums alone are flattened

abbrev pub always : Required
always = record { deserialize = true; serialize = true }

abbrev pub enum_at : ℕ → Flattened
enum_at n = record { ty = n; required = always }

abbrev pub expanded_fields : (Flattened → List Field) → (Flattened → List ℕ) → Fields → Fields
expanded_fields part enums x =
    record { list = effective part x; flatten = map enum_at (flattened_enums enums x.flatten); closed = x.closed }

abbrev pub expanded_payload : (Flattened → List Field) → (Flattened → List ℕ) → Payload → Payload
expanded_payload part enums no_payload = no_payload
expanded_payload part enums (newtype_payload n) = newtype_payload n
expanded_payload part enums (tuple_payload ns) = tuple_payload ns
expanded_payload part enums (struct_payload x) = struct_payload (expanded_fields part enums x)

abbrev pub expanded_variant : (Flattened → List Field) → (Flattened → List ℕ) → Variant → Variant
expanded_variant part enums x = record { name = x.name; payload = expanded_payload part enums x.payload; notes = x.notes }

abbrev pub expanded_shape : (Flattened → List Field) → (Flattened → List ℕ) → Shape → Shape
expanded_shape part enums (struct x) = struct (expanded_fields part enums x)
expanded_shape part enums (enum tagging xs) = enum tagging (map (expanded_variant part enums) xs)
expanded_shape part enums s = s

-- in a table
abbrev pub expanded_shape_in : List Row → Shape → Shape
expanded_shape_in rows s = expanded_shape (flattened_in rows) (part_enums rows) s
