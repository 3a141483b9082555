-- Variants that are known by their names alone.
use Rattle.std.specs.Prelude.{Bool, true, false}
use Rattle.serde_json.specs.Data.{Members, no_members, member}
use Rattle.schemars_shapes.specs.Shape.{Variant, no_payload, newtype_payload, tuple_payload, struct_payload}

abbrev pub is_none : Members → Bool
is_none no_members = true
is_none (member k d ms) = false

-- a unit without notes
abbrev pub is_bare_unit : Variant → Bool
is_bare_unit x = elim x.payload [
  | no_payload ↦ is_none x.notes
  | newtype_payload n ↦ false
  | tuple_payload ns ↦ false
  | struct_payload x ↦ false
]
