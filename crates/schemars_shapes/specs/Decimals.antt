-- Entries without decimals in their notes and literals: numbers that are no 64-bit whole numbers.
use Rattle.std.specs.Prelude.{List, [], ◌∷◌, Bool, false, ◌||◌}
use Rattle.serde_json.specs.Written.{has_float, members_have_float}
use Rattle.schemars_shapes.specs.Shape.{Shape, Field, Entry, Payload, Variant, struct, enum, literal, struct_payload}

abbrev pub fields_have_float : List Field → Bool
fields_have_float [] = false
fields_have_float (f ∷ fs) = members_have_float f.notes || fields_have_float fs

abbrev pub payload_has_float : Payload → Bool
payload_has_float (struct_payload x) = fields_have_float x.list
payload_has_float _ = false

abbrev pub variants_have_float : List Variant → Bool
variants_have_float [] = false
variants_have_float (x ∷ xs) = (members_have_float x.notes || payload_has_float x.payload) || variants_have_float xs

abbrev pub shape_has_float : Shape → Bool
shape_has_float (struct x) = fields_have_float x.list
shape_has_float (enum tagging xs) = variants_have_float xs
shape_has_float (literal d) = has_float d
shape_has_float _ = false

abbrev pub entry_has_float : Entry → Bool
entry_has_float e = members_have_float e.notes || shape_has_float e.shape
