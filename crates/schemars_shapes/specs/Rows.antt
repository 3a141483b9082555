-- The rows of a shape, of its fields and of its variants, by the kind of request.
use Rattle.std.specs.Prelude.{ℕ, List}
use Rattle.schemars_shapes.specs.Shape.{Fields, Payload, Shape, fields_numbers, flattened_rows, payload_numbers, payload_flattened, payload_same, numbers_of, same_value_numbers, flattened_numbers, asked_numbers}
use Rattle.schemars_shapes.specs.declared.edges.rows.Rows.{Rows}
use Rattle.schemars_shapes.specs.declared.edges.rows.Rows.TheVariants.{All, Flattened, Same, Asked}

abbrev pub rows_of : Rows → Shape → List ℕ
rows_of All s = numbers_of s
rows_of Flattened s = flattened_numbers s
rows_of Same s = same_value_numbers s
rows_of Asked s = asked_numbers s

abbrev pub field_rows : Rows → Fields → List ℕ
field_rows All x = fields_numbers x
field_rows Flattened x = flattened_rows x
field_rows Same x = flattened_rows x
field_rows Asked x = flattened_rows x

-- of what a variant has, where its name is not written
abbrev pub payload_rows : Rows → Payload → List ℕ
payload_rows All p = payload_numbers p
payload_rows Flattened p = payload_flattened p
payload_rows Same p = payload_same p
payload_rows Asked p = payload_flattened p

-- what is listed of it where its members are beside a tag: all of these are in the shape's own maps
abbrev pub beside_tag : Rows → Rows
beside_tag All = All
beside_tag Flattened = Flattened
beside_tag Same = Same
beside_tag Asked = Same

-- and where it is under a key: its value is not the shape's
abbrev pub under_key : Rows → Rows
under_key All = All
under_key Flattened = Flattened
under_key Same = Flattened
under_key Asked = Flattened
