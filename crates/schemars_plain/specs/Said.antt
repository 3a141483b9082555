-- What counts of a field in a table that is plain or not.
use Rattle.serde_json.specs.Data.{Members}
use Rattle.schemars_schema.specs.Json.{Text}
use Rattle.schemars_shapes.specs.Shape.{Field}

-- its name and its notes
abbrev pub Said : Type 0
Said = Text × Members

abbrev pub as_said : Field → Said
as_said f = (f.name, f.notes)
