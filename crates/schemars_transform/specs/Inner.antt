-- The schema of the items of a list, transformed.
use Rattle.std.specs.Prelude.{◌≡◌, Option, Some, None, codes}
use Rattle.serde_json.specs.Data.{Data, object}
use Rattle.serde_json.specs.Find.{get}
use Rattle.schemars_schema.specs.SchemaData.{members_in}
use Rattle.schemars_schema.specs.Edits.{replaced}
use Rattle.schemars_walk.specs.Walk.{TransformStep, PassedOver, AtSchema}

-- the value of `items` is transformed if it is a schema, and is put back after an error too; nothing else changes
abbrev pub AtItem : {S : Type 0} → Option Data → TransformStep S → TransformStep S
AtItem None Q s d r u e = PassedOver s d r u e
AtItem (Some i) Q s d r u e = (j : Data) × AtSchema Q s i r u j × (e ≡ object (replaced (codes "items") j (members_in d)))

abbrev pub AtItems : {S : Type 0} → TransformStep S → TransformStep S
AtItems Q s d r u e = AtItem (get (codes "items") d) Q s d r u e
