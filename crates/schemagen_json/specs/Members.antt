-- The names of an object's members.
use Rattle.std.specs.Prelude.{List, Bool, true, false, ◌&&◌, Option, Some, None}
use Rattle.std.specs.Option.{option_map_or}
use Rattle.serde_json.specs.Data.{Data, Members, no_members, member}
use Rattle.serde_json.specs.Find.{as_object}
use Rattle.schemars_schema.specs.Json.{Text}
use Rattle.schemars_text.specs.OrderedText.{is_listed}

abbrev pub are_listed : List Text → Members → Bool
are_listed names no_members = true
are_listed names (member k d ms) = is_listed k names && are_listed names ms

-- an object whose members all have one of these names
abbrev pub has_only : List Text → Data → Bool
has_only names d = option_map_or (are_listed names) (as_object d) false

-- the name and the value of the only member of an object
abbrev pub lone_in : Members → Option (Text × Data)
lone_in no_members = None
lone_in (member k d no_members) = Some (k, d)
lone_in (member k d (member l e ms)) = None
