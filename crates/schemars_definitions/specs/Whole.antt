-- A document with its definitions, as they are written.
use Rattle.serde_json.specs.Data.{Data, object, Members, no_members, member, put}
use Rattle.schemars_schema.specs.Edits.{replaced}
use Rattle.schemars_schema.specs.Json.{Text}
use Rattle.schemars_schema.specs.SchemaData.{members_in}

-- what is made of each definition
abbrev pub each_made : (Data → Data) → Members → Members
each_made made no_members = no_members
each_made made (member k d ms) = member k (made d) (each_made made ms)

-- an object with these definitions at a key, if there are any
abbrev pub with_defs_at : Text → Members → Data → Data
with_defs_at key no_members own = own
with_defs_at key (member k d ms) own = object (put key (object (member k d ms)) (members_in own))

-- the object with these schemas by name in the place of what is at a key
abbrev pub with_names : Text → Members → Data → Data
with_names key ms own = object (replaced key (object ms) (members_in own))
