-- What a schema is among JSON data (JSON Schema core, section 4.3), and its edits.
use Rattle.std.specs.Prelude.{Bool, true, false, List, [], ◌∷◌, codes}
use Rattle.serde_json.specs.Data.{Data, null, boolean, number, string, array, object, Members, no_members, member, put}
use Rattle.schemars_schema.specs.Json.{Text}

-- an object or a truth value
abbrev pub IsSchema : Data → Type 0
IsSchema null = ⊥
IsSchema (boolean b) = Unit {0}
IsSchema (number n) = ⊥
IsSchema (string s) = ⊥
IsSchema (array ds) = ⊥
IsSchema (object ms) = Unit {0}

abbrev pub is_schema : Data → Bool
is_schema null = false
is_schema (boolean b) = true
is_schema (number n) = false
is_schema (string s) = false
is_schema (array ds) = false
is_schema (object ms) = true

-- its members once it is an object: `true` becomes `{}`, and `false` becomes `{"not":{}}`
abbrev pub members_in : Data → Members
members_in null = no_members
members_in (boolean true) = no_members
members_in (boolean false) = member (codes "not") (object no_members) no_members
members_in (number n) = no_members
members_in (string s) = no_members
members_in (array ds) = no_members
members_in (object ms) = ms

-- made an object, with d at k
abbrev pub inserted : Text → Data → Data → Data
inserted k d s = object (put k d (members_in s))

-- the members with these put in, one after another
abbrev pub put_all : List (Text × Data) → Members → Members
put_all [] ms = ms
put_all (e ∷ es) ms = put_all es (put e.0 e.1 ms)

abbrev pub put_members : Members → Members → Members
put_members no_members ms = ms
put_members (member k d new) ms = put_members new (put k d ms)

-- an object of these members
abbrev pub object_of : List (Text × Data) → Data
object_of es = object (put_all es no_members)
