-- Finished documents: of one JSON type, with notes, by reference, and at the root.
use Rattle.std.specs.Prelude.{[], ◌∷◌, Option, Some, None, is_some, if◌then◌else◌, codes}
use Rattle.serde_json.specs.Data.{Data, string, object, Members, no_members, member, put}
use Rattle.serde_json.specs.Find.{get_member}
use Rattle.schemars_schema.specs.Json.{Text}
use Rattle.schemars_schema.specs.SchemaData.{members_in, object_of, put_members}

abbrev pub Keyword : Type 0
Keyword = Text × Data

abbrev pub typed : Text → Keyword
typed name = (codes "type", string name)

abbrev pub type_alone : Text → Data
type_alone name = object_of (typed name ∷ [])

-- ---- with notes

-- a schema with notes is an object
abbrev pub annotated : Members → Data → Data
annotated no_members s = s
annotated (member k d notes) s = object (put_members (member k d notes) (members_in s))

abbrev pub title_alone : Text → Members
title_alone name = member (codes "title") (string name) no_members

-- ---- by reference

abbrev pub reference : Text → Data
reference name = object_of ((codes "$ref", string name) ∷ [])

-- ---- a root document

abbrev pub with_title : Text → Members → Members
with_title name ms = if is_some (get_member (codes "title") ms) then ms else put (codes "title") (string name) ms

abbrev pub with_meta_schema : Option Text → Members → Members
with_meta_schema None ms = ms
with_meta_schema (Some uri) ms = put (codes "$schema") (string uri) ms

-- a document made an object, with the type's name as its title where it has none, and the meta-schema where there is one
abbrev pub root_document : Text → Option Text → Data → Data
root_document name meta_schema s = object (with_meta_schema meta_schema (with_title name (members_in s)))
