-- Schemas that let further members of an object in.
use Rattle.std.specs.Prelude.{◌||◌, Bool, false, not, Option, Some, None, if◌then◌else◌, option_and_then, codes}
use Rattle.serde_json.specs.Data.{Data, null, boolean, number, string, array, object, Items, no_items, item, Members, no_members, member}
use Rattle.serde_json.specs.Find.{get, as_object, as_str}
use Rattle.schemars_schema.specs.Json.{Text}
use Rattle.schemars_text.specs.OrderedText.{is_listed}
use Rattle.schemars_schema.specs.Edits.{removed, is_text}
use Rattle.schemars_schema.specs.References.{Place, NoSchemas, OneSchema, SchemaList, with_same_object, with_same_objects}
use Rattle.schemars_walk.specs.Rewritten.{Rules, rewritten, with_subschemas}
use Rattle.schemars_flatten.specs.declared.part.opening.Level.{Level}
use Rattle.schemars_flatten.specs.declared.part.opening.Level.TheVariants.{Around, Top, Below}

-- `false`, and nothing else
abbrev pub is_false : Option Data → Bool
is_false None = false
is_false (Some null) = false
is_false (Some (boolean b)) = not b
is_false (Some (number n)) = false
is_false (Some (string s)) = false
is_false (Some (array ds)) = false
is_false (Some (object ms)) = false

-- a keyword lets no further members in
abbrev pub closes_by : Text → Data → Bool
closes_by k s = is_false (get k s)

abbrev pub closes : Data → Bool
closes s = closes_by (codes "additionalProperties") s || closes_by (codes "unevaluatedProperties") s

-- the keyword is removed if it lets no further members in
abbrev pub opened_at : Text → Data → Data
opened_at k s = if closes_by k s then removed k s else s

-- one schema
abbrev pub opened_here : Data → Data
opened_here s = opened_at (codes "unevaluatedProperties") (opened_at (codes "additionalProperties") s)

-- ---- a schema and those inside it

-- the keywords with schemas that judge the same object
abbrev pub same_object_place : Text → Place
same_object_place k =
    if is_listed k with_same_object then OneSchema
    else if is_listed k with_same_objects then SchemaList
    else NoSchemas

-- the same in every schema
abbrev pub opening : Rules (Unit {0})
opening = record { inside = λ r s. r; place = λ r k d. same_object_place k; finish = λ r s. opened_here s }

-- a schema and those inside it that judge the same object
abbrev pub opened : Data → Data
opened s = rewritten opening tt s

-- those inside it alone
abbrev pub opened_inside : Data → Data
opened_inside s = with_subschemas opening tt s

-- the same by how far inside a schema lies
abbrev pub level_inside : Level → Level
level_inside Around = Top
level_inside Top = Below
level_inside Below = Below

abbrev pub opened_by : Level → Data → Data
opened_by Around s = s
opened_by Top s = s
opened_by Below s = opened_here s

abbrev pub opening_by_level : Rules Level
opening_by_level = record {
  inside = λ level s. level_inside level;
  place = λ level k d. same_object_place k;
  finish = opened_by;
}

-- ---- whether opening takes something out

-- whether the value lets no further members in, read as a schema and as a list of schemas
pub record Closed : Type 0 where
  pub in_schema : Bool
  pub in_list : Bool

abbrev pub nothing_closed : Closed
nothing_closed = record { in_schema = false; in_list = false }

abbrev pub closed_at : Text → Closed → Bool
closed_at k c =
    if is_listed k with_same_object then c.in_schema
    else if is_listed k with_same_objects then c.in_list
    else false

unfoldable mutual
  pub closed_in : Data → Closed
  closed_in null = nothing_closed
  closed_in (boolean b) = nothing_closed
  closed_in (number n) = nothing_closed
  closed_in (string s) = nothing_closed
  closed_in (array ds) = record { in_schema = false; in_list = closed_in_items ds }
  closed_in (object ms) = record { in_schema = closes (object ms) || closed_in_keywords ms; in_list = false }

  pub closed_in_items : Items → Bool
  closed_in_items no_items = false
  closed_in_items (item d ds) = (closed_in d).in_schema || closed_in_items ds

  pub closed_in_keywords : Members → Bool
  closed_in_keywords no_members = false
  closed_in_keywords (member k d ms) = closed_at k (closed_in d) || closed_in_keywords ms

-- some schema inside that judges the same object lets no further members in
abbrev pub closes_inside : Data → Bool
closes_inside s = elim (as_object s) [ None ↦ false | Some ms ↦ closed_in_keywords ms ]

-- ---- the content of a variant that is tagged by a member of its object

-- its type is this one alone
abbrev pub has_type : Text → Data → Bool
has_type t s = is_text t (option_and_then as_str (get (codes "type") s))

-- its document is in place: a reference would not let the tag in
abbrev pub must_be_in_place : Bool → Data → Bool
must_be_in_place inline s = inline || (has_type (codes "null") s || (closes s || closes_inside s))
