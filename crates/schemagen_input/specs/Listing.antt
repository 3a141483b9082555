-- The rows of a table while they are read: their headings as a table, and their entries, before it is known whether these refer to rows.
use Rattle.std.specs.Prelude.{◌≡◌, List, ◌++◌, true, false, Option, Some, None, map, option_and_then, codes, string_bytes, ◌∷◌, []}
use Rattle.serde_json.specs.Data.{Data, Items}
use Rattle.serde_json.specs.Find.{as_array, get}
use Rattle.serde_json.specs.View.{items_of}
use Rattle.schemagen_json.specs.Members.{has_only}
use Rattle.schemars_shapes.specs.Shape.{Entry, entry_of}
use Rattle.schemars_types.specs.Rows.{Row}
use Rattle.schemagen_shapes.specs.Forms.{needed_member, read_each, number_in}
use Rattle.schemagen_input.specs.Input.{heading_in, row_in, rows_in, unentered, ids_differ, ids_of, is_complete, table_names}
use Rattle.schemagen_shapes.specs.Shapes.{entry_in}
use Rattle.schemagen_input.specs.declared.listing.Listing.{Listing}
use Rattle.schemagen_input.specs.declared.listing.NewRow.{NewRow}
use Rattle.schemagen_input.specs.declared.table_members.TableMembers.{TableMembers}

-- the rows that the items of a list say, without their entries
abbrev pub headings_in : Items → Option (List Row)
headings_in ds = read_each heading_in ds

-- The values say rows with these headings and entries, and no two have one id.
pub record AreListed (ds : List Data) (headings : List Row) (entries : List Entry) : Type 0 where
  pub headed : headings_in (items_of ds) ≡ Some headings
  pub entered : read_each entry_in (items_of ds) ≡ Some entries
  pub differ : ids_differ (ids_of headings) ≡ true

abbrev pub IsListing : List Data → Listing → Type 0
IsListing ds l = AreListed ds l.types (map entry_of l.entries.items)

-- the values say the rows of this table
abbrev pub IsTableOf : List Data → List Row → Type 0
IsTableOf ds rows = (rows_in (items_of ds) ≡ Some rows) × (is_complete rows ≡ true)

-- they say those of none
abbrev pub IsNoTable : List Data → Type 0
IsNoTable ds = (rows : List Row) → rows_in (items_of ds) ≡ Some rows → is_complete rows ≡ false

-- whatever comes after them
abbrev pub BeginsNoTable : List Data → Type 0
BeginsNoTable ds = (more : List Data) → IsNoTable (ds ++ more)

-- what the values say so far, if a table can begin so
abbrev pub AreBegun : Option Listing → List Data → Type 0
AreBegun (Some l) ds = IsListing ds l
AreBegun None ds = BeginsNoTable ds

-- the row that a value says, without its place
abbrev pub IsRowIn : Option NewRow → Data → Type 0
IsRowIn (Some r) d = (heading_in d ≡ Some (unentered (string_bytes r.id) (string_bytes r.name))) × (entry_in d ≡ Some (entry_of r.entry))
IsRowIn None d = row_in d ≡ None

-- ---- the members of a table's object

-- what a member says that is the list of the rows
abbrev pub IsListIn : Option Listing → Option Data → Type 0
IsListIn (Some l) o = (ds : List Data) × (option_and_then as_array o ≡ Some (items_of ds)) × IsListing ds l
IsListIn None o = (ds : List Data) → option_and_then as_array o ≡ Some (items_of ds) → IsNoTable ds

-- These are the members of a value: whether there are others, the rows, and the root.
pub record AreMembersOf (f : TableMembers) (d : Data) : Type 0 where
  pub only : f.only ≡ has_only table_names d
  pub listing : IsListIn f.listing (get (codes "types") d)
  pub root : f.root ≡ needed_member number_in (codes "root") d
