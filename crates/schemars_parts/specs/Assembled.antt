-- The JSON value that a schema in parts stands for.
use Rattle.std.specs.Prelude.{List, [], ◌∷◌, map, Option, Some, None, codes}
use Rattle.std.specs.Borrow.{Bor}
use Rattle.serde_json.specs.Data.{Data, null, boolean, number, string, array, object, Items, Members, no_members, member}
use Rattle.serde_json.specs.Find.{of_integer}
use Rattle.serde_json.specs.View.{view, items_of}
use Rattle.schemars_text.specs.Text.{Text}
use Rattle.schemars_parts.specs.declared.assembled.Assembled.{Assembled, Assembled-F, fold-Assembled}
use Rattle.schemars_parts.specs.declared.assembled.Assembled.TheOpen as part

abbrev pub members_of : List (Bor Text × Data) → Members
members_of [] = no_members
members_of (e ∷ es) = member e.0.now e.1 (members_of es)

abbrev pub reference_to : Text → Data
reference_to target = object (member (codes "$ref") (string target) no_members)

abbrev pub assembled_step : Assembled-F Data → Data
assembled_step (part.Value v) = view v.now
assembled_step part.Null = null
assembled_step (part.Bool b) = boolean b
assembled_step (part.Integer n) = number (of_integer n)
assembled_step (part.Text t) = string t.now
assembled_step (part.Reference t) = reference_to t.now
assembled_step (part.List ds) = array (items_of ds.items)
assembled_step (part.Object m) = object (members_of m.items)

abbrev pub assembled_view : Assembled → Data
assembled_view = fold-Assembled Data assembled_step

abbrev pub items_assembled : List Assembled → Items
items_assembled ps = items_of (map assembled_view ps)

abbrev pub members_assembled : List (Bor Text × Assembled) → Members
members_assembled es = members_of (map (λ e. (e.0, assembled_view e.1)) es)

-- a member's name, and what its part stands for
abbrev pub named_view : Bor Text × Assembled → Text × Data
named_view e = (e.0.now, assembled_view e.1)

-- what is there, or d
abbrev pub there_or : Data → Option Data → Data
there_or d None = d
there_or d (Some e) = e
