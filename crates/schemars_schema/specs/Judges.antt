-- What a schema says of a value, and the value of a keyword as it is read.
-- This file is trusted: the theorem is stated in its words.
use Rattle.std.specs.Prelude.{ℕ, ◌&&◌, ◌||◌, List, [], ◌∷◌, Bool, true, false, if◌then◌else◌, Option, Some, None, bytes_eq}
use Rattle.serde_json.specs.Data.{Data, Members, no_members, member}
use Rattle.schemars_schema.specs.Verdict.{Verdict, Yes, both}
use Rattle.schemars_schema.specs.Json.{Text}
use Rattle.schemars_schema.specs.Dialects.{Dialect}

-- a reading of patterns: the pairs of a pattern and a text that matches it
abbrev pub Patterns : Type 0
Patterns = List (Text × Text)

abbrev pub matches : Patterns → Text → Text → Bool
matches [] pattern text = false
matches (p ∷ ps) pattern text = (bytes_eq p.0 pattern && bytes_eq p.1 text) || matches ps pattern text

-- ---- what a schema says

abbrev pub Test : Type 0
Test = Data → Verdict

-- a part of a value: a member of an object by its key, or an item of a list by its position, from 0 on
pub data Part : Type 0 where
  key : Text → Part
  position : ℕ → Part

-- whether a value fits, and which of the value's parts have been judged
pub record Judge : Type 0 where
  pub fits : Test
  pub judges : Data → Part → Bool

-- the value of a keyword, read in each way: a schema, a list of schemas, schemas by name, and those of an object's members
-- that are schemas
pub record Reading : Type 0 where
  pub schema : Option Judge
  pub listed : Option (List Judge)
  pub named : Option (List (Text × Judge))
  pub among : List (Text × Judge)

-- what all schemas of a document share; `follow` is what a reference leads to
pub record Context : Type 0 where
  pub dialect : Dialect
  pub patterns : Patterns
  pub follow : Text → Judge

-- the value of each keyword of an object: as it is, and read
abbrev pub Raw : Type 0
Raw = Text → Option Data

abbrev pub Readings : Type 0
Readings = Text → Option Reading

-- a keyword says nothing if it is missing, if the value is of another kind, or if its form is wrong
abbrev pub where_some : {A : Type 0} → Option A → (A → Verdict) → Verdict
where_some None f = Yes
where_some (Some a) f = f a

abbrev pub when : {A : Type 0} → Bool → A → Option A
when true a = Some a
when false a = None

-- a keyword that only some drafts read
abbrev pub where_read : {A : Type 0} → Bool → Option A → (A → Verdict) → Verdict
where_read reads None f = Yes
where_read reads (Some a) f = if reads then f a else Yes

abbrev pub each_member : (Text → Data → Verdict) → Members → Verdict
each_member says no_members = Yes
each_member says (member k w ms) = both (says k w) (each_member says ms)
