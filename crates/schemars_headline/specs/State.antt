-- What settings say, and what a generator holds, as callers see them.
use Rattle.std.specs.Prelude.{◌≡◌, Contains, ℕ, ◌==◌, List, [], ◌∷◌, Bool, false, Option, Some, None, codes, if◌then◌else◌}
use Rattle.serde_json.specs.Data.{Data, string, Members}
use Rattle.serde_json.specs.Find.{get_member}
use Rattle.schemars_schema.specs.References.{references}
use Rattle.schemars_schema.specs.Json.{Text}
use Rattle.schemars_types.specs.Rows.{Row}
use Rattle.schemars_types.specs.declared.contract.Contract.{Contract}
use Rattle.schemars_types.specs.declared.contract.Contract.TheVariants.{Deserialize}
use Rattle.schemars_build.specs.Naming.{Naming}
use Rattle.schemars_build.specs.Registry.{Plan, Registry, idle_registry, IsKey, AreDefinitions, reference_to}

pub record Settings : Type 0 where
  pub definitions_path : Text
  pub meta_schema : Option Text
  pub contract : Contract
  -- whether the variants of an untagged enum have their names as titles
  pub titles : Bool
  -- whether rows are written in place wherever they are not pending
  pub inlines : Bool

abbrev pub settings2020_12 : Settings
settings2020_12 = record {
  definitions_path = codes "/$defs";
  meta_schema = Some (codes "https://json-schema.org/draft/2020-12/schema");
  contract = Deserialize;
  titles = false;
  inlines = false;
}

pub record State : Type 0 where
  pub settings : Settings
  pub rows : List Row
  pub names : Naming
  pub definitions : Members

-- ---- where definitions are

-- without one `#` in front
abbrev pub without_hash : Text → Text
without_hash [] = []
without_hash (x ∷ rest) = if x == 35 then rest else x ∷ rest

-- without one `/` behind
abbrev pub without_slash : Text → Text
without_slash [] = []
without_slash (x ∷ []) = if x == 47 then [] else x ∷ []
without_slash (x ∷ y ∷ rest) = x ∷ without_slash (y ∷ rest)

abbrev pub stripped : Text → Text
stripped path = without_slash (without_hash path)

-- where the definitions of a generator are
abbrev pub path_of : State → Text
path_of s = stripped s.settings.definitions_path

-- ---- between calls

abbrev pub registry_of : State → Registry
registry_of s = idle_registry s.names s.definitions

abbrev pub state_plan : State → Option ℕ → Plan
state_plan s root = record {
  rows = s.rows;
  contract = s.settings.contract;
  titles = s.settings.titles;
  inlines = s.settings.inlines;
  path = path_of s;
  root = root;
}

-- each definition is the document of the row of its name, with references to other definitions alone: so it is where
-- the caller changed none
abbrev pub HasOwnDefinitions : State → Type 0
HasOwnDefinitions s = AreDefinitions (state_plan s None) (registry_of s)

-- each reference in a definition names a key of the definitions
abbrev pub ReferencesNameKeys : State → Type 0
ReferencesNameKeys s =
    (k : Text) (d r : Data) → get_member k s.definitions ≡ Some d → Contains (references d) r
    → (name : Text) × IsKey name s.definitions × (r ≡ string (reference_to (path_of s) name))

-- what is there after a root call: where a new definition refers to the root document, which `#` means, none of the new ones stays
abbrev pub after_root : State → Registry → State
after_root old w = record old { names = w.names; definitions = if w.has_root_reference then old.definitions else w.definitions }
