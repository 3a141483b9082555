-- What documents are made into: names for rows, and definitions under these names.
use Rattle.std.specs.Prelude.{◌≡◌, ◌≢◌, ◌<◌, length, ◌⊎◌, ◌++◌, ◌||◌, ◌-◌, ℕ, List, [], ◌∷◌, take, Bool, true, false, Option, Some, None, codes, Contains}
use Rattle.std.specs.Str.{IsUtf8}
use Rattle.serde_json.specs.Data.{Data, Members}
use Rattle.serde_json.specs.Find.{get_member}
use Rattle.schemars_schema.specs.Json.{Text}
use Rattle.schemars_schema.specs.Edits.{without}
use Rattle.schemars_schema.specs.Encoding.{encoded}
use Rattle.schemars_types.specs.Rows.{Row, name_at}
use Rattle.schemars_types.specs.Edges.{is_inline_at}
use Rattle.schemars_types.specs.declared.contract.Contract.{Contract}
use Rattle.schemars_build.specs.Naming.{NamedRow, Naming, IsFirstUnused}
pub use Rattle.schemars_build.specs.Naming.{name_of, IsOneToOne}
use Rattle.schemars_documents.specs.Basis.{Basis}
use Rattle.schemars_build.specs.Placed.{IsDocument}

-- what stays the same during a call: the table, the contract, whether the variants of untagged enums have titles,
-- whether rows are inlined, where the definitions are, and the row whose root document is made
pub record Plan : Type 0 where
  pub rows : List Row
  pub contract : Contract
  pub titles : Bool
  pub inlines : Bool
  pub path : Text
  pub root : Option ℕ

pub record Registry : Type 0 where
  pub names : Naming
  pub definitions : Members
  -- the keys that the running call added, and how many names there were before it
  pub begun : List Text
  pub kept : ℕ
  -- whether a definition that the running call added refers to the root
  pub has_root_reference : Bool
  -- the rows whose documents are being made, where rows are inlined
  pub pending : List ℕ

-- between calls, with these names and definitions
abbrev pub idle_registry : Naming → Members → Registry
idle_registry names definitions = record {
  names = names;
  definitions = definitions;
  begun = [];
  kept = length names;
  has_root_reference = false;
  pending = [];
}

-- ---- references

abbrev pub IsKey : Text → Members → Type 0
IsKey k ms = (d : Data) × (get_member k ms ≡ Some d)

-- the reference of the definition of this name
abbrev pub reference_to : Text → Text → Text
reference_to path name = 35 ∷ (path ++ 47 ∷ encoded name)

-- row n is in the table, and is not written in place
abbrev pub StandsApart : List Row → ℕ → Type 0
StandsApart rows n = (n < length rows) × (is_inline_at rows n ≡ false)

-- a row that is not written in place: the root by `#` alone, where that is free or has been met; another by the name
-- of its definition
abbrev pub Refers : Plan → Bool → Registry → ℕ → Text → Type 0
Refers plan free w n r =
    ((plan.root ≡ Some n) × (free || w.has_root_reference ≡ true) × (r ≡ codes "#") × StandsApart plan.rows n)
    ⊎ ((name : Text) × (name_of n plan.contract w.names ≡ Some name) × IsKey name w.definitions × (r ≡ reference_to plan.path name)
    × StandsApart plan.rows n
    × (plan.root ≢ Some n))

-- ---- definitions

-- what the documents are made from
abbrev pub basis_of_plan : Plan → Basis
basis_of_plan plan = record { rows = plan.rows; contract = plan.contract; titles = plan.titles }

-- d is the document of the row of this name, made while some rows were pending
pub record IsDefinition (plan : Plan) (w : Registry) (name : Text) (d : Data) : Type 0 where
  pub row : ℕ
  pub is_named : name_of row plan.contract w.names ≡ Some name
  pub is_text : IsUtf8 name
  pub pending : List ℕ
  pub document : IsDocument (basis_of_plan plan) plan.inlines (Refers plan false w) pending row d

abbrev pub AreDefinitions : Plan → Registry → Type 0
AreDefinitions plan w = (name : Text) (d : Data) → get_member name w.definitions ≡ Some d → IsDefinition plan w name d

-- ---- what a part of a call adds

-- a row without a name gets the first of its candidates that is not used
pub record IsGiven (rows : List Row) (names : Naming) (x : NamedRow) : Type 0 where
  pub is_new : name_of x.row x.contract names ≡ None
  pub is_first : IsFirstUnused names (name_at rows x.row) x.name

abbrev pub AreGiven : List Row → Naming → List NamedRow → Type 0
AreGiven rows names [] = Unit {0}
AreGiven rows names (x ∷ more) = IsGiven rows names x × AreGiven rows (names ++ x ∷ []) more

-- names are added to those that are there
pub record GivesNames (rows : List Row) (old new : Naming) : Type 0 where
  pub more : List NamedRow
  pub joined : new ≡ old ++ more
  pub given : AreGiven rows old more

-- d is added as a definition, which was made while these rows were pending, and perhaps more
pub record IsAdded (plan : Plan) (outer : List ℕ) (w : Registry) (name : Text) (d : Data) : Type 0 where
  pub definition : IsDefinition plan w name d
  pub more : List ℕ
  pub within : definition.pending ≡ outer ++ more

-- names and definitions are added, those that are there stay, and the same rows are pending
pub record Step (plan : Plan) (old new : Registry) : Type 0 where
  pub names : GivesNames plan.rows old.names new.names
  pub stays : (k : Text) (d : Data) → get_member k old.definitions ≡ Some d → get_member k new.definitions ≡ Some d
  pub adds : (k : Text) (d : Data) → get_member k old.definitions ≡ None → get_member k new.definitions ≡ Some d
      → IsAdded plan old.pending new k d
  pub still_begun : (k : Text) → Contains old.begun k → Contains new.begun k
  pub still_meets : old.has_root_reference ≡ true → new.has_root_reference ≡ true
  pub still_pending : new.pending ≡ old.pending

-- ---- taking it back

-- the members without these, the last of them first
abbrev pub without_all : List Text → Members → Members
without_all [] ms = ms
without_all (k ∷ ks) ms = without k (without_all ks ms)

-- what was there before the running call
abbrev pub rolled_back : Registry → Registry
rolled_back w = record {
  names = take w.kept w.names;
  definitions = without_all w.begun w.definitions;
  begun = [];
  kept = w.kept;
  has_root_reference = false;
  pending = [];
}

-- a list without its last item
abbrev pub without_last : List ℕ → List ℕ
without_last ns = take (length ns - 1) ns
