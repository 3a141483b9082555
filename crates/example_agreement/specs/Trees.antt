-- What a tree sends, and which row describes trees.
use Rattle.std.proofs.Common.{refl, ap}
use Rattle.std.specs.Prelude.{◌≡◌, ℕ, zero, suc, List, [], ◌∷◌, map, length, codes, string_bytes}
use Rattle.serde.specs.Event.{Log, Sends, text, InSeq}
use Rattle.schemars_shapes.specs.Shape as shape
use Rattle.schemars_schema.specs.Json.{Text}
use Rattle.schemars_types.specs.Rows.{Row}
use Rattle.schemars_written.specs.Gives.{Struct, Field, Done}
use Rattle.schemars_written.specs.Fits.{HasShape, HasFields, NextField, LastField}
use Rattle.example_agreement.specs.Events.{IsText}
use Rattle.example_agreement.specs.declared.tree.Tree.{Tree, Tree-F, fold-Tree}

-- a name, and the branches below it
mutual
  pub data Branch : Type 0 where
    branch : Text → Branches → Branch

  pub data Branches : Type 0 where
    no_branches : Branches
    and_branch : Branch → Branches → Branches

abbrev pub branches_of : List Branch → Branches
branches_of [] = no_branches
branches_of (b ∷ bs) = and_branch b (branches_of bs)

-- one level, with each tree below it already seen as its branch
abbrev pub view_step : Tree-F Branch → Branch
view_step t = branch (string_bytes t.name) (branches_of t.children.items)

abbrev pub tree_view : Tree → Branch
tree_view = fold-Tree Branch view_step

abbrev pub count : Branches → ℕ
count no_branches = zero
count (and_branch b bs) = suc (count bs)

pub count_all : (ts : List Tree) → count (branches_of (map tree_view ts)) ≡ length ts
count_all [] = refl
count_all (t ∷ ts) = ap suc (count_all ts)

-- a map with the name, and the list of what the branches below send
abbrev mutual
  pub SendsBranch : Branch → Log → Log → Type 0
  SendsBranch (branch name bs) old new = Struct 2
      (Field (codes "name") (Sends (text name)) (Field (codes "children") (InSeq (count bs) (λ a b. SendsBranches bs a b)) Done)) old new

  pub SendsBranches : Branches → Log → Log → Type 0
  SendsBranches no_branches old new = new ≡ old
  SendsBranches (and_branch b bs) old new = (mid : Log) × SendsBranch b old mid × SendsBranches bs mid new

abbrev pub ChildrenField : List Row → ℕ → List shape.Field → Type 0
ChildrenField rows n = NextField (codes "children") (λ m. HasShape rows m (shape.seq n)) LastField

-- a struct with a name, and with a list of what the row itself describes
abbrev pub IsTreeRow : List Row → ℕ → Type 0
IsTreeRow rows n = HasFields rows n (NextField (codes "name") (IsText rows) (ChildrenField rows n))
