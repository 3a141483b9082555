-- What a tree sends belongs to the row of trees.
use Rattle.std.proofs.Common.{ℕ, List}
use Rattle.std.specs.Prelude.{codes, ⊤}
use Rattle.serde.specs.Event.{Sends, text, InSeq}
use Rattle.schemars_shapes.specs.Shape as shape
use Rattle.schemars_types.specs.Rows.{Row}
use Rattle.schemars_types.specs.Faults.{IsChecked}
use Rattle.schemars_written.specs.Gives.{Gives, GivesItems, Field, Done, Each, IsArray}
use Rattle.schemars_written.specs.Fits.{Means, HasShape, LastField}
use Rattle.schemars_written.proofs.Atoms.{weaker, text_agrees}
use Rattle.schemars_written.proofs.Lists.{no_items_give, then_give, in_seq_gives, seq_means}
use Rattle.schemars_written.proofs.Laws.{next_field, last_field, struct_law}
use Rattle.example_agreement.specs.Events.{IsText}
use Rattle.example_agreement.specs.Trees.{Branch, branch, Branches, no_branches, and_branch, count, SendsBranch, SendsBranches, tree_view, ChildrenField, IsTreeRow}
use Rattle.example_agreement.specs.declared.tree.Tree.{Tree}

mutual
  branch_law : (rows : List Row) → IsChecked rows → (n : ℕ) → IsTreeRow rows n → (b : Branch) → Gives (SendsBranch b) (Means rows n)
  branch_law rows checked n row (branch name bs) =
      let below = InSeq (count bs) (λ a b. SendsBranches bs a b) in
      let many = Each (Means rows n) (count bs) in
      let items = branches_law rows checked n row bs in
      struct_law rows checked n 2 _ _ row
      (next_field rows (codes "name") (IsText rows) (ChildrenField rows n) (Sends (text name)) (Field (codes "children") below Done)
      (λ m r. text_agrees rows m name r)
      (next_field rows (codes "children") (λ m. HasShape rows m (shape.seq n)) LastField below Done
      (λ m r. weaker below (IsArray many) (Means rows m) (seq_means rows checked m n (count bs) r)
      (in_seq_gives (count bs) (λ a b. SendsBranches bs a b) many items))
      (last_field rows)))

  branches_law : (rows : List Row) → IsChecked rows → (n : ℕ) → IsTreeRow rows n → (bs : Branches)
      → GivesItems (SendsBranches bs) (Each (Means rows n) (count bs))
  branches_law rows checked n row no_branches = no_items_give
  branches_law rows checked n row (and_branch b bs) =
      then_give (SendsBranch b) (SendsBranches bs) (Means rows n) (Each (Means rows n) (count bs)) (branch_law rows checked n row b)
      (branches_law rows checked n row bs)

pub tree_law : (rows : List Row) (n : ℕ) (t : Tree) → IsChecked rows → IsTreeRow rows n → ⊤
    → Gives (SendsBranch (tree_view t)) (Means rows n)
tree_law rows n t checked row valid = branch_law rows checked n row (tree_view t)
