-- The options of a row, and the edges that lead from it, by the shape that the program finds there.
use Rattle.std.proofs.Common.{◌≡◌, ◌∙◌, ℕ, List, Some, Contains, ap, sym, subst}
use Rattle.schemars_shapes.specs.declared.shape.Shape as src-shape
use Rattle.schemars_shapes.specs.declared.shape.TypeEntry as src-entry
use Rattle.schemars_types.proofs.Words.{entry_of, shape_of, same_value_numbers, Row, entry_at, SameValueEdge, IsChecked, all_options, or_any_text, shape_options, options_at}
use Rattle.schemars_types.proofs.Asked.{asked}
use Rattle.schemars_types.proofs.Settling.{all_options-shape}

pub of_shape : (rows : List Row) → IsChecked rows → (n : ℕ) (e : src-entry.TypeEntry) → Some (entry_of e) ≡ entry_at rows n
    → (s : src-shape.Shape) → e.shape ≡ s → all_options rows n ≡ shape_options (all_options rows) (shape_of s)
of_shape rows checked n e at s is =
    all_options-shape rows checked n (entry_of e) (sym at) ∙ ap (λ x. shape_options (all_options rows) (shape_of x)) is

pub found_at : (rows : List Row) → IsChecked rows → (n : ℕ) (e : src-entry.TypeEntry) → Some (entry_of e) ≡ entry_at rows n
    → (s : src-shape.Shape) → e.shape ≡ s → options_at rows n ≡ or_any_text (shape_options (all_options rows) (shape_of s))
found_at rows checked n e at s is = ap or_any_text (of_shape rows checked n e at s is)

pub edge_of_shape : (rows : List Row) → IsChecked rows → (n : ℕ) (e : src-entry.TypeEntry) → Some (entry_of e) ≡ entry_at rows n
    → (s : src-shape.Shape) → e.shape ≡ s → (m : ℕ) → Contains (same_value_numbers (shape_of s)) m → SameValueEdge rows n m
edge_of_shape rows checked n e at s is m c =
    asked rows checked.within n (entry_of e) (sym at) m
    (subst (λ x. Contains (same_value_numbers (shape_of x)) m) (sym is) c)
