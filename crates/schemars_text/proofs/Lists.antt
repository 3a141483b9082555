-- The turns of a loop over a list.
use Rattle.std.proofs.Common.{◌≡◌, ◌+◌, ◌<◌, ◌≤◌, ℕ, zero, suc, max, List, [], ◌∷◌, length, get_or, drop, map, refl, sym, ap, ◌∙◌, add-one, arith}
use Rattle.schemars_text.proofs.Words.{Data, Items, no_items, item, depth, items_depth, view, items_view, items_of}
use Rattle.serde_json.specs.declared.value.Value.{Value}

-- the items that a list stands for, where `data_of` reads one
abbrev pub seen : {V : Type 0} → (V → Data) → List V → Items
seen data_of xs = items_of (map data_of xs)

from_first : {V : Type 0} (data_of : V → Data) (xs : List V) (i : ℕ) (x : V) → i < length xs
    → seen data_of (drop i xs) ≡ item (data_of (get_or xs i x)) (seen data_of (drop (suc i) xs))
from_first data_of [] i x h = absurd (omega arith)
from_first data_of (y ∷ xs) zero x h = refl
from_first data_of (y ∷ xs) (suc i) x h = from_first data_of xs i x (omega arith)

pub seen_from_here : {V : Type 0} (data_of : V → Data) (xs : List V) (i : ℕ) (x : V) → i < length xs → x ≡ get_or xs i x
    → seen data_of (drop i xs) ≡ item (data_of x) (seen data_of (drop (i + 1) xs))
seen_from_here data_of xs i x within is =
    rw add-one (from_first data_of xs i x within ∙ ap (λ y. item (data_of y) (seen data_of (drop (suc i) xs))) (sym is))

pub from_here : (xs : List Value) (i : ℕ) (x : Value) → i < length xs → x ≡ get_or xs i x
    → items_view (drop i xs) ≡ item (view x) (items_view (drop (i + 1) xs))
from_here = seen_from_here view

-- what is left of a list is no deeper
pub seen_shallow : {V : Type 0} (data_of : V → Data) (xs : List V) (i : ℕ) (x : V) → i < length xs
    → items_depth (seen data_of (drop (i + 1) xs)) ≤ items_depth (seen data_of (drop i xs))
seen_shallow data_of xs i x within =
    let same : items_depth (seen data_of (drop i xs)) ≡ max (depth (data_of (get_or xs i x))) (items_depth (seen data_of (drop (suc i) xs))) =
    ap items_depth (from_first data_of xs i x within) in
    rw add-one (omega arith)

pub items_shallow : (xs : List Value) (i : ℕ) (x : Value) → i < length xs
    → items_depth (items_view (drop (i + 1) xs)) ≤ items_depth (items_view (drop i xs))
items_shallow = seen_shallow view

pub nothing_left : (xs : List Value) (i : ℕ) → length xs ≤ i → items_view (drop i xs) ≡ no_items
nothing_left [] zero h = refl
nothing_left [] (suc i) h = refl
nothing_left (x ∷ xs) zero h = absurd (omega arith)
nothing_left (x ∷ xs) (suc i) h = nothing_left xs i (omega arith)
