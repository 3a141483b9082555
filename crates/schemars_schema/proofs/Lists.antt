-- A list with one more value.
use Rattle.std.proofs.Common.{◌≡◌, ◌++◌, List, [], ◌∷◌, refl, ap}
use Rattle.schemars_schema.proofs.Words.{item, view, items_view, with_item}
use Rattle.serde_json.specs.declared.value.Value.{Value}

pub items_view-push : (xs : List Value) (x : Value) → items_view (xs ++ x ∷ []) ≡ with_item (items_view xs) (view x)
items_view-push [] x = refl
items_view-push (y ∷ ys) x = ap (item (view y)) (items_view-push ys x)
