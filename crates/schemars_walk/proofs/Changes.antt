-- A rewrite that does the same at every schema needs to know nothing but the change.
use Rattle.std.proofs.Common.{◌≡◌, refl, ap}
use Rattle.serde_json.specs.Data.{Data, array, object, Items, no_items, item, Members, no_members, member}
use Rattle.schemars_walk.specs.Rewritten.{Forms, Rules, everywhere, all_changed, rewritten, forms, in_items, in_names, in_keywords}

module _ {R : Type 0} (f : R → Data → Data) (r : R) where
  abbrev here : Rules R
  here = everywhere f

  abbrev alone : Rules (Unit {0})
  alone = everywhere (λ u s. f r s)

  mutual
    unfolding forms in_items in_names in_keywords

    same_forms : (d : Data) → forms here r d ≡ forms alone tt d
    same_forms (array ds) = rw (same_items ds) refl
    same_forms (object ms) = rw (same_keywords ms, same_names ms) refl
    same_forms _ = refl

    same_items : (ds : Items) → in_items here r ds ≡ in_items alone tt ds
    same_items no_items = refl
    same_items (item d ds) = rw (same_forms d, same_items ds) refl

    same_names : (ms : Members) → in_names here r ms ≡ in_names alone tt ms
    same_names no_members = refl
    same_names (member k d ms) = rw (same_forms d, same_names ms) refl

    same_keywords : (ms : Members) → in_keywords here r ms ≡ in_keywords alone tt ms
    same_keywords no_members = refl
    same_keywords (member k d ms) = rw (same_forms d, same_keywords ms) refl

  pub same_everywhere : (d : Data) → rewritten here r d ≡ all_changed (f r) d
  same_everywhere d = ap (λ (e : Forms). e.as_schema) (same_forms d)
