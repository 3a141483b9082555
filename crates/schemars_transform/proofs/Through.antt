-- Two rewrites whose rules say the same, where one knows more than it needs.
use Rattle.std.proofs.Common.{◌≡◌, refl, ap}
use Rattle.schemars_transform.proofs.Words.{Data, boolean, array, object, Items, no_items, item, Members, no_members, member, Text, Forms, Rules, rewritten, forms, in_items, in_names, in_keywords}

module _ {R S : Type 0} (ρ : Rules R) (σ : Rules S) (f : R → S) (inside : (r : R) (d : Data) → σ.inside (f r) d ≡ f (ρ.inside r d))
    (place : (r : R) (k : Text) (d : Data) → σ.place (f r) k d ≡ ρ.place r k d) (finish : (r : R) (d : Data)
    → σ.finish (f r) d ≡ ρ.finish r d) where
  mutual
    unfolding forms in_items in_names in_keywords

    same_forms : (d : Data) (r : R) → forms σ (f r) d ≡ forms ρ r d
    same_forms (boolean b) r = rw (inside r (boolean b), finish (ρ.inside r (boolean b)) (boolean b)) refl
    same_forms (array ds) r = rw (same_items ds r) refl
    same_forms (object ms) r =
        rw (
          inside r (object ms),
          same_keywords ms (ρ.inside r (object ms)),
          finish (ρ.inside r (object ms)) (object (in_keywords ρ
              (ρ.inside r (object ms)) ms)),
          same_names ms r,
        ) refl
    same_forms _ r = refl

    same_items : (ds : Items) (r : R) → in_items σ (f r) ds ≡ in_items ρ r ds
    same_items no_items r = refl
    same_items (item d ds) r = rw (same_forms d r, same_items ds r) refl

    same_names : (ms : Members) (r : R) → in_names σ (f r) ms ≡ in_names ρ r ms
    same_names no_members r = refl
    same_names (member k d ms) r = rw (same_forms d r, same_names ms r) refl

    same_keywords : (ms : Members) (r : R) → in_keywords σ (f r) ms ≡ in_keywords ρ r ms
    same_keywords no_members r = refl
    same_keywords (member k d ms) r = rw (place r k d, same_forms d r, same_keywords ms r) refl

  pub same_rewritten : (d : Data) (r : R) → rewritten σ (f r) d ≡ rewritten ρ r d
  same_rewritten d r = ap (λ (e : Forms). e.as_schema) (same_forms d r)
