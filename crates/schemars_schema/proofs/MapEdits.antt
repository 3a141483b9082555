-- What a map's `remove` and `get_mut` do to the members that it stands for.
use Rattle.std.proofs.Common.{◌≡◌, ℕ, List, [], ◌∷◌, Bool, true, false, cond, nat_cmp, string_bytes, refl, ◌∙◌}
use Rattle.schemars_schema.proofs.Words.{is_eq-slice_cmp, bytes_eq, if◌then◌else◌, Option, Some, None, OnSome, slice_cmp, remove_entry, set_value, is_at, view, members_view, Entry, without, replaced}
use Rattle.serde_json.specs.declared.value.Value.{Value}

either_members : (b c : Bool) (xs ys : List Entry) → b ≡ c → members_view (cond b xs ys) ≡ (if c then members_view xs else members_view ys)
either_members true c xs ys same = rw (← same) refl
either_members false c xs ys same = rw (← same) refl

pub members_view-remove_entry : (k : List ℕ) (es : List Entry) → members_view
    (remove_entry (is_at (λ l. slice_cmp nat_cmp k (string_bytes l))) es) ≡ without k (members_view es)
members_view-remove_entry k [] = refl
members_view-remove_entry k (e ∷ es) =
    either_members _ (bytes_eq k (string_bytes e.0)) es _ (is_eq-slice_cmp k (string_bytes e.0)) ∙ rw (members_view-remove_entry k es) refl

pub members_view-set_value : (k : List ℕ) (es : List Entry) (v : Value)
    → members_view (set_value (is_at (λ l. slice_cmp nat_cmp k (string_bytes l))) es v) ≡ replaced k (view v) (members_view es)
members_view-set_value k [] v = refl
members_view-set_value k (e ∷ es) v =
    either_members _ (bytes_eq k (string_bytes e.0)) ((e.0, v) ∷ es) _ (is_eq-slice_cmp k (string_bytes e.0))
    ∙ rw (members_view-set_value k es v) refl

pub when_some : {T P : Type 0} (r : Option T) → P → OnSome r P
when_some None p = tt
when_some (Some x) p = p

pub on_some : {X P : Type 0} (o : Option X) (x : X) → o ≡ Some x → OnSome o P → P
on_some None x is h = cc
on_some (Some y) x is h = h
