-- A list of names without null.
use Rattle.std.proofs.Common.{◌≡◌, Some, Bool, true, false, List, [], ◌∷◌, length, not, codes, refl, ap, ◌∙◌}
use Rattle.schemars_transform.proofs.Words.{filter, if◌then◌else◌, Data, object, array, Items, item, get, members_in, replaced, view, items_view, is_null_name, without_null, one_or_list, type_without_null, null_taken_out}
use Rattle.serde_json.specs.declared.value.Value.{Value}

stays : (b : Bool) (v : Value) (vs : List Value) (ds : Items) → items_view vs ≡ ds
    → items_view (if not b then v ∷ vs else vs) ≡ (if b then ds else item (view v) ds)
stays true v vs ds e = e
stays false v vs ds e = ap (item (view v)) e

pub without_null-filter : (vs : List Value) → items_view (filter (λ v. not (is_null_name (view v))) vs) ≡ without_null (items_view vs)
without_null-filter [] = refl
without_null-filter (v ∷ vs) = stays (is_null_name (view v)) v (filter (λ w. not (is_null_name (view w))) vs) (without_null (items_view
    vs)) (without_null-filter vs)

pub not_one : (vs : List Value) → (length vs ≡ 1 → ⊥) → array (items_view vs) ≡ one_or_list (items_view vs)
not_one [] h = refl
not_one (v ∷ []) h = absurd (h refl)
not_one (v ∷ w ∷ vs) h = refl

pub type_changed : (s t u n : Data) → Some t ≡ get (codes "type") s → u ≡ type_without_null t
    → n ≡ object (replaced (codes "type") u (members_in s)) → n ≡ null_taken_out (get (codes "type") s) s
type_changed s t u n found changed is = rw (← found) (is ∙ ap (λ d. object (replaced (codes "type") d (members_in s))) changed)
