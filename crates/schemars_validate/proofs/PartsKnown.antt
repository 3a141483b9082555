-- What is known of an item, or of a member.
use Rattle.std.proofs.Common.{◌≡◌, ◌<◌, ◌+◌, ℕ, zero, suc, List, [], ◌∷◌, Some, length, get_or, drop, sym, ap, ◌∙◌, subst, add-one}
use Rattle.schemars_validate.proofs.Words.{Data, null, boolean, number, string, array, object, as_array, as_object, get_item, view, items_view, members_view, Entry}
use Rattle.schemars_schema.proofs.Containers.{array-as_array}
use Rattle.serde_json.specs.declared.value.Value.{Value}
use Rattle.schemars_validate.specs.declared.memo.Memo.{Memo}
use Rattle.schemars_validate.specs.Memos.{Following, value_at, part_of, IsKnown, IsKnownAt, KeepsAround}
use Rattle.schemars_validate.proofs.Marking.{item_there}
use Rattle.schemars_validate.proofs.Keeping.{part_known}

-- ---- items

item_part : (v : Data) (xs : List Value) (i : ℕ) (x : Value) → Some (items_view xs) ≡ as_array v → i < length xs → x ≡ get_or xs i x
    → part_of i v ≡ Some (view x)
item_part (array ds) xs i x is within here =
    let same : items_view xs ≡ ds = cc in subst (λ es. get_item i es ≡ Some (view x)) same (item_there xs i x within here)
item_part null xs i x is within here = cc
item_part (boolean b) xs i x is within here = cc
item_part (number n) xs i x is within here = cc
item_part (string s) xs i x is within here = cc
item_part (object ms) xs i x is within here = cc

pub item_known : (to : Following) (v : Data) (m : Memo) (xs : List Value) (i : ℕ) (x : Value) → Some (items_view xs) ≡ as_array v
    → i < length xs → x ≡ get_or xs i x → IsKnown to v m → IsKnownAt to i (view x) m
item_known to v m xs i x is within here known = part_known to v (view x) m i known (item_part v xs i x is within here)

pub item_kept : (to : Following) (v : Data) (m new : Memo) (xs : List Value) (i : ℕ) (x : Value) → Some (items_view xs) ≡ as_array v
    → i < length xs → x ≡ get_or xs i x → IsKnown to v m → KeepsAround to i (view x) m new → IsKnown to v new
item_kept to v m new xs i x is within here known keeps = keeps v known (item_part v xs i x is within here)

-- the same list
pub list_known : (to : Following) (v : Data) (m : Memo) (xs ys : List Value) → Some (items_view xs) ≡ as_array v → ys ≡ xs → IsKnown to v m
    → IsKnown to (array (items_view ys)) m
list_known to v m xs ys is same known =
    subst (λ d. IsKnown to d m) (array-as_array v (items_view xs) is ∙ ap (λ zs. array (items_view zs)) (sym same)) known

pub list_kept : (to : Following) (v : Data) (m : Memo) (xs ys : List Value) → Some (items_view xs) ≡ as_array v → ys ≡ xs
    → IsKnown to (array (items_view ys)) m → IsKnown to v m
list_kept to v m xs ys is same known =
    subst (λ d. IsKnown to d m) (sym (array-as_array v (items_view xs) is ∙ ap (λ zs. array (items_view zs)) (sym same))) known

-- ---- members

member_there : (es : List Entry) (n : ℕ) (e : Entry) (rest : List Entry) → drop n es ≡ e ∷ rest → value_at n (members_view es) ≡ Some (view e.1)
member_there [] zero e rest is = cc
member_there [] (suc n) e rest is = cc
member_there (x ∷ es) zero e rest is = let same : x ≡ e = cc in ap (λ (z : Entry). Some (view z.1)) same
member_there (x ∷ es) (suc n) e rest is = member_there es n e rest is

pub next_there : (es : List Entry) (n : ℕ) (e : Entry) (rest : List Entry) → drop n es ≡ e ∷ rest → drop (n + 1) es ≡ rest
next_there es n e rest is = ap (λ k. drop k es) (add-one n) ∙ go es n is
  where
    go : (es : List Entry) (n : ℕ) → drop n es ≡ e ∷ rest → drop (suc n) es ≡ rest
    go [] zero is = cc
    go [] (suc n) is = cc
    go (x ∷ es) zero is = cc
    go (x ∷ es) (suc n) is = go es n is

member_part : (v : Data) (es : List Entry) (n : ℕ) (e : Entry) (rest : List Entry) → Some (members_view es) ≡ as_object v → drop n es ≡ e ∷ rest
    → part_of n v ≡ Some (view e.1)
member_part (object ms) es n e rest is there =
    let same : members_view es ≡ ms = cc in subst (λ ns. value_at n ns ≡ Some (view e.1)) same (member_there es n e rest there)
member_part null es n e rest is there = cc
member_part (boolean b) es n e rest is there = cc
member_part (number m) es n e rest is there = cc
member_part (string s) es n e rest is there = cc
member_part (array ds) es n e rest is there = cc

pub member_known : (to : Following) (v : Data) (m : Memo) (es : List Entry) (n : ℕ) (e : Entry) (rest : List Entry)
    → Some (members_view es) ≡ as_object v → drop n es ≡ e ∷ rest → IsKnown to v m → IsKnownAt to n (view e.1) m
member_known to v m es n e rest is there known = part_known to v (view e.1) m n known (member_part v es n e rest is there)

pub member_kept : (to : Following) (v : Data) (m new : Memo) (es : List Entry) (n : ℕ) (e : Entry) (rest : List Entry)
    → Some (members_view es) ≡ as_object v → drop n es ≡ e ∷ rest → IsKnown to v m → KeepsAround to n (view e.1) m new → IsKnown to v new
member_kept to v m new es n e rest is there known keeps = keeps v known (member_part v es n e rest is there)
