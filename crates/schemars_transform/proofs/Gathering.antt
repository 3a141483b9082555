-- The names that a schema and those inside it add, call by call.
use Rattle.std.proofs.Common.{◌≡◌, ℕ, ◌+◌, ◌<◌, ◌≤◌, Some, None, List, [], ◌∷◌, ◌++◌, length, get_or, drop, Bool, true, false, IsTrue, codes, refl, sym, ap, ◌∙◌, subst}
use Rattle.schemars_transform.proofs.Words.{false≢true, Data, boolean, array, object, Items, no_items, item, Members, no_members, member, as_array, as_object, view, items_view, members_view, Entry, Text, inserted, put_missing, array-as_array, not_array, object-as_object, not_object, from_here, names_in, names_in_items, names_in_keywords, names_under, with_names, properties_made}
use Rattle.serde_json.specs.declared.value.Value.{Value}
use Rattle.schemars_text.proofs.Lists.{nothing_left as none_left}

pub with_names-append : (a b : List Text) (ms : Members) → with_names (a ++ b) ms ≡ with_names b (with_names a ms)
with_names-append [] b ms = refl
with_names-append (k ∷ a) b ms = with_names-append a b (put_missing k (boolean true) ms)

pub names_in_object : (d : Data) (ms : Members) → Some ms ≡ as_object d → names_in_keywords ms ≡ (names_in d).in_schema
unfolding names_in names_in_keywords
names_in_object d ms e = rw (object-as_object d ms e) refl

pub names_in_other : (d : Data) → None ≡ as_object d → [] ≡ (names_in d).in_schema
unfolding names_in
names_in_other d e = not_object (λ d. [] ≡ (names_in d).in_schema) refl (λ b. refl) (λ n. refl) (λ s. refl) (λ ds. refl) d e

pub names_in_array : (d : Data) (ds : Items) → Some ds ≡ as_array d → names_in_items ds ≡ (names_in d).in_list
unfolding names_in names_in_items
names_in_array d ds e = rw (array-as_array d ds e) refl

pub names_in_no_array : (d : Data) → None ≡ as_array d → [] ≡ (names_in d).in_list
unfolding names_in
names_in_no_array d e = not_array (λ d. [] ≡ (names_in d).in_list) refl (λ b. refl) (λ n. refl) (λ s. refl) (λ ms. refl) d e

-- one turn: the first member's names have been put in
pub keyword_done : (k : Text) (d : Data) (ms now next : Members) → next ≡ with_names (names_under k d (names_in d)) now
    → with_names (names_in_keywords ms) next ≡ with_names (names_in_keywords (member k d ms)) now
unfolding names_in_keywords
keyword_done k d ms now next e = ap (with_names (names_in_keywords ms)) e ∙ sym (with_names-append (names_under k d (names_in d))
    (names_in_keywords ms) now)

pub item_done : (d : Data) (ds : Items) (now next : Members) → next ≡ with_names (names_in d).in_schema now
    → with_names (names_in_items ds) next ≡ with_names (names_in_items (item d ds)) now
unfolding names_in_items
item_done d ds now next e = ap (with_names (names_in_items ds)) e ∙ sym (with_names-append (names_in d).in_schema (names_in_items ds) now)

pub nothing_left : (ms : Members) → with_names (names_in_keywords no_members) ms ≡ ms
unfolding names_in_keywords
nothing_left ms = refl

pub no_items_left : (ms : Members) → with_names (names_in_items no_items) ms ≡ ms
unfolding names_in_items
no_items_left ms = refl

pub items_turn : (xs : List Value) (i : ℕ) (x : Value) (all now next : Members) → i < length xs → x ≡ get_or xs i x
    → next ≡ with_names (names_in (view x)).in_schema now
    → with_names (names_in_items (items_view (drop i xs))) now ≡ all → with_names (names_in_items (items_view (drop (i + 1) xs))) next ≡ all
items_turn xs i x all now next within is step before =
    item_done (view x) (items_view (drop (i + 1) xs)) now next step
    ∙ ap (λ ds. with_names (names_in_items ds) now) (sym (from_here xs i x within is)) ∙ before

pub items_end : (xs : List Value) (i : ℕ) (all now : Members) → length xs ≤ i
    → with_names (names_in_items (items_view (drop i xs))) now ≡ all → now ≡ all
items_end xs i all now end before =
    sym (no_items_left now) ∙ ap (λ ds. with_names (names_in_items ds) now) (sym (none_left xs i end)) ∙ before

pub made : (es : List Entry) (ms : Members) (s n : Data) (b : Bool) → members_view es ≡ ms → (length es ≡ 0 → IsTrue b) → b ≡ false
    → n ≡ inserted (codes "properties") (object (members_view es)) s → n ≡ properties_made ms s
made [] ms s n b is empty has new = let t : IsTrue b = empty refl in absurd (false≢true (sym has ∙ t))
made (e ∷ es) ms s n b is empty has new = subst (λ m. n ≡ properties_made m s) is new
