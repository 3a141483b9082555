-- Whether a schema and those inside it let further members in, call by call.
use Rattle.std.proofs.Common.{◌≡◌, ℕ, ◌+◌, ◌<◌, ◌≤◌, List, Some, None, Bool, true, false, length, get_or, drop, refl, sym, ap, ◌∙◌}
use Rattle.schemars_flatten.proofs.Words.{◌||◌, Data, array, object, Items, no_items, item, Members, no_members, member, as_array, as_object, view, items_view, Text, array-as_array, not_array, object-as_object, not_object, nothing_left, from_here, closes, closed_at, closed_in, closed_in_items, closed_in_keywords}
use Rattle.serde_json.specs.declared.value.Value.{Value}

pub closed_object : (d : Data) (ms : Members) → Some ms ≡ as_object d
    → closes d || closed_in_keywords ms ≡ (closed_in d).in_schema
unfolding closed_in
closed_object d ms e = rw (object-as_object d ms e) refl

pub closed_other : (d : Data) → None ≡ as_object d → false ≡ (closed_in d).in_schema
unfolding closed_in
closed_other d e = not_object (λ d. false ≡ (closed_in d).in_schema) refl (λ b. refl) (λ n. refl) (λ s. refl) (λ ds. refl) d e

pub closed_array : (d : Data) (ds : Items) → Some ds ≡ as_array d → closed_in_items ds ≡ (closed_in d).in_list
unfolding closed_in
closed_array d ds e = rw (array-as_array d ds e) refl

pub closed_no_array : (d : Data) → None ≡ as_array d → false ≡ (closed_in d).in_list
unfolding closed_in
closed_no_array d e = not_array (λ d. false ≡ (closed_in d).in_list) refl (λ b. refl) (λ n. refl) (λ s. refl) (λ ms. refl) d e

either_way : (a b : Bool) → (a ≡ true → true ≡ a || b) × (a ≡ false → b ≡ a || b)
either_way a b = (λ is. rw is refl, λ is. rw is refl)

-- the first that closes is enough
pub keyword_closes : (k : Text) (d : Data) (ms : Members) → closed_at k (closed_in d) ≡ true
    → true ≡ closed_in_keywords (member k d ms)
unfolding closed_in_keywords
keyword_closes k d ms h = (either_way (closed_at k (closed_in d)) (closed_in_keywords ms)).0 h

pub keyword_passes : (k : Text) (d : Data) (ms : Members) → closed_at k (closed_in d) ≡ false
    → closed_in_keywords ms ≡ closed_in_keywords (member k d ms)
unfolding closed_in_keywords
keyword_passes k d ms h = (either_way (closed_at k (closed_in d)) (closed_in_keywords ms)).1 h

pub closed_first : (d : Data) (ms : Members) (b : Bool) → Some ms ≡ as_object d → b ≡ closes d → b ≡ true
    → b ≡ (closed_in d).in_schema
closed_first d ms b is same met =
    met ∙ ((either_way (closes d) (closed_in_keywords ms)).0 (sym same ∙ met) ∙ closed_object d ms is)

pub closed_rest : (d : Data) (ms : Members) (b c : Bool) → Some ms ≡ as_object d → b ≡ closes d → b ≡ false
    → c ≡ closed_in_keywords ms → c ≡ (closed_in d).in_schema
closed_rest d ms b c is same missed rest =
    rest ∙ ((either_way (closes d) (closed_in_keywords ms)).1 (sym same ∙ missed) ∙ closed_object d ms is)

item_closes : (d : Data) (ds : Items) → (closed_in d).in_schema ≡ true → true ≡ closed_in_items (item d ds)
unfolding closed_in_items
item_closes d ds h = (either_way (closed_in d).in_schema (closed_in_items ds)).0 h

item_passes : (d : Data) (ds : Items) → (closed_in d).in_schema ≡ false
    → closed_in_items ds ≡ closed_in_items (item d ds)
unfolding closed_in_items
item_passes d ds h = (either_way (closed_in d).in_schema (closed_in_items ds)).1 h

pub no_keyword_closes : false ≡ closed_in_keywords no_members
unfolding closed_in_keywords
no_keyword_closes = refl

pub ruleset keywords = (keyword_closes, keyword_passes, no_keyword_closes)

no_item_closes : false ≡ closed_in_items no_items
unfolding closed_in_items
no_item_closes = refl

pub item_found : (xs : List Value) (i : ℕ) (x : Value) (all : Bool) → i < length xs → x ≡ get_or xs i x
    → (closed_in (view x)).in_schema ≡ true → closed_in_items (items_view (drop i xs)) ≡ all → true ≡ all
item_found xs i x all within is closed before =
    item_closes (view x) (items_view (drop (i + 1) xs)) closed
    ∙ (ap closed_in_items (sym (from_here xs i x within is)) ∙ before)

pub item_passed : (xs : List Value) (i : ℕ) (x : Value) (all : Bool) → i < length xs → x ≡ get_or xs i x
    → (closed_in (view x)).in_schema ≡ false → closed_in_items (items_view (drop i xs)) ≡ all
    → closed_in_items (items_view (drop (i + 1) xs)) ≡ all
item_passed xs i x all within is passes before =
    item_passes (view x) (items_view (drop (i + 1) xs)) passes
    ∙ (ap closed_in_items (sym (from_here xs i x within is)) ∙ before)

pub all_passed : (xs : List Value) (i : ℕ) (all : Bool) → length xs ≤ i
    → closed_in_items (items_view (drop i xs)) ≡ all → false ≡ all
all_passed xs i all end before = no_item_closes ∙ (ap closed_in_items (sym (nothing_left xs i end)) ∙ before)
