-- Text that is written value by value, and members that are looked up by their keys.
use Rattle.std.proofs.Common.{◌≡◌, ◌<◌, ◌+◌, ℕ, List, [], ◌∷◌, ◌++◌, length, get_or, drop, map, Bor, add-one, drop-cons, Bool, true, false, ◌||◌, Some, None, Ordering, Less, Equal, Greater, is_eq, nat_cmp, refl, sym, ap, ◌∙◌, append_assoc, append-nil}
use Rattle.schemars_text.proofs.Words.{or_parts, is_eq-slice_cmp, bytes_eq-Decides, bytes_eq, slice_cmp, match_ordering, Token, begin_object, end_object, begin_array, end_array, begins, ends, separator, token_text, quoted, Data, array, object, Items, Members, no_members, member, get_member, comma_if, has_float, items_have_float, members_have_float, Text, Output, with_token, with_value, with_values, Layout, SchemaLayout, Written, written_at, each_written_at, arranged, texts, layout_under, layout_inside, with_commas, text_in, item_texts, member_texts}

-- ---- text

separator_is : (later : Bool) (t : Token) → begins t ≡ true → separator later t ≡ comma_if later
separator_is true t h = rw h
separator_is false t h = refl

no_separator : (later : Bool) (t : Token) → begins t ≡ false → separator later t ≡ []
no_separator true t h = rw h
no_separator false t h = refl

with_values_text : (o : Output) (ts : List Text) → (with_values o ts).text ≡ o.text ++ with_commas o.after_value ts
with_values_text o [] = sym (append-nil o.text)
with_values_text o (t ∷ ts) =
    with_values_text (with_value o t) ts
    ∙ append_assoc o.text (comma_if o.after_value ++ t) (with_commas true ts)
    ∙ ap (λ s. o.text ++ s) (append_assoc (comma_if o.after_value) t (with_commas true ts))

regroup : (a b c d e : Text) → ((a ++ (b ++ c)) ++ d) ++ e ≡ a ++ (b ++ (c ++ (d ++ e)))
regroup a b c d e = simp append_assoc

-- values between two brackets
pub bracketed : (o : Output) (opening closing : Token) (ts : List Text) → begins opening ≡ true → ends opening ≡ false
    → begins closing ≡ false → ends closing ≡ true
    → with_token (with_values (with_token o opening) ts) closing ≡ with_value o
    (token_text opening ++ (with_commas false ts ++ token_text closing))
bracketed o opening closing ts b e c f =
    let inside = with_values (with_token o opening) ts in
    let start = separator_is o.after_value opening b in
    let text : inside.text ++ (separator inside.after_value closing ++ token_text closing)
    ≡ o.text ++ (comma_if o.after_value ++ (token_text opening ++ (with_commas false ts ++ token_text closing))) =
    rw (no_separator inside.after_value closing c, with_values_text (with_token o opening) ts, e, start)
    (regroup o.text (comma_if o.after_value) (token_text opening) (with_commas false ts) (token_text closing)) in
    λ i. record { text = text i; after_value = f i }

pub with_values-append : (o : Output) (ts us : List Text) → with_values o (ts ++ us) ≡ with_values (with_values o ts) us
with_values-append o [] us = refl
with_values-append o (t ∷ ts) us = with_values-append (with_value o t) ts us

texts-append : (ws vs : List Written) → texts (ws ++ vs) ≡ texts ws ++ texts vs
texts-append [] vs = refl
texts-append (w ∷ ws) vs = ap (λ ts. w.text ∷ ts) (texts-append ws vs)

-- three groups of members, one after another
pub with_groups : (o : Output) (first second third : List Written)
    → with_values (with_values (with_values o (texts first)) (texts second)) (texts third)
    ≡ with_values o (texts (first ++ (second ++ third)))
with_groups o first second third =
    sym (ap (with_values o) (texts-append first (second ++ third) ∙ ap (λ ts. texts first ++ ts) (texts-append second third))
    ∙ with_values-append o (texts first) (texts second ++ texts third)
    ∙ with_values-append (with_values o (texts first)) (texts second) (texts third))

-- ---- members

abbrev pub written_member : Text → Data → Written
written_member k d = record { key = k; text = quoted k ++ 58 ∷ text_in (layout_under SchemaLayout k) d }

differ_when : (o : Ordering) (k l : Text) → slice_cmp nat_cmp k l ≡ o → bytes_eq k l ≡ is_eq o
differ_when o k l is = sym (is_eq-slice_cmp k l) ∙ ap is_eq is

found_at : (o : Ordering) (k l : Text) (d e : Data) (ms : Members) → slice_cmp nat_cmp k l ≡ o
    → match_ordering o (get_member k ms) (Some e) (get_member k ms) ≡ Some d
    → (get_member k ms ≡ Some d → written_at k (member_texts SchemaLayout ms) ≡ written_member k d ∷ [])
    → written_at k (member_texts SchemaLayout (member l e ms)) ≡ written_member k d ∷ []
unfolding member_texts
found_at Less k l d e ms is h later = rw (differ_when Less k l is) (later h)
found_at Greater k l d e ms is h later = rw (differ_when Greater k l is) (later h)
found_at Equal k l d e ms is h later =
    let yes = differ_when Equal k l is in
    let same : l ≡ k = sym ((bytes_eq-Decides k l).0 yes) in
    let value : e ≡ d = cc h in
    rw yes (λ i. written_member (same i) (value i) ∷ [])

-- what is written at a key that is there
pub written_at-found : (k : Text) (d : Data) (ms : Members) → get_member k ms ≡ Some d
    → written_at k (member_texts SchemaLayout ms) ≡ written_member k d ∷ []
written_at-found k d no_members h = cc
written_at-found k d (member l e ms) h = found_at _ k l d e ms refl h (written_at-found k d ms)

missing_at : (o : Ordering) (k l : Text) (e : Data) (ms : Members) → slice_cmp nat_cmp k l ≡ o
    → match_ordering o (get_member k ms) (Some e) (get_member k ms) ≡ None
    → (get_member k ms ≡ None → written_at k (member_texts SchemaLayout ms) ≡ [])
    → written_at k (member_texts SchemaLayout (member l e ms)) ≡ []
unfolding member_texts
missing_at Less k l e ms is h later = rw (differ_when Less k l is) (later h)
missing_at Greater k l e ms is h later = rw (differ_when Greater k l is) (later h)
missing_at Equal k l e ms is h later = cc

-- and at one that isn't
pub written_at-missing : (k : Text) (ms : Members) → get_member k ms ≡ None → written_at k (member_texts SchemaLayout ms) ≡ []
unfolding member_texts
written_at-missing k no_members h = refl
written_at-missing k (member l e ms) h = missing_at _ k l e ms refl h (written_at-missing k ms)

found_float_at : (o : Ordering) (k : Text) (d e : Data) (ms : Members)
    → match_ordering o (get_member k ms) (Some e) (get_member k ms) ≡ Some d → has_float e || members_have_float ms ≡ false
    → (get_member k ms ≡ Some d → members_have_float ms ≡ false → has_float d ≡ false) → has_float d ≡ false
found_float_at Less k d e ms h none later = later h (or_parts (has_float e) _ none).1
found_float_at Greater k d e ms h none later = later h (or_parts (has_float e) _ none).1
found_float_at Equal k d e ms h none later = let value : e ≡ d = cc h in ap has_float (sym value) ∙ (or_parts (has_float e) _ none).0

pub has_float-found : (k : Text) (d : Data) (ms : Members) → get_member k ms ≡ Some d → members_have_float ms ≡ false → has_float d ≡ false
has_float-found k d no_members h none = cc
has_float-found k d (member l e ms) h none = found_float_at _ k d e ms h none (has_float-found k d ms)

-- ---- one more of the keywords

abbrev Keywords : Type 0
Keywords = List (Bor Text)

-- what the keywords from the i-th on give after o
abbrev from : Output → Keywords → ℕ → Members → Output
from o ks i ms = with_values o (texts (each_written_at (map (λ k. k.now) (drop i ks)) (member_texts SchemaLayout ms)))

next_keyword : (ks : Keywords) (i : ℕ) (other : Bor Text) → i < length ks → drop i ks ≡ get_or ks i other ∷ drop (i + 1) ks
next_keyword ks i other within = rw add-one (drop-cons ks i other within)

pub keyword_found : (o a : Output) (ks : Keywords) (i : ℕ) (other : Bor Text) (d : Data) (ms : Members) (all : Output) → i < length ks
    → get_member (get_or ks i other).now ms ≡ Some d
    → (has_float d ≡ false → a ≡ with_value o (written_member (get_or ks i other).now d).text)
    → members_have_float ms ≡ false → from o ks i ms ≡ all → from a ks (i + 1) ms ≡ all
keyword_found o a ks i other d ms all within found written none before =
    let k = (get_or ks i other).now in
    let here = rw (next_keyword ks i other within, written_at-found k d ms found) at before in
    rw (written (has_float-found k d ms found none)) here

pub keyword_missing : (o : Output) (ks : Keywords) (i : ℕ) (other : Bor Text) (ms : Members) (all : Output) → i < length ks
    → get_member (get_or ks i other).now ms ≡ None → from o ks i ms ≡ all → from o ks (i + 1) ms ≡ all
keyword_missing o ks i other ms all within missing before =
    rw (next_keyword ks i other within, written_at-missing (get_or ks i other).now ms missing) at before

-- ---- whole values

pub array_written : (o a b c : Output) (layout inner : Layout) (d : Data) (ds : Items) → d ≡ array ds → inner ≡ layout_inside layout
    → a ≡ with_token o begin_array → (items_have_float ds ≡ false → b ≡ with_values a (item_texts inner ds)) → c ≡ with_token b end_array
    → has_float d ≡ false → c ≡ with_value o (text_in layout d)
unfolding text_in
array_written o a b c layout inner d ds is inside first items last none =
    let no_float : items_have_float ds ≡ false = rw is at none in
    rw (is, last, items no_float, inside, first) (bracketed o begin_array end_array (item_texts (layout_inside layout) ds) refl refl refl
    refl)

pub object_written : (o a b c : Output) (layout : Layout) (d : Data) (ms : Members) → d ≡ object ms
    → a ≡ with_token o begin_object → (members_have_float ms ≡ false → b
    ≡ with_values a (texts (arranged layout (member_texts layout ms)))) → c ≡ with_token b end_object
    → has_float d ≡ false → c ≡ with_value o (text_in layout d)
unfolding text_in
object_written o a b c layout d ms is first members last none =
    let no_float : members_have_float ms ≡ false = rw is at none in
    rw (is, last, members no_float, first) (bracketed o begin_object end_object (texts (arranged layout (member_texts layout ms))) refl
    refl refl refl)
