-- Members that are taken out, put in and changed, in the words of what is meant.
use Rattle.std.proofs.Common.{◌≡◌, List, [], ◌∷◌, ◌++◌, Option, Some, None, Bool, true, false, Ordering, Less, Equal, Greater, refl, sym, ap, ◌∙◌, is_eq, true≢false, nat_cmp, string_bytes}
use Rattle.schemars_flatten.proofs.Words.{is_eq-slice_cmp, or-false, ◌||◌, bytes_eq, if◌then◌else◌, codes, match_ordering, slice_cmp, set_value, is_at, Data, boolean, array, object, Items, no_items, item, Members, no_members, member, put, get_member, as_array, as_object, view, items_view, members_view, Entry, Text, members_in, put_members, replaced, without, both_some, members_view-set_value, moved, appended, is_joined, joined, is_merged, merged, united, with_united, both_choices, with_choice, opened_keywords, opened_schema, united_all, flattened}
use Rattle.serde_json.specs.declared.value.Value.{Value}

-- what isn't there can't be taken out
pub without_missing : (k : Text) (ms : Members) → None ≡ get_member k ms → without k ms ≡ ms
without_missing k no_members h = refl
without_missing k (member l d ms) h =
    go (slice_cmp nat_cmp k l) (bytes_eq k l) (is_eq-slice_cmp k l) h (without_missing k ms)
  where
    go : (o : Ordering) (b : Bool) → is_eq o ≡ b → None ≡ match_ordering o (get_member k ms) (Some d) (get_member k ms)
        → (None ≡ get_member k ms → without k ms ≡ ms) → (if b then ms else member l d (without k ms)) ≡ member l d ms
    go Less true is h later = absurd (true≢false (sym is))
    go Less false is h later = ap (member l d) (later h)
    go Equal b is h later = cc
    go Greater true is h later = absurd (true≢false (sym is))
    go Greater false is h later = ap (member l d) (later h)

at_some : (o : Option Data) (d : Data) (none : Members) (f : Data → Members) → Some d ≡ o
    → f d ≡ elim o [ None ↦ none | Some e ↦ f e ]
at_some None d none f h = cc
at_some (Some e) d none f h = let is : d ≡ e = cc in ap f is

at_none : (o : Option Data) (none : Members) (f : Data → Members) → None ≡ o
    → none ≡ elim o [ None ↦ none | Some e ↦ f e ]
at_none None none f h = refl
at_none (Some e) none f h = cc

-- ---- one of two names

pub first_listed : (r a b : Bool) → r ≡ a → r ≡ true → r ≡ a || (b || false)
first_listed r true b is met = is
first_listed r false b is met = absurd (true≢false (sym met ∙ is))

pub second_listed : (q r a b : Bool) → r ≡ a → r ≡ false → q ≡ b → q ≡ a || (b || false)
second_listed q r true b is never also = absurd (true≢false (sym is ∙ never))
second_listed q r false b is never also = also ∙ sym (or-false b)

-- ---- what is additional

pub moved_there : (ms mid new : Members) (d : Data) → Some d ≡ get_member (codes "additionalProperties") ms
    → mid ≡ without (codes "additionalProperties") ms → new ≡ put (codes "unevaluatedProperties") d mid → new ≡ moved ms
moved_there ms mid new d found taken made =
    made ∙ (ap (put (codes "unevaluatedProperties") d) taken
    ∙ at_some (get_member (codes "additionalProperties") ms) d ms
    (λ e. put (codes "unevaluatedProperties") e (without (codes "additionalProperties") ms)) found)

pub moved_missing : (ms new : Members) → None ≡ get_member (codes "additionalProperties") ms
    → new ≡ without (codes "additionalProperties") ms → new ≡ moved ms
moved_missing ms new missing taken =
    taken ∙ (without_missing (codes "additionalProperties") ms missing
    ∙ at_none (get_member (codes "additionalProperties") ms) ms
    (λ e. put (codes "unevaluatedProperties") e (without (codes "additionalProperties") ms)) missing)

-- ---- a keyword that both sides have

pub united_there : (k : Text) (es : List Entry) (old new : Value) (d : Data)
    → Some (view old) ≡ get_member k (members_view es)
    → view new ≡ united k (view old) d
    → members_view (set_value (is_at (λ l. slice_cmp nat_cmp k (string_bytes l))) es new)
    ≡ with_united k d (members_view es)
united_there k es old new d found is =
    members_view-set_value k es new
    ∙ (ap (λ e. replaced k e (members_view es)) is
    ∙ at_some (get_member k (members_view es)) (view old) (put k d (members_view es))
    (λ e. replaced k (united k e d) (members_view es)) found)

pub united_missing : (k : Text) (ms old new : Members) (d : Data) → None ≡ get_member k ms → old ≡ ms
    → new ≡ put k d old
    → new ≡ with_united k d ms
united_missing k ms old new d missing same made =
    made ∙ (ap (put k d) same ∙ at_none (get_member k ms) (put k d ms) (λ e. replaced k (united k e d) ms) missing)

pub choice_there : (k : Text) (ms mid new : Members) (first d : Data) → Some first ≡ get_member k ms
    → mid ≡ without k ms
    → new ≡ with_united (codes "allOf") (both_choices k first d) mid → new ≡ with_choice k d ms
choice_there k ms mid new first d found taken made =
    made ∙ (ap (with_united (codes "allOf") (both_choices k first d)) taken
    ∙ at_some (get_member k ms) first (put k d ms)
    (λ e. with_united (codes "allOf") (both_choices k e d) (without k ms)) found)

pub choice_missing : (k : Text) (ms mid new : Members) (d : Data) → None ≡ get_member k ms → mid ≡ without k ms
    → new ≡ put k d mid → new ≡ with_choice k d ms
choice_missing k ms mid new d missing taken made =
    made ∙ (ap (put k d) (taken ∙ without_missing k ms missing)
    ∙ at_none (get_member k ms) (put k d ms)
    (λ e. with_united (codes "allOf") (both_choices k e d) (without k ms)) missing)

-- under any other keyword the first stays
pub united_other : (k : Text) (first second : Data) → is_joined k ≡ false → is_merged k ≡ false
    → first ≡ united k first second
united_other k first second not_joined not_merged =
    ap (λ b. if b then merged first second else first) (sym not_merged)
    ∙ ap (λ b. if b then joined first second else if is_merged k then merged first second else first) (sym not_joined)

-- ---- lists and objects

pub lists_joined : (first second new : Data) (ds es : Items) → first ≡ array ds → second ≡ array es
    → new ≡ array (appended ds es) → new ≡ joined first second
lists_joined first second new ds es is_first is_second made = rw (is_first, is_second) made

-- where the first is missing, nothing is put together
none_to_join : {A : Type 0} (f : A → A → A) (made : A → Data) (first : Data) (o p : Option A) → None ≡ p
    → first ≡ elim (both_some f o p) [ None ↦ first | Some x ↦ made x ]
none_to_join f made first None p h = refl
none_to_join f made first (Some x) None h = refl
none_to_join f made first (Some x) (Some y) h = cc

pub no_list_joined : (first second : Data) → None ≡ as_array first → first ≡ joined first second
no_list_joined first second h = none_to_join (λ es ds. appended ds es) array first (as_array second) (as_array first) h

pub objects_merged : (first second new : Data) (ms ns : Members) → first ≡ object ms → second ≡ object ns
    → new ≡ object (put_members ns ms) → new ≡ merged first second
objects_merged first second new ms ns is_first is_second made = rw (is_first, is_second) made

pub no_object_merged : (first second : Data) → None ≡ as_object first → first ≡ merged first second
no_object_merged first second h = none_to_join put_members object first (as_object second) (as_object first) h

pub appended_none : (ds : Items) → appended ds no_items ≡ ds
appended_none no_items = refl
appended_none (item d ds) = ap (item d) (appended_none ds)

pub appended_more : (xs : List Value) (x : Value) (es : Items)
    → appended (items_view (xs ++ x ∷ [])) es ≡ appended (items_view xs) (item (view x) es)
appended_more [] x es = refl
appended_more (y ∷ ys) x es = ap (item (view y)) (appended_more ys x es)

-- ---- the whole

pub flattened_object : (s o new : Data) (old left others : Members) → old ≡ members_in s → o ≡ object others
    → left ≡ united_all old others → new ≡ object left → new ≡ flattened s o
flattened_object s o new old left others start is united made = rw is (made
    ∙ ap object (united ∙ ap (λ ms. united_all ms others) start))

pub flattened_opened : (s o new : Data) (old left : Members) → Some old ≡ as_object s → o ≡ boolean true
    → left ≡ opened_keywords old → new ≡ object left → new ≡ flattened s o
flattened_opened s o new old left found is opens made = rw is (made ∙ (ap object opens ∙ go s found))
  where
    go : (d : Data) → Some old ≡ as_object d → object (opened_keywords old) ≡ opened_schema d
    go (object ms) h = let same : old ≡ ms = cc in ap (λ x. object (opened_keywords x)) same
    go _ h = cc

pub flattened_kept : (s o : Data) → None ≡ as_object s → o ≡ boolean true → s ≡ flattened s o
flattened_kept s o none is = rw is (go s none)
  where
    go : (d : Data) → None ≡ as_object d → d ≡ opened_schema d
    go (object ms) h = cc
    go _ h = refl
