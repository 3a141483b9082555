-- Lists of members: what they stand for, in the order of their names. Items and members before others.
use Rattle.std.proofs.Common.{◌≡◌, ℕ, ◌+◌, ◌<◌, List, [], ◌∷◌, ◌++◌, map, length, get_or, drop, zero, suc, ◌≤◌, false, Ordering, Less, Equal, Greater, is_ge, nat_cmp, IsPermutation, string_bytes, arith, append-nil, refl, sym, ap, subst, ◌∙◌}
use Rattle.schemars_parts.proofs.Words.{drop_more, IsPermutation-map, slice_cmp, Data, Items, no_items, item, Members, no_members, member, members_len, view, members_view, Text, put_all, IsSorted, above-trans, assembled_view, items_assembled, members_assembled, named_view}
use Rattle.serde_json.proofs.Views.{Entry as NamedValue}
use Rattle.schemars_parts.specs.declared.assembled.Assembled.{Assembled}
use Rattle.schemars_parts.proofs.Entries.{Entry}
use Rattle.schemars_parts.proofs.PutInOrder.{listed, put_in_order}

below_from_not_ge : (o : Ordering) → is_ge o ≡ false → o ≡ Less
below_from_not_ge Less h = refl
below_from_not_ge Equal h = cc
below_from_not_ge Greater h = cc

pub counted : (es : List Entry) → members_len (members_assembled es) ≡ length es
counted [] = refl
counted (e ∷ es) = ap suc (counted es)

-- the next member, and then those that are left
pub next_member : (es : List Entry) (i : ℕ) (e : Entry) → i < length es → e ≡ get_or es i e → drop i es ≡ e ∷ drop (i + 1) es
next_member es i e within is = drop_more es i e within ∙ ap (λ (x : Entry). x ∷ drop (i + 1) es) (sym is)

-- a member before others that are sorted
pub sorted_from : (es : List Entry) (i n : ℕ) (e f : Entry) → n ≡ i + 1 → n < length es → e ≡ get_or es i e → f ≡ get_or es n f
    → is_ge (slice_cmp nat_cmp e.0.now f.0.now) ≡ false → IsSorted (members_assembled (drop n es))
    → IsSorted (members_assembled (drop i es))
sorted_from es i n e f more within is_first is_next test later =
    let before = below_from_not_ge (slice_cmp nat_cmp e.0.now f.0.now) test in
    let next : drop n es ≡ f ∷ drop (n + 1) es = next_member es n f within is_next in
    let first : drop i es ≡ e ∷ f ∷ drop (n + 1) es =
    next_member es i e (omega arith) is_first ∙ ap (λ k. e ∷ drop k es) (sym more) ∙ ap (λ xs. e ∷ xs) next in
    let rest : IsSorted (members_assembled (f ∷ drop (n + 1) es)) = subst (λ xs. IsSorted (members_assembled xs)) next later in
    subst (λ xs. IsSorted (members_assembled xs)) (sym first)
    ((before, above-trans e.0.now f.0.now (members_assembled (drop (n + 1) es)) before rest.0), rest)

pub sorted_last : (es : List Entry) (i : ℕ) → length es ≤ i + 1 → IsSorted (members_assembled (drop i es))
sorted_last [] zero last = tt
sorted_last [] (suc i) last = tt
sorted_last (e ∷ []) zero last = (tt, tt)
sorted_last (e ∷ f ∷ es) zero last = absurd (omega arith)
sorted_last (e ∷ es) (suc i) last = sorted_last es i (omega arith)

as_listed : (es : List Entry) → members_assembled es ≡ listed (map named_view es)
as_listed [] = refl
as_listed (e ∷ es) = ap (member e.0.now (assembled_view e.1)) (as_listed es)

-- a value and its name
abbrev pub named_value : NamedValue → Text × Data
named_value e = (string_bytes e.0, view e.1)

values_as_listed : (es : List NamedValue) → members_view es ≡ listed (map named_value es)
values_as_listed [] = refl
values_as_listed (e ∷ es) = ap (member (string_bytes e.0) (view e.1)) (values_as_listed es)

-- parts of all values
pub all_values : (es : List Entry) (left all : List NamedValue) → left ≡ []
    → map named_view es ++ map named_value left ≡ map named_value all → members_assembled es ≡ members_view all
all_values es left all ends h =
    as_listed es ∙ ap listed (sym (append-nil (map named_view es))
    ∙ (ap (λ xs. map named_view es ++ map named_value xs) (sym ends) ∙ h)) ∙ sym (values_as_listed all)

-- the same members in another order
pub sorted_members : (es xs : List Entry) → IsPermutation es xs → IsSorted (members_assembled xs)
    → members_assembled xs ≡ put_all (map named_view es) no_members
sorted_members es xs moved sorted =
    as_listed xs ∙ put_in_order (map named_view es) (map named_view xs) (IsPermutation-map named_view es xs moved)
    (subst IsSorted (as_listed xs) sorted)

-- these members before others
abbrev pub members_before : List Entry → Members → Members
members_before [] ms = ms
members_before (e ∷ es) ms = member e.0.now (assembled_view e.1) (members_before es ms)

pub before_none : (es : List Entry) → members_before es no_members ≡ members_assembled es
before_none [] = refl
before_none (e ∷ es) = ap (member e.0.now (assembled_view e.1)) (before_none es)

pub before_more : (es : List Entry) (e : Entry) (ms : Members)
    → members_before (es ++ e ∷ []) ms ≡ members_before es (member e.0.now (assembled_view e.1) ms)
before_more [] e ms = refl
before_more (f ∷ es) e ms = ap (member f.0.now (assembled_view f.1)) (before_more es e ms)

-- these items before others
abbrev pub items_before : List Assembled → Items → Items
items_before [] ds = ds
items_before (p ∷ ps) ds = item (assembled_view p) (items_before ps ds)

pub none_behind : (ps : List Assembled) → items_before ps no_items ≡ items_assembled ps
none_behind [] = refl
none_behind (p ∷ ps) = ap (item (assembled_view p)) (none_behind ps)

pub one_behind : (ps : List Assembled) (p : Assembled) (ds : Items)
    → items_before (ps ++ p ∷ []) ds ≡ items_before ps (item (assembled_view p) ds)
one_behind [] p ds = refl
one_behind (q ∷ ps) p ds = ap (item (assembled_view q)) (one_behind ps p ds)
