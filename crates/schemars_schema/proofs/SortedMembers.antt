-- Members in the order of their keys, each once.
use Rattle.std.proofs.Common.{◌≡◌, List, [], ◌∷◌, Some, None, Bool, true, false, Ordering, Less, Equal, Greater, nat_cmp, string_cmp, String, Global, string_bytes, refl, sym, ap, ◌∙◌}
use Rattle.schemars_schema.proofs.Words.{nat_list_cmp_total, exact_bytes, bytes_eq-Decides, bytes_eq, if◌then◌else◌, ⊤, match_ordering, ordering_reverse, slice_cmp, AllByRecursion, IsStrictlySortedBy, keys_of, members_view, Entry, Data, Members, no_members, member, put, get_member, Text, IsAbove, put_all, put_members, replaced, without, get_member-here, get_member-later}

-- members in the order of their keys, each once
abbrev pub IsSorted : Members → Type 0
IsSorted no_members = ⊤
IsSorted (member k d ms) = IsAbove k ms × IsSorted ms

pub above-trans : (j k : Text) (ms : Members) → slice_cmp nat_cmp j k ≡ Less → IsAbove k ms → IsAbove j ms
above-trans j k no_members h i = tt
above-trans j k (member l d ms) h i = (nat_list_cmp_total.trans j k l h i.0, above-trans j k ms h i.1)

turned : (k l : Text) → slice_cmp nat_cmp k l ≡ Greater → slice_cmp nat_cmp l k ≡ Less
turned k l is = nat_list_cmp_total.antisymm l k ∙ ap ordering_reverse is

-- ---- edits keep the order

above-put : (j k : Text) (d : Data) (ms : Members) → slice_cmp nat_cmp j k ≡ Less → IsAbove j ms → IsAbove j (put k d ms)
above-put j k d no_members h i = (h, tt)
above-put j k d (member l e ms) h i = go (slice_cmp nat_cmp k l) (above-put j k d ms h i.1)
  where
    go : (o : Ordering) → IsAbove j (put k d ms)
        → IsAbove j (match_ordering o (member k d (member l e ms)) (member l d ms) (member l e (put k d ms)))
    go Less later = (h, i)
    go Equal later = i
    go Greater later = (i.0, later)

pub sorted-put : (k : Text) (d : Data) (ms : Members) → IsSorted ms → IsSorted (put k d ms)
sorted-put k d no_members h = (tt, tt)
sorted-put k d (member l e ms) h = go (slice_cmp nat_cmp k l) refl (sorted-put k d ms h.1)
  where
    go : (o : Ordering) → slice_cmp nat_cmp k l ≡ o → IsSorted (put k d ms)
        → IsSorted (match_ordering o (member k d (member l e ms)) (member l d ms) (member l e (put k d ms)))
    go Less is later = ((is, above-trans k l ms is h.0), h)
    go Equal is later = h
    go Greater is later = (above-put l k d ms (turned k l is) h.0, later)

pub sorted-put_all : (es : List (Text × Data)) (ms : Members) → IsSorted ms → IsSorted (put_all es ms)
sorted-put_all [] ms h = h
sorted-put_all (e ∷ es) ms h = sorted-put_all es (put e.0 e.1 ms) (sorted-put e.0 e.1 ms h)

pub sorted-put_members : (ns ms : Members) → IsSorted ms → IsSorted (put_members ns ms)
sorted-put_members no_members ms h = h
sorted-put_members (member k d ns) ms h = sorted-put_members ns (put k d ms) (sorted-put k d ms h)

above-replaced : (j k : Text) (d : Data) (ms : Members) → IsAbove j ms → IsAbove j (replaced k d ms)
above-replaced j k d no_members h = tt
above-replaced j k d (member l e ms) h = go (bytes_eq k l) (above-replaced j k d ms h.1)
  where
    go : (b : Bool) → IsAbove j (replaced k d ms) → IsAbove j (if b then member l d ms else member l e (replaced k d ms))
    go true later = h
    go false later = (h.0, later)

pub sorted-replaced : (k : Text) (d : Data) (ms : Members) → IsSorted ms → IsSorted (replaced k d ms)
sorted-replaced k d no_members h = tt
sorted-replaced k d (member l e ms) h = go (bytes_eq k l) (sorted-replaced k d ms h.1)
  where
    go : (b : Bool) → IsSorted (replaced k d ms) → IsSorted (if b then member l d ms else member l e (replaced k d ms))
    go true later = h
    go false later = (above-replaced l k d ms h.0, later)

above-without : (j k : Text) (ms : Members) → IsAbove j ms → IsAbove j (without k ms)
above-without j k no_members h = tt
above-without j k (member l e ms) h = go (bytes_eq k l) (above-without j k ms h.1)
  where
    go : (b : Bool) → IsAbove j (without k ms) → IsAbove j (if b then ms else member l e (without k ms))
    go true later = h.1
    go false later = (h.0, later)

pub sorted-without : (k : Text) (ms : Members) → IsSorted ms → IsSorted (without k ms)
sorted-without k no_members h = tt
sorted-without k (member l e ms) h = go (bytes_eq k l) (sorted-without k ms h.1)
  where
    go : (b : Bool) → IsSorted (without k ms) → IsSorted (if b then ms else member l e (without k ms))
    go true later = h.1
    go false later = (above-without l k ms h.0, later)

-- ---- look-ups

-- a key that is before all others is not there
pub get_member-above : (k : Text) (ms : Members) → IsAbove k ms → get_member k ms ≡ None
get_member-above k no_members h = refl
get_member-above k (member l d ms) h = rw h.0 (get_member-above k ms h.1)

-- members with the same look-ups are the same
pub same_members : (ms ns : Members) → IsSorted ms → IsSorted ns → ((k : Text) → get_member k ms ≡ get_member k ns) → ms ≡ ns
same_members no_members no_members h i same = refl
same_members no_members (member l e ns) h i same = let other = same l ∙ get_member-here l e ns in cc
same_members (member k d ms) no_members h i same = let other = sym (get_member-here k d ms) ∙ same k in cc
same_members (member k d ms) (member l e ns) h i same =
    go (slice_cmp nat_cmp k l) refl (same_members ms ns h.1 i.1)
  where
    go : (o : Ordering) → slice_cmp nat_cmp k l ≡ o → (((q : Text) → get_member q ms ≡ get_member q ns) → ms ≡ ns)
        → member k d ms ≡ member l e ns
    go Less is later =
        let none : get_member k (member l e ns) ≡ None = get_member-above k (member l e ns) (is, above-trans k l ns is i.0) in
        let other : Some d ≡ None = sym (get_member-here k d ms) ∙ (same k ∙ none) in cc
    go Greater is later =
        let less = turned k l is in
        let none : get_member l (member k d ms) ≡ None = get_member-above l (member k d ms) (less, above-trans l k ms less h.0) in
        let other : Some e ≡ None = sym (get_member-here l e ns) ∙ (sym (same l) ∙ none) in cc
    go Equal is later =
        let name : k ≡ l = exact_bytes k l is in
        let here : Some d ≡ Some e =
        sym (get_member-here k d ms) ∙ (same k ∙ (ap (λ x. get_member x (member l e ns)) name ∙ get_member-here l e ns)) in
        let value : d ≡ e = cc in
        let rest : ms ≡ ns = later (λ q. below q (bytes_eq q k) refl) in
        cc
      where
        below : (q : Text) (b : Bool) → bytes_eq q k ≡ b → get_member q ms ≡ get_member q ns
        below q true at =
            let same_name : q ≡ k = (bytes_eq-Decides q k).0 at in
            let name : k ≡ l = exact_bytes k l is in
            ap (λ x. get_member x ms) same_name ∙ (get_member-above k ms h.0
            ∙ (sym (get_member-above l ns i.0) ∙ ap (λ x. get_member x ns) (sym (same_name ∙ name))))
        below q false at =
            let name : k ≡ l = exact_bytes k l is in
            sym (get_member-later q k d ms at) ∙ (same q ∙ get_member-later q l e ns (ap (bytes_eq q) (sym name) ∙ at))

-- ---- members of a map are in the order of its keys

above-entries : (e : Entry) (es : List Entry) → AllByRecursion (λ l. string_cmp e.0 l ≡ Less) (keys_of es)
    → IsAbove (string_bytes e.0) (members_view es)
above-entries e [] h = tt
above-entries e (f ∷ es) h = (h.0, above-entries e es h.1)

pub sorted-entries : (es : List Entry) → IsStrictlySortedBy string_cmp (keys_of es) → IsSorted (members_view es)
unfolding IsStrictlySortedBy
sorted-entries [] h = tt
sorted-entries (e ∷ es) h = (above-entries e es h.0, sorted-entries es h.1)
