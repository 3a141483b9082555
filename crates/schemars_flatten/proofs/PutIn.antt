-- Members that are put into other members, from either side.
use Rattle.std.proofs.Common.{◌≡◌, Option, List, [], ◌∷◌, ◌++◌, Some, None, Bool, true, false, Less, refl, sym, ap, subst, ◌∙◌, option_map, String, Global, string_cmp, string_bytes}
use Rattle.schemars_flatten.proofs.Words.{bytes_eq-Decides, AllByRecursion, IsStrictlySortedBy, keys_of, lookup, is_at, bytes_eq, unwrap_or, Result, Ok, Err, OnOk, is_ok, if◌then◌else◌, Data, item, Members, no_members, member, put, get_member, view, items_view, members_view, Entry, view-lookup, get_member-put, get_member-put_other, differ, get_member-later, Text, IsAbove, put_members, IsSorted, get_member-above, same_members, sorted-put, sorted-put_members, appended, has_keys_once}
use Rattle.serde_json.specs.declared.value.Value.{Value}
use Rattle.schemars_flatten.proofs.Lookups.{here_first, either_option, properties_at}

-- ---- members are in the order of their keys

above_entries : (e : Entry) (es : List Entry) → AllByRecursion (λ l. string_cmp e.0 l ≡ Less) (keys_of es)
    → IsAbove (string_bytes e.0) (members_view es)
above_entries e [] h = tt
above_entries e (f ∷ es) h = (h.0, above_entries e es h.1)

pub sorted_entries : (es : List Entry) → IsStrictlySortedBy string_cmp (keys_of es) → IsSorted (members_view es)
unfolding IsStrictlySortedBy
sorted_entries [] h = tt
sorted_entries (e ∷ es) h = (above_entries e es h.0, sorted_entries es h.1)

-- so each key is there once
once : (ms : Members) → IsSorted ms → has_keys_once ms ≡ true
once no_members sorted = refl
once (member k d ms) sorted = rw (get_member-above k ms sorted.0) (once ms sorted.1)

-- ---- look-ups

found : (q : Text) (ns ms : Members) → IsSorted ns
    → get_member q (put_members ns ms) ≡ either_option (get_member q ns) (get_member q ms)
found q ns ms sorted = properties_at q ns ms (once ns sorted)

either_none : (o : Option Data) → either_option o None ≡ o
either_none None = refl
either_none (Some d) = refl

either_some : (o : Option Data) (d : Data) (p : Option Data)
    → either_option (Some (unwrap_or o d)) p ≡ either_option o (Some d)
either_some None d p = refl
either_some (Some e) d p = refl

-- ---- the members so far, and what is left

-- where nothing is left, the members so far are the whole
pub put_into_none : (ms : Members) → IsSorted ms → put_members ms no_members ≡ ms
put_into_none ms sorted =
    same_members (put_members ms no_members) ms (sorted-put_members ms no_members tt) sorted
    (λ q. found q ms no_members sorted ∙ either_none (get_member q ms))

-- the next member goes in, unless its name is there
pub put_next : (k : Text) (d : Data) (ms ns : Members) → IsSorted ms → IsSorted (member k d ns)
    → put_members (put k (unwrap_or (get_member k ms) d) ms) ns ≡ put_members ms (member k d ns)
put_next k d ms ns sorted rest =
    same_members (put_members new ns) (put_members ms (member k d ns)) (sorted-put_members new ns rest.1)
    (sorted-put_members ms (member k d ns) rest)
    (λ q. found q new ns new_sorted ∙ (same q (bytes_eq q k) refl ∙ sym (found q ms (member k d ns) sorted)))
  where
    value : Data
    value = unwrap_or (get_member k ms) d

    new : Members
    new = put k value ms

    new_sorted : IsSorted new
    new_sorted = sorted-put k value ms sorted

    same : (q : Text) (b : Bool) → bytes_eq q k ≡ b
        → either_option (get_member q new) (get_member q ns) ≡ either_option (get_member q ms) (get_member q (member k d ns))
    same q true is =
        let name : q ≡ k = (bytes_eq-Decides q k).0 is in
        let put_in : get_member q new ≡ Some value = ap (λ x. get_member x new) name ∙ get_member-put k value ms in
        ap (λ o. either_option o (get_member q ns)) put_in
        ∙ (either_some (get_member k ms) d (get_member q ns)
        ∙ (ap (λ x. either_option (get_member x ms) (Some d)) (sym name)
        ∙ ap (either_option (get_member q ms)) (sym (here_first q k d ns is))))
    same q false is =
        ap (λ o. either_option o (get_member q ns)) (get_member-put_other q k value ms (differ q k is))
        ∙ ap (either_option (get_member q ms)) (sym (get_member-later q k d ns is))

-- ---- the entries of a map, one after another

pub put_each_missing : (es left : List Entry) (e : Entry) (ms new whole : Members) → es ≡ e ∷ left → IsSorted ms
    → IsSorted (members_view es) → put_members ms (members_view es) ≡ whole
    → new ≡ put (string_bytes e.0) (unwrap_or (get_member (string_bytes e.0) ms) (view e.1)) ms
    → IsSorted new × IsSorted (members_view left) × (put_members new (members_view left) ≡ whole)
put_each_missing es left e ms new whole steps sorted rest before made =
    let left_sorted : IsSorted (members_view (e ∷ left)) = subst (λ xs. IsSorted (members_view xs)) steps rest in
    let next : put_members ms (members_view (e ∷ left)) ≡ whole =
    ap (λ xs. put_members ms (members_view xs)) (sym steps) ∙ before in
    let k = string_bytes e.0 in
    rw made (
      sorted-put k (unwrap_or (get_member k ms) (view e.1)) ms sorted,
      left_sorted.1,
      put_next k (view e.1) ms (members_view left) sorted left_sorted ∙ next,
    )

pub put_whole : (es : List Entry) (ms whole : Members) → es ≡ [] → IsSorted ms
    → put_members ms (members_view es) ≡ whole → ms ≡ whole
put_whole es ms whole ends sorted before =
    sym (put_into_none ms sorted) ∙ (ap (λ left. put_members ms (members_view left)) (sym ends) ∙ before)

-- ---- a map's entry

-- the value that an entry has once one is put in where it was missing
pub view-entry_or : (k : String Global) (es : List Entry) (o : Option Value) (v w : Value)
    → o ≡ lookup (is_at (string_cmp k)) es → w ≡ unwrap_or o v
    → view w ≡ unwrap_or (get_member (string_bytes k) (members_view es)) (view v)
view-entry_or k es o v w found is =
    ap view is ∙ (seen o ∙ ap (λ p. unwrap_or p (view v)) (ap (option_map view) found ∙ view-lookup (string_bytes k) es))
  where
    seen : (p : Option Value) → view (unwrap_or p v) ≡ unwrap_or (option_map view p) (view v)
    seen None = refl
    seen (Some x) = refl

-- ---- lists

pub items_view-appended : (xs ys : List Value) → items_view (xs ++ ys) ≡ appended (items_view xs) (items_view ys)
items_view-appended [] ys = refl
items_view-appended (x ∷ xs) ys = ap (item (view x)) (items_view-appended xs ys)

pub appended_to : {E : Type 0} (r : Result (Unit {0}) E) (xs ys new : List Value)
    → new ≡ (if is_ok r then xs ++ ys else xs) → OnOk r (items_view new ≡ appended (items_view xs) (items_view ys))
appended_to (Ok done) xs ys new is = ap items_view is ∙ items_view-appended xs ys
appended_to (Err e) xs ys new is = tt
