-- The members that definitions stand for which a map keeps by name, in any order.
use Rattle.std.proofs.Common.{◌≡◌, List, [], ◌∷◌, Bool, true, false, cond, Option, Some, None, option_map, is_some, Ordering, Less, Equal, Greater, nat_cmp, is_eq, refl, sym, ap, subst, ◌∙◌, true≢false, inl, inr, String, Global, string_bytes, string_cmp, length, arith, suc}
use Rattle.schemars_definitions.proofs.Words.{nat_list_cmp_total, is_eq-slice_cmp, is_text, bytes_eq-Decides, slice_cmp, IsDistinct, keys_of, lookup, match_ordering, ordering_reverse, is_lt, bytes_eq, ◌⊎◌, string_eq, IsTrue, ◌↔◌, unary_clauses, Data, Members, no_members, member, put, get_member, get_member-put, get_member-put_other, replaced, without, Text, IsAbove, get_member-replaced, get_member-without, IsSorted, above-trans, get_member-above, same_members, sorted-put, sorted-replaced, sorted-without, differ, flipped, get_member-later, members_by, members_put, HasKeysOnce}
use Rattle.std.specs.List.Sorted.{IsSorted as IsInOrder}
use Rattle.schemars_schema.proofs.Members.{get_member-replaced_other as replaced_other}

-- ---- members

-- a key that is before all others goes first
pub put-above : (k : Text) (d : Data) (ms : Members) → IsAbove k ms → put k d ms ≡ member k d ms
put-above k d no_members h = refl
put-above k d (member l e ms) h = rw h.0 refl

-- what is taken out is gone
pub get_member-gone : (k : Text) (ms : Members) → IsSorted ms → get_member k (without k ms) ≡ None
get_member-gone k no_members h = refl
get_member-gone k (member l e ms) h = go (bytes_eq k l) refl (get_member-gone k ms h.1)
  where
    go : (b : Bool) → bytes_eq k l ≡ b → get_member k (without k ms) ≡ None
        → get_member k (cond b ms (member l e (without k ms))) ≡ None
    go true is later = get_member-above k ms (subst (λ x. IsAbove x ms) (sym ((bytes_eq-Decides k l).0 is)) h.0)
    go false is later = get_member-later k l e (without k ms) is ∙ later

-- nothing is replaced where there is nothing
pub replaced-missing : (k : Text) (d : Data) (ms : Members) → get_member k ms ≡ None → replaced k d ms ≡ ms
replaced-missing k d no_members missing = refl
replaced-missing k d (member l e ms) missing = go (slice_cmp nat_cmp k l) refl (replaced-missing k d ms)
  where
    apart : bytes_eq k l ≡ false → (get_member k ms ≡ None → replaced k d ms ≡ ms)
        → replaced k d (member l e ms) ≡ member l e ms
    apart b later = rw b (ap (member l e) (later (sym (get_member-later k l e ms b) ∙ missing)))

    go : (o : Ordering) → slice_cmp nat_cmp k l ≡ o → (get_member k ms ≡ None → replaced k d ms ≡ ms)
        → replaced k d (member l e ms) ≡ member l e ms
    go Less is later = apart (sym (is_eq-slice_cmp k l) ∙ ap is_eq is) later
    go Equal is later =
        let here : get_member k (member l e ms) ≡ Some e = rw is refl in
        let other : None ≡ Some e = sym missing ∙ here in cc
    go Greater is later = apart (sym (is_eq-slice_cmp k l) ∙ ap is_eq is) later

-- members in their order are there once each
once : (ms : Members) → IsSorted ms → HasKeysOnce ms
once no_members h = tt
once (member k d ms) h = (get_member-above k ms h.0, once ms h.1)

-- what is put in is there
put-some : (k : Text) (d : Data) (ms : Members) → put k d ms ≡ no_members → ⊥
put-some k d no_members none = cc
put-some k d (member l e ms) none = go (slice_cmp nat_cmp k l) none
  where
    go : (o : Ordering) → match_ordering o (member k d (member l e ms)) (member l d ms) (member l e (put k d ms)) ≡ no_members → ⊥
    go Less none = cc
    go Equal none = cc
    go Greater none = cc

module _ {X : Type 0} (data_of : X → Data) where
  pub sorted-by_name : (es : List (String Global × X)) → IsSorted (members_put data_of es)
  sorted-by_name [] = tt
  sorted-by_name (e ∷ es) = sorted-put (string_bytes e.0) (data_of e.1) (members_put data_of es) (sorted-by_name es)

  pub once-by_name : (es : List (String Global × X)) → HasKeysOnce (members_put data_of es)
  once-by_name es = once (members_put data_of es) (sorted-by_name es)

  -- there are no members exactly where there are no entries
  pub is_none-by_name : (es : List (String Global × X)) (b : Bool) → IsTrue b ↔ (length es ≡ 0)
      → IsTrue b ↔ (members_put data_of es ≡ no_members)
  is_none-by_name es b h = (λ yes. none es (h.0 yes), λ no. h.1 (no_entries es no))
    where
      none : (es : List (String Global × X)) → length es ≡ 0 → members_put data_of es ≡ no_members
      none [] is = refl
      none (e ∷ es) is = absurd (omega (arith, is))

      no_entries : (es : List (String Global × X)) → members_put data_of es ≡ no_members → length es ≡ 0
      no_entries [] is = refl
      no_entries (e ∷ es) is = absurd (put-some (string_bytes e.0) (data_of e.1) (members_put data_of es) is)

  pub lookup-by_name : (q : Text) (es : List (String Global × X))
      → option_map data_of (lookup (is_text q) es) ≡ get_member q (members_put data_of es)
  lookup-by_name q [] = refl
  lookup-by_name q (e ∷ es) = go (bytes_eq q (string_bytes e.0)) refl (lookup-by_name q es)
    where
      k : Text
      k = string_bytes e.0

      ms : Members
      ms = members_put data_of es

      go : (b : Bool) → bytes_eq q k ≡ b → option_map data_of (lookup (is_text q) es) ≡ get_member q ms
          → option_map data_of (cond b (Some e.1) (lookup (is_text q) es)) ≡ get_member q (put k (data_of e.1) ms)
      go true is later =
          subst (λ x. Some (data_of e.1) ≡ get_member x (put k (data_of e.1) ms)) (sym ((bytes_eq-Decides q k).0 is))
          (sym (get_member-put k (data_of e.1) ms))
      go false is later = later ∙ sym (get_member-put_other q k (data_of e.1) ms (differ q k is))

  is_some-by : (o : Option X) → is_some (option_map data_of o) ≡ is_some o
  is_some-by None = refl
  is_some-by (Some x) = refl

  pub has_name-by_name : (q : Text) (es : List (String Global × X))
      → is_some (lookup (is_text q) es) ≡ is_some (get_member q (members_put data_of es))
  has_name-by_name q es = sym (is_some-by (lookup (is_text q) es)) ∙ ap is_some (lookup-by_name q es)

  -- members with these look-ups are those of the entries
  by_lookups : (es : List (String Global × X)) (ms : Members) → IsSorted ms
      → ((q : Text) → option_map data_of (lookup (is_text q) es) ≡ get_member q ms) → members_put data_of es ≡ ms
  by_lookups es ms sorted same =
      same_members (members_put data_of es) ms (sorted-by_name es) sorted (λ q. sym (lookup-by_name q es) ∙ same q)

  module _ (k : Text) (w : Option X) (old new : List (String Global × X))
      (updated : (q : Text) → lookup (is_text q) new ≡ cond (bytes_eq k q) w (lookup (is_text q) old)) where
    abbrev ms : Members
    ms = members_put data_of old

    -- an edit at one key that leaves the others
    edited : (ns : Members) → IsSorted ns → option_map data_of w ≡ get_member k ns
        → ((q : Text) → bytes_eq q k ≡ false → get_member q ms ≡ get_member q ns) → members_put data_of new ≡ ns
    edited ns sorted here others = by_lookups new ns sorted (λ q. ap (option_map data_of) (updated q) ∙ go q (bytes_eq k q) refl)
      where
        go : (q : Text) (b : Bool) → bytes_eq k q ≡ b
            → option_map data_of (cond b w (lookup (is_text q) old)) ≡ get_member q ns
        go q true is = here ∙ ap (λ x. get_member x ns) ((bytes_eq-Decides k q).0 is)
        go q false is = lookup-by_name q old ∙ others q (flipped k q is)

    pub added-by_name : (v : X) → w ≡ Some v → members_put data_of new ≡ put k (data_of v) ms
    added-by_name v is =
        edited (put k (data_of v) ms) (sorted-put k (data_of v) ms (sorted-by_name old))
        (ap (option_map data_of) is ∙ sym (get_member-put k (data_of v) ms))
        (λ q other. sym (get_member-put_other q k (data_of v) ms (differ q k other)))

    pub replaced-by_name : (v : X) → w ≡ Some v → (e : Data) → get_member k ms ≡ Some e
        → members_put data_of new ≡ replaced k (data_of v) ms
    replaced-by_name v is e there =
        edited (replaced k (data_of v) ms) (sorted-replaced k (data_of v) ms (sorted-by_name old))
        (ap (option_map data_of) is ∙ sym (get_member-replaced k (data_of v) e ms there))
        (λ q other. sym (replaced_other q k (data_of v) ms other))

    pub removed-by_name : w ≡ None → members_put data_of new ≡ without k ms
    removed-by_name is =
        edited (without k ms) (sorted-without k ms (sorted-by_name old))
        (ap (option_map data_of) is ∙ sym (get_member-gone k ms (sorted-by_name old)))
        (λ q other. sym (get_member-without q k ms other))

  -- ---- entries in the order of their names

  -- a key with this text, if there is one
  found : (q : Text) (es : List (String Global × X))
      → (lookup (is_text q) es ≡ None) ⊎ ((key : String Global) × (q ≡ string_bytes key))
  found q [] = inl refl
  found q (e ∷ es) = go (bytes_eq q (string_bytes e.0)) refl (found q es)
    where
      go : (b : Bool) → bytes_eq q (string_bytes e.0) ≡ b
          → (lookup (is_text q) es ≡ None) ⊎ ((key : String Global) × (q ≡ string_bytes key))
          → (cond b (Some e.1) (lookup (is_text q) es) ≡ None) ⊎ ((key : String Global) × (q ≡ string_bytes key))
      go true is later = inr (e.0, (bytes_eq-Decides q (string_bytes e.0)).0 is)
      go false is later = later

  same_lookup : (old new : List (String Global × X))
      → ((key : String Global) → lookup (string_eq key) new ≡ lookup (string_eq key) old)
      → (q : Text) → lookup (is_text q) old ≡ lookup (is_text q) new
  same_lookup old new same q = go (found q old) (found q new)
    where
      at : (key : String Global) → q ≡ string_bytes key → lookup (is_text q) old ≡ lookup (is_text q) new
      at key is = subst (λ x. lookup (is_text x) old ≡ lookup (is_text x) new) (sym is) (sym (same key))

      go : (lookup (is_text q) old ≡ None) ⊎ ((key : String Global) × (q ≡ string_bytes key))
          → (lookup (is_text q) new ≡ None) ⊎ ((key : String Global) × (q ≡ string_bytes key))
          → lookup (is_text q) old ≡ lookup (is_text q) new
      go (inl a) (inl b) = a ∙ sym b
      go (inl a) (inr b) = at b.0 b.1
      go (inr a) other = at a.0 a.1

  below : (k l : String Global) → is_lt (string_cmp l k) ≡ false → string_eq k l ≡ false
      → slice_cmp nat_cmp (string_bytes k) (string_bytes l) ≡ Less
  below k l sorted apart = go (slice_cmp nat_cmp (string_bytes k) (string_bytes l)) refl
    where
      go : (o : Ordering) → slice_cmp nat_cmp (string_bytes k) (string_bytes l) ≡ o → o ≡ Less
      go Less is = refl
      go Equal is = absurd (true≢false (sym (ap is_eq is) ∙ (is_eq-slice_cmp (string_bytes k) (string_bytes l) ∙ apart)))
      go Greater is = absurd (true≢false (ap is_lt (sym (ap ordering_reverse is)
          ∙ sym (nat_list_cmp_total.antisymm (string_bytes l) (string_bytes k))) ∙ sorted))

  later_in_order : (k : String Global) (ks : List (String Global)) → IsInOrder string_cmp (k ∷ ks) → IsInOrder string_cmp ks
  later_in_order k ks sorted = λ i d low high.
      simp unary_clauses (simp unary_clauses at (sorted (suc i) d (omega arith) (omega (arith, high))))

  ascending : (es : List (String Global × X)) → IsInOrder string_cmp (keys_of es) → IsDistinct string_eq (keys_of es)
      → IsSorted (members_by data_of es)
  unfolding IsDistinct
  ascending [] sorted apart = tt
  ascending (e ∷ []) sorted apart = (tt, tt)
  ascending (e ∷ f ∷ es) sorted apart =
      let less = below e.0 f.0 (sorted 0 e.0 (omega arith) (omega arith)) apart.0.0 in
      let later = ascending (f ∷ es) (later_in_order e.0 (keys_of (f ∷ es)) sorted) apart.1 in
      ((less, above-trans (string_bytes e.0) (string_bytes f.0) (members_by data_of es) less later.0), later)

  as_they_stand : (es : List (String Global × X)) → IsSorted (members_by data_of es)
      → members_put data_of es ≡ members_by data_of es
  as_they_stand [] sorted = refl
  as_they_stand (e ∷ es) sorted =
      ap (put (string_bytes e.0) (data_of e.1)) (as_they_stand es sorted.1)
      ∙ put-above (string_bytes e.0) (data_of e.1) (members_by data_of es) sorted.0

  -- entries that were sorted stand for the same members
  pub sorted_by_name : (old new : List (String Global × X)) → IsInOrder string_cmp (keys_of new) → IsDistinct string_eq (keys_of new)
      → ((key : String Global) → lookup (string_eq key) new ≡ lookup (string_eq key) old)
      → members_by data_of new ≡ members_put data_of old
  sorted_by_name old new sorted apart same =
      sym (as_they_stand new (ascending new sorted apart))
      ∙ sym (by_lookups old (members_put data_of new) (sorted-by_name new)
      (λ q. ap (option_map data_of) (same_lookup old new same q) ∙ lookup-by_name q new))
