-- The transforms of the drafts make the same of members that differ in the value of one key, but for what they make of that.
use Rattle.std.proofs.Common.{◌≡◌, ◌≢◌, ◌⊎◌, inl, inr, suc, Option, Some, None, Bool, true, false, Ordering, Less, Equal, Greater, nat_cmp, codes, refl, sym, ap, ◌∙◌, subst}
use Rattle.schemars_headline.proofs.Words.{bytes_eq, if◌then◌else◌, ◌==◌, match_ordering, slice_cmp, exact_bytes, Data, object, Members, no_members, member, put, get_member, members_len, Text, without, place_under, judge, IsSilent, form_at, reference_moved, without_siblings, remove_ref_siblings, old_items_moved, prefix_moved, prefix_as_items, replace_prefix_items, closed_by, unevaluated_as_additional, replace_unevaluated_properties, change_rules, walked, Context, IsKeyword, apart, judge-agree, forms, in_keywords, none-walked}

-- the same keys in the same order, with the same values but under this key
abbrev pub DifferAt : Text → Members → Members → Type 0
DifferAt key no_members no_members = Unit {0}
DifferAt key no_members (member l e ns) = ⊥
DifferAt key (member k d ms) no_members = ⊥
DifferAt key (member k d ms) (member l e ns) = (k ≡ l) × ((k ≡ key) ⊎ (d ≡ e)) × DifferAt key ms ns

-- two objects of such members
abbrev pub DifferIn : Text → Data → Data → Type 0
DifferIn key d e = (ms : Members) × (ns : Members) × (d ≡ object ms) × (e ≡ object ns) × DifferAt key ms ns

module _ (key : Text) where
  pub differ-same : (ms : Members) → DifferAt key ms ms
  differ-same no_members = tt
  differ-same (member k d ms) = (refl, inr refl, differ-same ms)

  differ-len : (ms ns : Members) → DifferAt key ms ns → members_len ms ≡ members_len ns
  differ-len no_members no_members h = refl
  differ-len no_members (member l e ns) h = absurd h
  differ-len (member k d ms) no_members h = absurd h
  differ-len (member k d ms) (member l e ns) h = ap suc (differ-len ms ns h.2)

  differ-get : (k : Text) (ms ns : Members) → k ≢ key → DifferAt key ms ns → get_member k ms ≡ get_member k ns
  differ-get k no_members no_members out h = refl
  differ-get k no_members (member l e ns) out h = absurd h
  differ-get k (member l d ms) no_members out h = absurd h
  differ-get k (member l d ms) (member m e ns) out h =
      subst (λ x. get_member k (member l d ms) ≡ get_member k (member x e ns)) h.0
      (go (slice_cmp nat_cmp k l) refl (differ-get k ms ns out h.2))
    where
      here : k ≡ l → (l ≡ key) ⊎ (d ≡ e) → Some d ≡ Some e
      here same (inl at) = absurd (out (same ∙ at))
      here same (inr alike) = ap Some alike

      go : (o : Ordering) → slice_cmp nat_cmp k l ≡ o → get_member k ms ≡ get_member k ns
          → match_ordering o (get_member k ms) (Some d) (get_member k ms) ≡ match_ordering o (get_member k ns) (Some e) (get_member k ns)
      go Less is rest = rest
      go Equal is rest = here (exact_bytes k l is) h.1
      go Greater is rest = rest

  differ-without : (k : Text) (ms ns : Members) → DifferAt key ms ns → DifferAt key (without k ms) (without k ns)
  differ-without k no_members no_members h = tt
  differ-without k no_members (member l e ns) h = absurd h
  differ-without k (member l d ms) no_members h = absurd h
  differ-without k (member l d ms) (member m e ns) h =
      subst (λ x. DifferAt key (without k (member l d ms)) (if bytes_eq k x then ns else member m e (without k ns))) h.0
      (go (bytes_eq k l) (differ-without k ms ns h.2))
    where
      go : (b : Bool) → DifferAt key (without k ms) (without k ns)
          → DifferAt key (if b then ms else member l d (without k ms)) (if b then ns else member m e (without k ns))
      go true rest = h.2
      go false rest = (h.0, h.1, rest)

  differ-put : (k : Text) (d e : Data) (ms ns : Members) → (k ≡ key) ⊎ (d ≡ e) → DifferAt key ms ns
      → DifferAt key (put k d ms) (put k e ns)
  differ-put k d e no_members no_members same h = (refl, same, tt)
  differ-put k d e no_members (member m y ns) same h = absurd h
  differ-put k d e (member l x ms) no_members same h = absurd h
  differ-put k d e (member l x ms) (member m y ns) same h =
      subst (λ z. DifferAt key (put k d (member l x ms))
      (match_ordering (slice_cmp nat_cmp k z) (member k e (member m y ns)) (member m e ns) (member m y (put k e ns)))) h.0
      (go (slice_cmp nat_cmp k l) refl (differ-put k d e ms ns same h.2))
    where
      here : k ≡ l → (k ≡ key) ⊎ (d ≡ e) → (l ≡ key) ⊎ (d ≡ e)
      here at (inl is) = inl (sym at ∙ is)
      here at (inr alike) = inr alike

      go : (o : Ordering) → slice_cmp nat_cmp k l ≡ o → DifferAt key (put k d ms) (put k e ns)
          → DifferAt key (match_ordering o (member k d (member l x ms)) (member l d ms) (member l x (put k d ms)))
          (match_ordering o (member k e (member m y ns)) (member m e ns) (member m y (put k e ns)))
      go Less is rest = (refl, same, h)
      go Equal is rest = (h.0, here (exact_bytes k l is) same, h.2)
      go Greater is rest = (h.0, h.1, rest)

  -- so are the members put in under the key
  pub differ-placed : (d e : Data) (ms : Members) → DifferIn key (object (put key d ms)) (object (put key e ms))
  differ-placed d e ms = (put key d ms, put key e ms, refl, refl, differ-put key d e ms ms (inl refl) (differ-same ms))

  differ-walked : (f : Data → Data) (ms ns : Members) → DifferAt key ms ns → DifferAt key (walked f ms) (walked f ns)
  unfolding in_keywords
  differ-walked f no_members no_members h = tt
  differ-walked f no_members (member l e ns) h = absurd h
  differ-walked f (member k d ms) no_members h = absurd h
  differ-walked f (member k d ms) (member l e ns) h = (h.0, here h.1, differ-walked f ms ns h.2)
    where
      here : (k ≡ key) ⊎ (d ≡ e)
          → (k ≡ key) ⊎ (form_at (place_under k) d (forms (change_rules f) tt d) ≡ form_at (place_under l) e (forms (change_rules f) tt e))
      here (inl at) = inl at
      here (inr same) = inr (λ i. form_at (place_under (h.0 i)) (same i) (forms (change_rules f) tt (same i)))

  -- ---- each transform, where the key is none that is read

  module _ (silent : IsSilent key) where
    read-apart : (k : Text) → IsKeyword k → k ≢ key
    read-apart k is same = apart k key is silent same

    -- what is no keyword says nothing
    pub judge-differ : (c : Context) (d e : Data) → DifferIn key d e → judge c d ≡ judge c e
    judge-differ c d e h =
        ap (judge c) h.2 ∙ (judge-agree c h.0 h.1 (λ k is. differ-get k h.0 h.1 (read-apart k is) h.4) ∙ sym (ap (judge c) h.3))

    pub none-differ : (k : Text) → IsKeyword k → (ms ns : Members) → DifferAt key ms ns → get_member k ns ≡ None → get_member k ms ≡ None
    none-differ k is ms ns h none = differ-get k ms ns (read-apart k is) h ∙ none

    unevaluated : (ms : Members) → get_member (codes "unevaluatedProperties") ms ≡ None → replace_unevaluated_properties (object ms)
        ≡ object (without (codes "unevaluatedProperties") (walked unevaluated_as_additional ms))
    unfolding forms
    unevaluated ms none =
        ap (λ o. closed_by o (object (without (codes "unevaluatedProperties") (walked unevaluated_as_additional ms))))
        (none-walked unevaluated_as_additional (codes "unevaluatedProperties") ms none)

    pub unevaluated-differ : (ms ns : Members) → get_member (codes "unevaluatedProperties") ns ≡ None → DifferAt key ms ns
        → DifferIn key (replace_unevaluated_properties (object ms)) (replace_unevaluated_properties (object ns))
    unevaluated-differ ms ns none h = (
      without (codes "unevaluatedProperties") (walked unevaluated_as_additional ms),
      without (codes "unevaluatedProperties") (walked unevaluated_as_additional ns),
      unevaluated ms (none-differ (codes "unevaluatedProperties") refl ms ns h none),
      unevaluated ns none,
      differ-without (codes "unevaluatedProperties") (walked unevaluated_as_additional ms) (walked unevaluated_as_additional ns)
          (differ-walked unevaluated_as_additional ms ns h),
    )

    -- without a reference, or alone
    abbrev rest_of : Bool → Members → Members
    rest_of b ns = if b then ns else without (codes "$ref") ns

    siblings : (ms : Members) → get_member (codes "$ref") ms ≡ None → remove_ref_siblings (object ms)
        ≡ object (rest_of (members_len (walked without_siblings ms) == 1) (walked without_siblings ms))
    unfolding forms
    siblings ms none = go (members_len (walked without_siblings ms) == 1)
      where
        ns : Members
        ns = walked without_siblings ms

        go : (b : Bool) → (if b then object ns else reference_moved (get_member (codes "$ref") ns) (object (without (codes "$ref") ns)))
            ≡ object (rest_of b ns)
        go true = refl
        go false =
            ap (λ o. reference_moved o (object (without (codes "$ref") ns))) (none-walked without_siblings (codes "$ref") ms none)

    pub siblings-differ : (ms ns : Members) → get_member (codes "$ref") ns ≡ None → DifferAt key ms ns
        → DifferIn key (remove_ref_siblings (object ms)) (remove_ref_siblings (object ns))
    siblings-differ ms ns none h = (
      rest_of (members_len m == 1) m,
      rest_of (members_len n == 1) n,
      siblings ms (none-differ (codes "$ref") refl ms ns h none),
      siblings ns none,
      subst (λ len. DifferAt key (rest_of (members_len m == 1) m) (rest_of (len == 1) n)) (differ-len m n inside) (go (members_len m == 1)),
    )
      where
        m : Members
        m = walked without_siblings ms

        n : Members
        n = walked without_siblings ns

        inside : DifferAt key m n
        inside = differ-walked without_siblings ms ns h

        go : (b : Bool) → DifferAt key (rest_of b m) (rest_of b n)
        go true = inside
        go false = differ-without (codes "$ref") m n inside

    pub prefix-differ : (ms ns : Members) → DifferAt key ms ns
        → DifferIn key (replace_prefix_items (object ms)) (replace_prefix_items (object ns))
    unfolding forms
    prefix-differ ms ns h =
        subst (λ o. DifferIn key (prefix_moved (get_member (codes "prefixItems") m) (object m_rest)) (prefix_moved o (object n_rest)))
        (differ-get (codes "prefixItems") m n (read-apart (codes "prefixItems") refl) inside)
        (moved (get_member (codes "prefixItems") m))
      where
        m : Members
        m = walked prefix_as_items ms

        n : Members
        n = walked prefix_as_items ns

        inside : DifferAt key m n
        inside = differ-walked prefix_as_items ms ns h

        m_rest : Members
        m_rest = without (codes "prefixItems") m

        n_rest : Members
        n_rest = without (codes "prefixItems") n

        outside : DifferAt key m_rest n_rest
        outside = differ-without (codes "prefixItems") m n inside

        old : (q : Data) (o : Option Data) → DifferIn key (old_items_moved o (object (put (codes "items") q m_rest)))
            (old_items_moved o (object (put (codes "items") q n_rest)))
        old q None = (
          put (codes "items") q m_rest,
          put (codes "items") q n_rest,
          refl,
          refl,
          differ-put (codes "items") q q m_rest n_rest (inr refl) outside,
        )
        old q (Some e) = (
          put (codes "additionalItems") e (put (codes "items") q m_rest),
          put (codes "additionalItems") e (put (codes "items") q n_rest),
          refl,
          refl,
          differ-put (codes "additionalItems") e e (put (codes "items") q m_rest) (put (codes "items") q n_rest) (inr refl)
              (differ-put (codes "items") q q m_rest n_rest (inr refl) outside),
        )

        moved : (o : Option Data) → DifferIn key (prefix_moved o (object m_rest)) (prefix_moved o (object n_rest))
        moved None = (m_rest, n_rest, refl, refl, outside)
        moved (Some q) =
            subst (λ o. DifferIn key (old_items_moved (get_member (codes "items") m_rest) (object (put (codes "items") q m_rest)))
            (old_items_moved o (object (put (codes "items") q n_rest))))
            (differ-get (codes "items") m_rest n_rest (read-apart (codes "items") refl) outside)
            (old q (get_member (codes "items") m_rest))

-- what is made of two such documents, where it is known of their members
pub differ-then : (key : Text) (T : Data → Data) (P : Members → Type 0)
    → ((ms ns : Members) → P ns → DifferAt key ms ns → DifferIn key (T (object ms)) (T (object ns))) → (d e : Data) → DifferIn key d e
    → ((ns : Members) → e ≡ object ns → P ns) → DifferIn key (T d) (T e)
differ-then key T P step d e h has =
    subst (λ x. DifferIn key (T x) (T e)) (sym h.2)
    (subst (λ x. DifferIn key (T (object h.0)) (T x)) (sym h.3) (step h.0 h.1 (has h.1 h.3) h.4))
