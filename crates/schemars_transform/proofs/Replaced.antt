-- Members of which one is replaced, edited at other keys.
use Rattle.std.proofs.Common.{◌≡◌, suc, Some, None, option_map, Bool, true, false, Ordering, Less, Equal, Greater, nat_cmp, refl, sym, ap, ◌∙◌, subst}
use Rattle.schemars_transform.proofs.Words.{exact_bytes, bytes_eq-Decides, [], ◌++◌, bytes_eq, if◌then◌else◌, match_ordering, slice_cmp, Data, object, Members, no_members, member, put, members_len, get_member, Text, without, replaced, differ, unequal, get_member-member, Rules, form_at, forms, in_keywords, keywords_more, keywords_none, Names, names_in, names_under, names_in_keywords, property_names}

-- two keys that differ are not both this one
not_both : (k q l : Text) → bytes_eq k q ≡ false → bytes_eq q l ≡ true → bytes_eq k l ≡ true → ⊥
not_both k q l apart at too =
    let same : bytes_eq k q ≡ true = (bytes_eq-Decides k q).1 ((bytes_eq-Decides k l).0 too ∙ sym ((bytes_eq-Decides q l).0 at)) in
    let never : true ≡ false = sym same ∙ apart in cc

pub turned : (k q : Text) → bytes_eq k q ≡ false → bytes_eq q k ≡ false
turned k q apart = unequal q k (λ e. differ k q apart (sym e))

pub len-replaced : (q : Text) (x : Data) (ms : Members) → members_len (replaced q x ms) ≡ members_len ms
len-replaced q x no_members = refl
len-replaced q x (member l d ms) = go (bytes_eq q l) (len-replaced q x ms)
  where
    go : (b : Bool) → members_len (replaced q x ms) ≡ members_len ms
        → members_len (if b then member l x ms else member l d (replaced q x ms)) ≡ members_len (member l d ms)
    go true later = refl
    go false later = ap suc later

module _ (k q : Text) (apart : bytes_eq k q ≡ false) (x : Data) where
  pub without-replaced : (ms : Members) → without k (replaced q x ms) ≡ replaced q x (without k ms)
  without-replaced no_members = refl
  without-replaced (member l d ms) = go (bytes_eq q l) refl (bytes_eq k l) refl (without-replaced ms)
    where
      go : (b : Bool) → bytes_eq q l ≡ b → (c : Bool) → bytes_eq k l ≡ c → without k (replaced q x ms) ≡ replaced q x (without k ms)
          → without k (if b then member l x ms else member l d (replaced q x ms))
          ≡ replaced q x (if c then ms else member l d (without k ms))
      go true at true too later = absurd (not_both k q l apart at too)
      go true at false too later = rw (too, at) refl
      go false at true too later = rw too refl
      go false at false too later = rw (too, at) (ap (member l d) later)

  pub replaced-replaced : (y : Data) (ms : Members) → replaced k y (replaced q x ms) ≡ replaced q x (replaced k y ms)
  replaced-replaced y no_members = refl
  replaced-replaced y (member l d ms) = go (bytes_eq q l) refl (bytes_eq k l) refl (replaced-replaced y ms)
    where
      go : (b : Bool) → bytes_eq q l ≡ b → (c : Bool) → bytes_eq k l ≡ c → replaced k y (replaced q x ms) ≡ replaced q x (replaced k y ms)
          → replaced k y (if b then member l x ms else member l d (replaced q x ms))
          ≡ replaced q x (if c then member l y ms else member l d (replaced k y ms))
      go true at true too later = absurd (not_both k q l apart at too)
      go true at false too later = rw (too, at) refl
      go false at true too later = rw (too, at) refl
      go false at false too later = rw (too, at) (ap (member l d) later)

  pub put-replaced : (d : Data) (ms : Members) → put k d (replaced q x ms) ≡ replaced q x (put k d ms)
  put-replaced d no_members = rw (turned k q apart) refl
  put-replaced d (member l e ms) = go (slice_cmp nat_cmp k l) refl (bytes_eq q l) refl (put-replaced d ms)
    where
      go : (o : Ordering) → slice_cmp nat_cmp k l ≡ o → (b : Bool) → bytes_eq q l ≡ b → put k d (replaced q x ms) ≡ replaced q x (put k d ms)
          → put k d (if b then member l x ms else member l e (replaced q x ms))
          ≡ replaced q x (match_ordering o (member k d (member l e ms)) (member l d ms) (member l e (put k d ms)))
      go Less is true at later = rw (is, turned k q apart, at) refl
      go Less is false at later = rw (is, turned k q apart, at) refl
      go Equal is true at later = absurd (not_both k q l apart at ((bytes_eq-Decides k l).1 (exact_bytes k l is)))
      go Equal is false at later = rw (is, at) refl
      go Greater is true at later = rw (is, at) refl
      go Greater is false at later = rw (is, at) (ap (member l e) later)

-- names under a keyword that holds none
pub names-replaced : (q : Text) (x : Data) → ((d : Data) (n : Names) → names_under q d n ≡ []) → (ms : Members)
    → names_in_keywords (replaced q x ms) ≡ names_in_keywords ms
unfolding names_in_keywords
names-replaced q x quiet no_members = refl
names-replaced q x quiet (member l d ms) = go (bytes_eq q l) refl (names-replaced q x quiet ms)
  where
    none : bytes_eq q l ≡ true → (e : Data) → names_under l e (names_in e) ≡ []
    none at e = subst (λ j. names_under j e (names_in e) ≡ []) ((bytes_eq-Decides q l).0 at) (quiet e (names_in e))

    go : (b : Bool) → bytes_eq q l ≡ b → names_in_keywords (replaced q x ms) ≡ names_in_keywords ms
        → names_in_keywords (if b then member l x ms else member l d (replaced q x ms)) ≡ names_in_keywords (member l d ms)
    go true at later = ap (λ ns. ns ++ names_in_keywords ms) (none at x ∙ sym (none at d))
    go false at later = ap (λ ns. names_under l d (names_in d) ++ ns) later

-- what is replaced is rewritten by itself
pub keywords-replaced : {R : Type 0} (ρ : Rules R) (r : R) (q : Text) (x : Data) (ms : Members)
    → in_keywords ρ r (replaced q x ms) ≡ replaced q (form_at (ρ.place r q x) x (forms ρ r x)) (in_keywords ρ r ms)
keywords-replaced ρ r q x no_members = keywords_none ρ r ∙ sym (ap (replaced q (form_at (ρ.place r q x) x (forms ρ r x))) (keywords_none ρ r))
keywords-replaced ρ r q x (member l d ms) = go (bytes_eq q l) refl (keywords-replaced ρ r q x ms)
  where
    y : Data
    y = form_at (ρ.place r q x) x (forms ρ r x)

    first : Data
    first = form_at (ρ.place r l d) d (forms ρ r d)

    back : replaced q y (member l first (in_keywords ρ r ms)) ≡ replaced q y (in_keywords ρ r (member l d ms))
    back = ap (replaced q y) (sym (keywords_more ρ r l d ms))

    go : (b : Bool) → bytes_eq q l ≡ b → in_keywords ρ r (replaced q x ms) ≡ replaced q y (in_keywords ρ r ms)
        → in_keywords ρ r (if b then member l x ms else member l d (replaced q x ms)) ≡ replaced q y (in_keywords ρ r (member l d ms))
    go true at later =
        keywords_more ρ r l x ms
        ∙ (ap (λ j. member l (form_at (ρ.place r j x) x (forms ρ r x)) (in_keywords ρ r ms)) (sym ((bytes_eq-Decides q l).0 at))
        ∙ (sym (ap (λ b. if b then member l y (in_keywords ρ r ms) else member l first (replaced q y (in_keywords ρ r ms))) at) ∙ back))
    go false at later =
        keywords_more ρ r l d (replaced q x ms) ∙ (ap (member l first) later
        ∙ (sym (ap (λ b. if b then member l y (in_keywords ρ r ms) else member l first (replaced q y (in_keywords ρ r ms))) at) ∙ back))

-- the value that is there, put over another one
-- what is made of the value of a keyword
abbrev pub keyword_form : {R : Type 0} → Rules R → R → Text → Data → Data
keyword_form ρ r k d = form_at (ρ.place r k d) d (forms ρ r d)

pub keywords-get : {R : Type 0} (ρ : Rules R) (r : R) (q : Text) (ms : Members)
    → get_member q (in_keywords ρ r ms) ≡ option_map (keyword_form ρ r q) (get_member q ms)
unfolding in_keywords
keywords-get ρ r q no_members = refl
keywords-get ρ r q (member l d ms) =
    get_member-member q l (keyword_form ρ r l d) (in_keywords ρ r ms)
    ∙ (go (bytes_eq q l) refl (keywords-get ρ r q ms) ∙ ap (option_map (keyword_form ρ r q)) (sym (get_member-member q l d ms)))
  where
    go : (b : Bool) → bytes_eq q l ≡ b → get_member q (in_keywords ρ r ms) ≡ option_map (keyword_form ρ r q) (get_member q ms)
        → (if b then Some (keyword_form ρ r l d) else get_member q (in_keywords ρ r ms))
        ≡ option_map (keyword_form ρ r q) (if b then Some d else get_member q ms)
    go true is later = ap (λ k. Some (keyword_form ρ r k d)) (sym ((bytes_eq-Decides q l).0 is))
    go false is later = later

pub replaced-twice : (q : Text) (x y : Data) (ms : Members) → replaced q y (replaced q x ms) ≡ replaced q y ms
replaced-twice q x y no_members = refl
replaced-twice q x y (member l d ms) = go (bytes_eq q l) refl (replaced-twice q x y ms)
  where
    go : (b : Bool) → bytes_eq q l ≡ b → replaced q y (replaced q x ms) ≡ replaced q y ms
        → replaced q y (if b then member l x ms else member l d (replaced q x ms))
        ≡ (if b then member l y ms else member l d (replaced q y ms))
    go true at later = rw at refl
    go false at later = rw at (ap (member l d) later)

-- putting there what is there changes nothing
pub replaced-found : (q : Text) (x : Data) (ms : Members) → get_member q ms ≡ Some x → replaced q x ms ≡ ms
replaced-found q x no_members found = refl
replaced-found q x (member l d ms) found = go (bytes_eq q l) refl (replaced-found q x ms)
  where
    is : get_member q (member l d ms) ≡ (if bytes_eq q l then Some d else get_member q ms)
    is = get_member-member q l d ms

    go : (b : Bool) → bytes_eq q l ≡ b → (get_member q ms ≡ Some x → replaced q x ms ≡ ms)
        → (if b then member l x ms else member l d (replaced q x ms)) ≡ member l d ms
    go true at later =
        let same : Some d ≡ Some x = sym (is ∙ ap (λ b. if b then Some d else get_member q ms) at) ∙ found in
        let value : x ≡ d = cc in
        ap (λ e. member l e ms) value
    go false at later =
        ap (member l d) (later (sym (is ∙ ap (λ b. if b then Some d else get_member q ms) at) ∙ found))

pub replaced-missing : (q : Text) (x : Data) (ms : Members) → get_member q ms ≡ None → replaced q x ms ≡ ms
replaced-missing q x no_members missing = refl
replaced-missing q x (member l d ms) missing = go (bytes_eq q l) refl (replaced-missing q x ms)
  where
    is : get_member q (member l d ms) ≡ (if bytes_eq q l then Some d else get_member q ms)
    is = get_member-member q l d ms

    go : (b : Bool) → bytes_eq q l ≡ b → (get_member q ms ≡ None → replaced q x ms ≡ ms)
        → (if b then member l x ms else member l d (replaced q x ms)) ≡ member l d ms
    go true at later =
        let never : Some d ≡ None = sym (is ∙ ap (λ b. if b then Some d else get_member q ms) at) ∙ missing in cc
    go false at later =
        ap (member l d) (later (sym (is ∙ ap (λ b. if b then Some d else get_member q ms) at) ∙ missing))

pub property_names-replaced : (q : Text) (x : Data) → ((d : Data) (n : Names) → names_under q d n ≡ []) → (ms : Members)
    → property_names (object (replaced q x ms)) ≡ property_names (object ms)
unfolding names_in
property_names-replaced q x quiet ms = names-replaced q x quiet ms
