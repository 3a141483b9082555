-- Members that are put in one after another are the list of them in the order of their keys.
use Rattle.std.proofs.Common.{◌≡◌, Option, List, [], ◌∷◌, Some, None, is_some, is_eq, Bool, true, false, IsPermutation, refl, sym, ap, ◌∙◌}
use Rattle.schemars_parts.proofs.Words.{All-from_recursion, recursion_from_All, All-permutation, IsPermutation-sym, is_eq-slice_cmp, bytes_eq-Decides, AllByRecursion, bytes_eq, Data, Members, no_members, member, put, get_member, get_member-put, get_member-put_other, differ, flipped, get_member-here, get_member-later, Text, IsAbove, put_all, IsSorted, sorted-put_all, same_members}

-- the members of a list, as they stand
abbrev pub listed : List (Text × Data) → Members
listed [] = no_members
listed (e ∷ es) = member e.0 e.1 (listed es)

-- this value is found under this name
abbrev IsIn : Members → Text × Data → Type 0
IsIn ms e = get_member e.0 ms ≡ Some e.1

-- something is found under this name
abbrev IsNamedIn : Members → Text × Data → Type 0
IsNamedIn ms e = is_some (get_member e.0 ms) ≡ true

-- ---- in the list each member is found

behind : (k : Text) (d : Data) (ms : Members) (es : List (Text × Data)) → IsAbove k (listed es) → AllByRecursion (IsIn ms) es
    → AllByRecursion (IsIn (member k d ms)) es
behind k d ms [] above h = tt
behind k d ms (e ∷ es) above h =
    let apart = flipped k e.0 (sym (is_eq-slice_cmp k e.0) ∙ ap is_eq above.0) in
    (get_member-later e.0 k d ms apart ∙ h.0, behind k d ms es above.1 h.1)

each_in : (es : List (Text × Data)) → IsSorted (listed es) → AllByRecursion (IsIn (listed es)) es
each_in [] sorted = tt
each_in (e ∷ es) sorted =
    (get_member-here e.0 e.1 (listed es), behind e.0 e.1 (listed es) es sorted.0 (each_in es sorted.1))

named : (ns : Members) (es : List (Text × Data)) → AllByRecursion (IsNamedIn ns) es → (q : Text) (d : Data)
    → get_member q (listed es) ≡ Some d → is_some (get_member q ns) ≡ true
named ns [] all q d found = cc
named ns (e ∷ es) all q d found = go (bytes_eq q e.0) refl (named ns es all.1 q d)
  where
    go : (b : Bool) → bytes_eq q e.0 ≡ b → (get_member q (listed es) ≡ Some d → is_some (get_member q ns) ≡ true)
        → is_some (get_member q ns) ≡ true
    go true same later = ap (λ k. is_some (get_member k ns)) ((bytes_eq-Decides q e.0).0 same) ∙ all.0
    go false other later = later (sym (get_member-later q e.0 e.1 (listed es) other) ∙ found)

-- ---- what was put in is found

found_among : (ms : Members) (es : List (Text × Data)) (ns : Members) → AllByRecursion (IsIn ms) es
    → ((q : Text) (d : Data) → get_member q ns ≡ Some d → get_member q ms ≡ Some d)
    → (q : Text) (d : Data) → get_member q (put_all es ns) ≡ Some d → get_member q ms ≡ Some d
found_among ms [] ns all before q d found = before q d found
found_among ms (e ∷ es) ns all before q d found =
    found_among ms es (put e.0 e.1 ns) all.1 (λ r c there. go r c (bytes_eq r e.0) refl there) q d found
  where
    go : (r : Text) (c : Data) (b : Bool) → bytes_eq r e.0 ≡ b → get_member r (put e.0 e.1 ns) ≡ Some c → get_member r ms ≡ Some c
    go r c true same there =
        let name : r ≡ e.0 = (bytes_eq-Decides r e.0).0 same in
        ap (λ k. get_member k ms) name ∙ (all.0 ∙ (sym (get_member-put e.0 e.1 ns)
        ∙ (ap (λ k. get_member k (put e.0 e.1 ns)) (sym name) ∙ there)))
    go r c false other there = before r c (sym (get_member-put_other r e.0 e.1 ns (differ r e.0 other)) ∙ there)

stays : (q : Text) (es : List (Text × Data)) (ns : Members) → is_some (get_member q ns) ≡ true
    → is_some (get_member q (put_all es ns)) ≡ true
stays q [] ns h = h
stays q (e ∷ es) ns h = stays q es (put e.0 e.1 ns) (go (bytes_eq q e.0) refl)
  where
    go : (b : Bool) → bytes_eq q e.0 ≡ b → is_some (get_member q (put e.0 e.1 ns)) ≡ true
    go true same =
        ap is_some (ap (λ k. get_member k (put e.0 e.1 ns)) ((bytes_eq-Decides q e.0).0 same) ∙ get_member-put e.0 e.1 ns)
    go false other = ap is_some (get_member-put_other q e.0 e.1 ns (differ q e.0 other)) ∙ h

each_named : (es : List (Text × Data)) (ns : Members) → AllByRecursion (IsNamedIn (put_all es ns)) es
each_named [] ns = tt
each_named (e ∷ es) ns =
    (stays e.0 es (put e.0 e.1 ns) (ap is_some (get_member-put e.0 e.1 ns)), each_named es (put e.0 e.1 ns))

-- ---- so both have the same look-ups

pub put_in_order : (es xs : List (Text × Data)) → IsPermutation es xs → IsSorted (listed xs)
    → listed xs ≡ put_all es no_members
put_in_order es xs moved sorted =
    same_members ms ns sorted (sorted-put_all es no_members tt) (λ q. same q (get_member q ms) refl (get_member q ns) refl)
  where
    ms : Members
    ms = listed xs

    ns : Members
    ns = put_all es no_members

    all_in : AllByRecursion (IsIn ms) es
    all_in =
        recursion_from_All (IsIn ms) es (All-permutation (IsIn ms) xs es (IsPermutation-sym es xs moved)
        (All-from_recursion (IsIn ms) xs (each_in xs sorted)))

    all_named : AllByRecursion (IsNamedIn ns) xs
    all_named =
        recursion_from_All (IsNamedIn ns) xs (All-permutation (IsNamedIn ns) es xs moved
        (All-from_recursion (IsNamedIn ns) es (each_named es no_members)))

    same : (q : Text) (o : Option Data) → get_member q ms ≡ o → (p : Option Data) → get_member q ns ≡ p
        → get_member q ms ≡ get_member q ns
    same q o listed_is (Some e) put_is = found_among ms es no_members all_in (λ r c there. cc) q e put_is ∙ sym put_is
    same q None listed_is None put_is = listed_is ∙ sym put_is
    same q (Some d) listed_is None put_is =
        let there : true ≡ false = sym (named ns xs all_named q d listed_is) ∙ ap is_some put_is in cc
