-- A member that is taken out, changed and put in again is changed in its place.
use Rattle.std.proofs.Common.{◌≡◌, true, false, Some, None, is_eq, Ordering, Less, Equal, Greater, nat_cmp, refl, sym, ap, subst, ◌∙◌}
use Rattle.schemars_parts.proofs.Words.{exact_bytes, is_eq-slice_cmp, Option, bytes_eq, slice_cmp, Data, Members, no_members, member, put, get_member, get_member-later, without, replaced, changed_at, Text, IsAbove, IsSorted, above-trans, get_member-above, there_or}

-- a key that is before all others goes first
pub put-above : (k : Text) (d : Data) (ms : Members) → IsAbove k ms → put k d ms ≡ member k d ms
put-above k d no_members h = refl
put-above k d (member l e ms) h = rw h.0 refl

pub without-missing : (k : Text) (ms : Members) → None ≡ get_member k ms → without k ms ≡ ms
without-missing k no_members missing = refl
without-missing k (member l e ms) missing = go (slice_cmp nat_cmp k l) refl (without-missing k ms)
  where
    apart : bytes_eq k l ≡ false → (None ≡ get_member k ms → without k ms ≡ ms) → without k (member l e ms) ≡ member l e ms
    apart b later = rw b (ap (member l e) (later (missing ∙ get_member-later k l e ms b)))

    go : (o : Ordering) → slice_cmp nat_cmp k l ≡ o → (None ≡ get_member k ms → without k ms ≡ ms)
        → without k (member l e ms) ≡ member l e ms
    go Less is later = apart (sym (is_eq-slice_cmp k l) ∙ ap is_eq is) later
    go Equal is later =
        let here : get_member k (member l e ms) ≡ Some e = rw is refl in
        let other : None ≡ Some e = missing ∙ here in cc
    go Greater is later = apart (sym (is_eq-slice_cmp k l) ∙ ap is_eq is) later

pub put-again : (k : Text) (d e : Data) (ms : Members) → IsSorted ms → Some e ≡ get_member k ms
    → put k d (without k ms) ≡ replaced k d ms
put-again k d e no_members sorted found = cc
put-again k d e (member l f ms) sorted found = go (slice_cmp nat_cmp k l) refl (put-again k d e ms sorted.1)
  where
    go : (o : Ordering) → slice_cmp nat_cmp k l ≡ o → (Some e ≡ get_member k ms → put k d (without k ms) ≡ replaced k d ms)
        → put k d (without k (member l f ms)) ≡ replaced k d (member l f ms)
    go Less is later =
        let none : get_member k (member l f ms) ≡ None = get_member-above k (member l f ms) (is, above-trans k l ms is sorted.0) in
        let other : Some e ≡ None = found ∙ none in cc
    go Equal is later =
        let same : bytes_eq k l ≡ true = sym (is_eq-slice_cmp k l) ∙ ap is_eq is in
        let name : k ≡ l = exact_bytes k l is in
        rw same (put-above k d ms (subst (λ x. IsAbove x ms) (sym name) sorted.0) ∙ ap (λ x. member x d ms) name)
    go Greater is later =
        let apart : bytes_eq k l ≡ false = sym (is_eq-slice_cmp k l) ∙ ap is_eq is in
        rw (apart, is) (ap (member l f) (later (found ∙ get_member-later k l f ms apart)))

pub put-there : (k : Text) (d e : Data) (ms : Members) → IsSorted ms → Some e ≡ get_member k ms → put k d ms ≡ replaced k d ms
put-there k d e no_members sorted found = cc
put-there k d e (member l f ms) sorted found = go (slice_cmp nat_cmp k l) refl (put-there k d e ms sorted.1)
  where
    go : (o : Ordering) → slice_cmp nat_cmp k l ≡ o → (Some e ≡ get_member k ms → put k d ms ≡ replaced k d ms)
        → put k d (member l f ms) ≡ replaced k d (member l f ms)
    go Less is later =
        let none : get_member k (member l f ms) ≡ None = get_member-above k (member l f ms) (is, above-trans k l ms is sorted.0) in
        let other : Some e ≡ None = found ∙ none in cc
    go Equal is later =
        let same : bytes_eq k l ≡ true = sym (is_eq-slice_cmp k l) ∙ ap is_eq is in
        rw (is, same) refl
    go Greater is later =
        let apart : bytes_eq k l ≡ false = sym (is_eq-slice_cmp k l) ∙ ap is_eq is in
        rw (is, apart) (ap (member l f) (later (found ∙ get_member-later k l f ms apart)))

pub put-over : (k : Text) (d e : Data) (ms : Members) → IsSorted ms → Some e ≡ get_member k ms
    → put k d (without k ms) ≡ put k d ms
put-over k d e ms sorted found = put-again k d e ms sorted found ∙ sym (put-there k d e ms sorted found)

pub retaken : (k : Text) (change : Data → Data) (first d : Data) (old mid new : Members) → IsSorted old
    → Some first ≡ get_member k old → mid ≡ without k old → d ≡ change first → new ≡ put k d mid → new ≡ put k (change first) old
retaken k change first d old mid new sorted found rest is made =
    made ∙ (ap (λ e. put k e mid) is ∙ (ap (put k (change first)) rest ∙ put-over k (change first) first old sorted found))

pub changed_again : (k : Text) (change : Data → Data) (d e : Data) (ms : Members) → IsSorted ms
    → e ≡ there_or d (get_member k ms) → put k (change e) (without k ms) ≡ changed_at k change d ms
changed_again k change d e ms sorted is = go (get_member k ms) refl is
  where
    go : (o : Option Data) → get_member k ms ≡ o → e ≡ there_or d o → put k (change e) (without k ms)
        ≡ elim o [ None ↦ put k (change d) ms | Some f ↦ replaced k (change f) ms ]
    go None found same =
        ap (λ x. put k (change x) (without k ms)) same ∙ ap (put k (change d)) (without-missing k ms (sym found))
    go (Some f) found same = put-again k (change e) f ms sorted (sym found) ∙ ap (λ x. replaced k (change x) ms) same
