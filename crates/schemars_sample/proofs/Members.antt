-- Members in the order of their keys, and what holds of each of them.
use Rattle.std.proofs.Common.{◌≡◌, Some, None, Bool, true, false, Ordering, Less, Equal, Greater, nat_cmp, refl, sym, ap, ◌∙◌}
use Rattle.schemars_sample.proofs.Words.{exact_bytes, bytes_eq-Decides, bytes_eq, match_ordering, slice_cmp, Data, Members, no_members, member, put, get_member, Text, Verdict, Yes, No, Open, both, each_member, get_member-later, get_member-here, IsSorted, get_member-above}

-- ---- in order

-- ---- each member

both-parts : (a b : Verdict) → both a b ≡ Yes → (a ≡ Yes) × (b ≡ Yes)
both-parts Yes b h = (refl, h)
both-parts No Yes h = cc
both-parts No No h = cc
both-parts No Open h = cc
both-parts Open b h = cc

pub each-put : (says : Text → Data → Verdict) (k : Text) (d : Data) (ms : Members) → says k d ≡ Yes → each_member says ms ≡ Yes
    → each_member says (put k d ms) ≡ Yes
each-put says k d no_members here all = rw here
each-put says k d (member l e ms) here all =
    go (slice_cmp nat_cmp k l) refl (each-put says k d ms here parts.1)
  where
    parts : (says l e ≡ Yes) × (each_member says ms ≡ Yes)
    parts = both-parts _ _ all

    go : (o : Ordering) → slice_cmp nat_cmp k l ≡ o → each_member says (put k d ms) ≡ Yes
        → each_member says (match_ordering o (member k d (member l e ms)) (member l d ms) (member l e (put k d ms))) ≡ Yes
    go Less is later = rw here all
    go Equal is later = ap (λ x. both (says x d) (each_member says ms)) (sym (exact_bytes k l is)) ∙ rw here parts.1
    go Greater is later = rw parts.0 later

-- what holds of each member that is found holds of each
pub each-found : (says : Text → Data → Verdict) (ms : Members) → IsSorted ms
    → ((k : Text) (d : Data) → get_member k ms ≡ Some d → says k d ≡ Yes) → each_member says ms ≡ Yes
each-found says no_members s found = refl
each-found says (member k d ms) s found =
    rw (found k d (get_member-here k d ms)) (each-found says ms s.1 (λ l e at. found l e (go l e (bytes_eq l k) refl at)))
  where
    go : (l : Text) (e : Data) (b : Bool) → bytes_eq l k ≡ b → get_member l ms ≡ Some e → get_member l (member k d ms) ≡ Some e
    go l e true is at =
        let none : None ≡ Some e =
        sym (get_member-above k ms s.0) ∙ (ap (λ x. get_member x ms) (sym ((bytes_eq-Decides l k).0 is)) ∙ at) in cc
    go l e false is at = get_member-later l k d ms is ∙ at
