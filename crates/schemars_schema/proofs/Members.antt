-- What is found in members of which one is replaced or taken out.
use Rattle.std.proofs.Common.{◌≡◌, Option, Some, Bool, true, false, Ordering, Less, Equal, Greater, refl, sym, ap, ◌∙◌, nat_cmp}
use Rattle.schemars_schema.proofs.Words.{exact_bytes, bytes_eq-Decides, bytes_eq, if◌then◌else◌, match_ordering, slice_cmp, Data, Members, no_members, member, put, get_member, get_member-put_other, differ, get_member-here, get_member-later, Text, without, replaced}

-- ---- a member that is replaced

pub get_member-replaced : (k : Text) (d e : Data) (ms : Members) → get_member k ms ≡ Some e → get_member k (replaced k d ms) ≡ Some d
get_member-replaced k d e no_members h = cc
get_member-replaced k d e (member l f ms) h = go (bytes_eq k l) refl (get_member-replaced k d e ms)
  where
    go : (b : Bool) → bytes_eq k l ≡ b → (get_member k ms ≡ Some e → get_member k (replaced k d ms) ≡ Some d)
        → get_member k (if b then member l d ms else member l f (replaced k d ms)) ≡ Some d
    go true is later = ap (λ x. get_member x (member l d ms)) ((bytes_eq-Decides k l).0 is) ∙ get_member-here l d ms
    go false is later = get_member-later k l f (replaced k d ms) is ∙ later (sym (get_member-later k l f ms is) ∙ h)

pub get_member-replaced_other : (q k : Text) (d : Data) (ms : Members) → bytes_eq q k ≡ false
    → get_member q (replaced k d ms) ≡ get_member q ms
get_member-replaced_other q k d no_members other = refl
get_member-replaced_other q k d (member l f ms) other = go (bytes_eq k l) refl (get_member-replaced_other q k d ms other)
  where
    go : (b : Bool) → bytes_eq k l ≡ b → get_member q (replaced k d ms) ≡ get_member q ms
        → get_member q (if b then member l d ms else member l f (replaced k d ms)) ≡ get_member q (member l f ms)
    go true is later =
        let apart : bytes_eq q l ≡ false = ap (bytes_eq q) (sym ((bytes_eq-Decides k l).0 is)) ∙ other in
        get_member-later q l d ms apart ∙ sym (get_member-later q l f ms apart)
    go false is later = rw later

-- ---- a member that is taken out

past : (o : Ordering) (e : Data) (r s : Option Data) → r ≡ s
    → match_ordering o r (Some e) r ≡ match_ordering o s (Some e) s
past o e r s same = ap (λ x. match_ordering o x (Some e) x) same

pub get_member-without : (k l : Text) (ms : Members) → bytes_eq k l ≡ false → get_member k (without l ms) ≡ get_member k ms
get_member-without k l no_members other = refl
get_member-without k l (member m e ms) other = go (bytes_eq l m) refl (get_member-without k l ms other)
  where
    go : (b : Bool) → bytes_eq l m ≡ b → get_member k (without l ms) ≡ get_member k ms
        → get_member k (if b then ms else member m e (without l ms)) ≡ get_member k (member m e ms)
    go true same again = sym (get_member-later k m e ms (ap (bytes_eq k) (sym ((bytes_eq-Decides l m).0 same)) ∙ other))
    go false same again = past (slice_cmp nat_cmp k m) e _ _ again

-- another member that is put in doesn't change how often a key occurs
pub without-put : (k l : Text) (d : Data) (ms : Members) → bytes_eq k l ≡ false
    → get_member k (without k (put l d ms)) ≡ get_member k (without k ms)
without-put k l d no_members other = rw other (get_member-later k l d no_members other)
without-put k l d (member m e ms) other = go (slice_cmp nat_cmp l m) refl (without-put k l d ms other)
  where
    in_front : (ns : Members) → get_member k (without k (member l d ns)) ≡ get_member k (without k ns)
    in_front ns = rw other (get_member-later k l d (without k ns) other)

    behind : (b : Bool) → bytes_eq k m ≡ b → get_member k (without k (put l d ms)) ≡ get_member k (without k ms)
        → get_member k (if b then put l d ms else member m e (without k (put l d ms)))
        ≡ get_member k (if b then ms else member m e (without k ms))
    behind true is again = get_member-put_other k l d ms (differ k l other)
    behind false is again = past (slice_cmp nat_cmp k m) e _ _ again

    go : (o : Ordering) → slice_cmp nat_cmp l m ≡ o
        → get_member k (without k (put l d ms)) ≡ get_member k (without k ms)
        → get_member k
        (without k (match_ordering o (member l d (member m e ms)) (member m d ms) (member m e (put l d ms))))
        ≡ get_member k (without k (member m e ms))
    go Less is again = in_front (member m e ms)
    go Equal is again =
        let apart : bytes_eq k m ≡ false = ap (bytes_eq k) (sym (exact_bytes l m is)) ∙ other in
        rw apart (get_member-later k m d (without k ms) apart ∙ sym (get_member-later k m e (without k ms) apart))
    go Greater is again = behind (bytes_eq k m) refl again
