-- Members put in, replaced and taken out again.
use Rattle.std.proofs.Common.{◌≡◌, Bool, true, false, Some, None, Ordering, Less, Equal, Greater, nat_cmp, refl, sym, ap, ◌∙◌, true≢false}
use Rattle.schemars_definitions.proofs.Words.{bytes_eq, if◌then◌else◌, match_ordering, is_eq, slice_cmp, is_eq-slice_cmp, bytes_eq-Decides, Data, Members, no_members, member, put, get_member, unequal, Text, without, replaced}
use Rattle.schemars_schema.proofs.Members.{get_member-replaced_other as replaced_other}

pub get_member-replaced_other : (q k : Text) (d : Data) (ms : Members) → (q ≡ k → ⊥) → get_member q (replaced k d ms) ≡ get_member q ms
get_member-replaced_other q k d ms other = replaced_other q k d ms (unequal q k other)

pub own_bytes : (k : Text) → bytes_eq k k ≡ true
own_bytes k = (bytes_eq-Decides k k).1 refl

pub without-put : (k : Text) (d : Data) (ms : Members) → get_member k ms ≡ None → without k (put k d ms) ≡ ms
without-put k d no_members h = rw (own_bytes k) refl
without-put k d (member l e ms) h = go (slice_cmp nat_cmp k l) refl h (without-put k d ms)
  where
    go : (o : Ordering) → slice_cmp nat_cmp k l ≡ o → match_ordering o (get_member k ms) (Some e) (get_member k ms) ≡ None
        → (get_member k ms ≡ None → without k (put k d ms) ≡ ms)
        → without k (match_ordering o (member k d (member l e ms)) (member l d ms) (member l e (put k d ms))) ≡ member l e ms
    go Less is h rest = rw (own_bytes k) refl
    go Equal is h rest = cc
    go Greater is h rest = let apart : bytes_eq k l ≡ false = sym (is_eq-slice_cmp k l) ∙ ap is_eq is in rw apart (ap (member l e) (rest h))

pub replaced-put : (k : Text) (d e : Data) (ms : Members) → replaced k d (put k e ms) ≡ put k d ms
replaced-put k d e no_members = rw (own_bytes k) refl
replaced-put k d e (member l f ms) = go (slice_cmp nat_cmp k l) refl (replaced-put k d e ms)
  where
    go : (o : Ordering) → slice_cmp nat_cmp k l ≡ o → replaced k d (put k e ms) ≡ put k d ms
        → replaced k d (match_ordering o (member k e (member l f ms)) (member l e ms) (member l f (put k e ms)))
        ≡ match_ordering o (member k d (member l f ms)) (member l d ms) (member l f (put k d ms))
    go Less is rest = rw (own_bytes k) refl
    go Equal is rest = let same : bytes_eq k l ≡ true = sym (is_eq-slice_cmp k l) ∙ ap is_eq is in rw same refl
    go Greater is rest = let apart : bytes_eq k l ≡ false = sym (is_eq-slice_cmp k l) ∙ ap is_eq is in rw apart (ap (member l f) rest)

pub without-replaced : (k : Text) (d : Data) (ms : Members) → without k (replaced k d ms) ≡ without k ms
without-replaced k d no_members = refl
without-replaced k d (member l e ms) = go (bytes_eq k l) refl (without-replaced k d ms)
  where
    go : (b : Bool) → bytes_eq k l ≡ b → without k (replaced k d ms) ≡ without k ms
        → without k (if b then member l d ms else member l e (replaced k d ms)) ≡ (if b then ms else member l e (without k ms))
    go true is rest = rw is refl
    go false is rest = rw is (ap (member l e) rest)

pub without-replaced_other : (q k : Text) (d : Data) (ms : Members) → bytes_eq q k ≡ false
    → without q (replaced k d ms) ≡ replaced k d (without q ms)
without-replaced_other q k d no_members other = refl
without-replaced_other q k d (member l e ms) other = go (bytes_eq k l) refl (bytes_eq q l) refl (without-replaced_other q k d ms other)
  where
    go : (b : Bool) → bytes_eq k l ≡ b → (c : Bool) → bytes_eq q l ≡ c → without q (replaced k d ms) ≡ replaced k d (without q ms)
        → without q (if b then member l d ms else member l e (replaced k d ms)) ≡ replaced k d (if c then ms else member l e (without q ms))
    go true is true at rest = absurd (true≢false (sym (own_bytes q) ∙ ap (bytes_eq q)
        ((bytes_eq-Decides q l).0 at ∙ sym ((bytes_eq-Decides k l).0 is)) ∙ other))
    go true is false at rest = rw (at, is) refl
    go false is true at rest = rw at refl
    go false is false at rest = rw (at, is) (ap (member l e) rest)
