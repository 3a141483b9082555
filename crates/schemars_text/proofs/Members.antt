-- When two keys are the same, and what is found under a key.
use Rattle.std.proofs.Common.{◌≡◌, ◌≢◌, Option, Some, Bool, true, false, Ordering, Less, Equal, Greater, refl, sym, ◌∙◌, ap, is_eq, true≢false, nat_cmp}
use Rattle.schemars_text.proofs.Words.{nat_list_cmp_total, nat_list_eq_equiv, tied_itself, is_eq-slice_cmp, bytes_eq-Decides, bytes_eq, if◌then◌else◌, match_ordering, slice_cmp, Data, Members, member, get_member, Text}

-- ---- keys

pub bytes_eq_comm : (k l : Text) → bytes_eq k l ≡ bytes_eq l k
bytes_eq_comm k l = nat_list_eq_equiv.symm k l

pub differ : (k l : Text) → bytes_eq k l ≡ false → k ≢ l
differ k l other same = true≢false (sym ((bytes_eq-Decides k l).1 same) ∙ other)

pub unequal : (k l : Text) → k ≢ l → bytes_eq k l ≡ false
unequal k l apart = go (bytes_eq k l) refl
  where
    go : (b : Bool) → bytes_eq k l ≡ b → b ≡ false
    go true is = absurd (apart ((bytes_eq-Decides k l).0 is))
    go false is = refl

pub flipped : (k l : Text) → bytes_eq k l ≡ false → bytes_eq l k ≡ false
flipped k l other = bytes_eq_comm l k ∙ other

-- ---- the first member

by_order : (o : Ordering) (b : Bool) (d : Data) (rest : Option Data) → is_eq o ≡ b
    → match_ordering o rest (Some d) rest ≡ (if b then Some d else rest)
by_order Less b d rest is = rw (← is) refl
by_order Equal b d rest is = rw (← is) refl
by_order Greater b d rest is = rw (← is) refl

-- by equality of keys
pub get_member-member : (k l : Text) (d : Data) (ms : Members)
    → get_member k (member l d ms) ≡ (if bytes_eq k l then Some d else get_member k ms)
get_member-member k l d ms = by_order (slice_cmp nat_cmp k l) (bytes_eq k l) d (get_member k ms) (is_eq-slice_cmp k l)

-- the first member is found under its key
pub get_member-here : (k : Text) (d : Data) (ms : Members) → get_member k (member k d ms) ≡ Some d
get_member-here k d ms = rw (tied_itself nat_list_cmp_total k)

-- another member is passed over
pub get_member-later : (k l : Text) (d : Data) (ms : Members) → bytes_eq k l ≡ false → get_member k (member l d ms) ≡ get_member k ms
get_member-later k l d ms other = get_member-member k l d ms ∙ ap (λ b. if b then Some d else get_member k ms) other
