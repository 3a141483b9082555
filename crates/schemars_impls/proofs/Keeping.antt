-- Tables that keep their rows: that they do, and what lasts in them.
use Rattle.std.proofs.Common.{◌≡◌, ◌≤◌, ◌<◌, ◌+◌, ℕ, zero, suc, List, [], ◌∷◌, ◌++◌, Bool, true, false, not, Option, Some, None, cond, length, find, nat_le, is_some, option_map, option_and_then, refl, ap, sym, ◌∙◌, subst, arith, if◌then◌else◌}
use Rattle.schemars_impls.proofs.Words.{position_from, option_map_or, bytes_eq, Text, entry_eq, Entry, same_entry, first_unknown, refusal_of, Registers, Row, place_of, entry_at, reserved, defined, holds_another, place_of-below, nat_le-above, entry_at-joined, known_in_more, place_of-reserved, reserved-absent, place_of-defined, entry_under, Keeps, AllContinue, Continues}
use Rattle.schemars_types.specs.declared.error.TypesError.TheVariants.{AlreadyDefined, UnknownType}

continues-trans : (r s t : Row) → Continues r s → Continues s t → Continues r t
continues-trans r s t (id1, name1, entry1) (id2, name2, entry2) = (id2 ∙ id1, name2 ∙ name1, λ e is. entry2 e (entry1 e is))

all-refl : (rows : List Row) → AllContinue rows rows
all-refl [] = tt
all-refl (r ∷ rs) = ((refl, refl, λ e is. is), all-refl rs)

all-trans : (a b c : List Row) → AllContinue a b → AllContinue b c → AllContinue a c
all-trans [] b c h k = tt
all-trans (r ∷ rs) [] c h k = absurd h
all-trans (r ∷ rs) (s ∷ ss) [] h k = absurd k
all-trans (r ∷ rs) (s ∷ ss) (t ∷ ts) h k = (continues-trans r s t h.0 k.0, all-trans rs ss ts h.1 k.1)

pub keeps-refl : (rows : List Row) → Keeps rows rows
keeps-refl rows = record { rows = all-refl rows }

pub keeps-same : (a b : List Row) → b ≡ a → Keeps a b
keeps-same a b same = subst (λ t. Keeps a t) (sym same) (keeps-refl a)

pub keeps-trans : {a b c : List Row} → Keeps a b → Keeps b c → Keeps a c
keeps-trans {a = a} {b = b} {c = c} h k = record { rows = all-trans a b c h.rows k.rows }

-- ---- a row joins

pub all-joined : (rows more : List Row) → AllContinue rows (rows ++ more)
all-joined [] more = tt
all-joined (r ∷ rs) more = ((refl, refl, λ e is. is), all-joined rs more)

keeps-reserved : (id name : Text) (rows : List Row) → Keeps rows (reserved id name rows)
keeps-reserved id name rows = by (is_some (place_of id rows))
  where
    by : (b : Bool) → Keeps rows (if b then rows else rows ++ (record { id = id; name = name; entry = None }) ∷ [])
    by true = keeps-refl rows
    by false = record { rows = all-joined rows ((record { id = id; name = name; entry = None }) ∷ []) }

pub reserved-then : (id name : Text) {old mid new : List Row} → mid ≡ reserved id name old → Keeps mid new → Keeps old new
reserved-then id name {old = old} {mid = mid} {new = new} is h =
    keeps-trans (subst (λ t. Keeps old t) (sym is) (keeps-reserved id name old)) h

pub reserved_keeps : (id name : Text) (old new : List Row) → new ≡ reserved id name old → Keeps old new
reserved_keeps id name old new is = reserved-then id name is (keeps-refl new)

-- ---- a row is defined

entry-kept : (o : Option Entry) (e : Entry) → option_map_or (λ f. not (entry_eq f e)) o false ≡ false → (f : Entry)
    → o ≡ Some f → Some e ≡ Some f
entry-kept None e free f is = cc
entry-kept (Some g) e free f is = by (entry_eq g e) refl free
  where
    by : (b : Bool) → entry_eq g e ≡ b → not b ≡ false → Some e ≡ Some f
    by true same h = sym (ap Some (same_entry g e same)) ∙ is
    by false same h = cc

all-defined : (n : ℕ) (e : Entry) (rows : List Row) → holds_another rows n e ≡ false → AllContinue rows (defined n e rows)
all-defined n e [] free = tt
all-defined zero e (r ∷ rs) free = ((refl, refl, entry-kept r.entry e free), all-refl rs)
all-defined (suc n) e (r ∷ rs) free = ((refl, refl, λ f is. is), all-defined n e rs free)

keeps-defined : (n : ℕ) (e : Entry) (rows : List Row) → holds_another rows n e ≡ false → Keeps rows (defined n e rows)
keeps-defined n e rows free = record { rows = all-defined n e rows free }

free-accepted : (rows : List Row) (n : ℕ) (e : Entry) → None ≡ refusal_of rows n e → holds_another rows n e ≡ false
free-accepted rows n e accepted = by (first_unknown rows n e.shape) (holds_another rows n e) accepted
  where
    by : (o : Option ℕ) (b : Bool)
        → None ≡ option_map_or (λ m. Some (UnknownType m)) o (if b then Some (AlreadyDefined n) else None) → b ≡ false
    by (Some m) b h = cc
    by None true h = cc
    by None false h = refl

pub define-keeps : (rows new : List Row) (n : ℕ) (e : Entry) → None ≡ refusal_of rows n e → new ≡ defined n e rows → Keeps rows new
define-keeps rows new n e accepted is = subst (λ t. Keeps rows t) (sym is) (keeps-defined n e rows (free-accepted rows n e accepted))

entry_at-defined : (n : ℕ) (e : Entry) (rows : List Row) → n < length rows → entry_at (defined n e rows) n ≡ Some e
entry_at-defined n e [] below = let never : ⊥ = omega (arith, below) in absurd never
entry_at-defined zero e (r ∷ rs) below = refl
entry_at-defined (suc n) e (r ∷ rs) below = entry_at-defined n e rs (omega (arith, below))

pub defined-there : (id : Text) (rows new : List Row) (n : ℕ) (e : Entry) → place_of id rows ≡ Some n → new ≡ defined n e rows
    → entry_at new n ≡ Some e
defined-there id rows new n e there is = ap (λ t. entry_at t n) is ∙ entry_at-defined n e rows (place_of-below id rows n there)

-- ---- a row that was not defined

pub undefined-reserved : (id name : Text) (old mid : List Row) (n : ℕ) → entry_under id old ≡ None → mid ≡ reserved id name old
    → place_of id mid ≡ Some n → entry_at mid n ≡ None
undefined-reserved id name old mid n undefined is there = ap (λ t. entry_at t n) is ∙ by (place_of id old) refl
  where
    at : place_of id (reserved id name old) ≡ Some n
    at = ap (place_of id) (sym is) ∙ there

    by : (o : Option ℕ) → place_of id old ≡ o → entry_at (reserved id name old) n ≡ None
    by None none =
        let last : Some (length old) ≡ Some n = sym (place_of-reserved id name old none) ∙ at in
        let same : length old ≡ n = cc in
        ap (λ t. entry_at t n) (reserved-absent id name old none)
        ∙ ap (entry_at (old ++ (record { id = id; name = name; entry = None }) ∷ [])) (sym same) ∙ entry_at-joined old id name
    by (Some k) found =
        let same : reserved id name old ≡ old = rw found in
        let here : Some k ≡ Some n = sym found ∙ ap (place_of id) (sym same) ∙ at in
        let k_is : k ≡ n = cc in
        ap (λ t. entry_at t n) same ∙ ap (entry_at old) (sym k_is) ∙ sym (ap (option_and_then (λ m. entry_at old m)) found) ∙ undefined

pub never_there : {A B : Type 0} (o : Option A) (f : A → B) → is_some o ≡ true → option_map f o ≡ None → ⊥
never_there None f there none = cc
never_there (Some a) f there none = cc

pub never_absent : {A B : Type 0} (o : Option A) (f : A → B) → is_some o ≡ false → is_some (option_map f o) ≡ true → ⊥
never_absent None f none there = cc
never_absent (Some a) f none there = cc

-- ---- what lasts

pub length-kept : (old new : List Row) → AllContinue old new → length old ≤ length new
length-kept [] new h = omega arith
length-kept (r ∷ rs) [] h = absurd h
length-kept (r ∷ rs) (s ∷ ss) h = omega (arith, length-kept rs ss h.1)

position-kept : (id : Text) (i n : ℕ) (old new : List Row) → AllContinue old new
    → position_from (λ r. bytes_eq r.id id) i old ≡ Some n → position_from (λ r. bytes_eq r.id id) i new ≡ Some n
position-kept id i n [] new h is = cc
position-kept id i n (r ∷ rs) [] h is = absurd h
position-kept id i n (r ∷ rs) (s ∷ ss) h is =
    subst (λ t. cond (bytes_eq t id) (Some i) (position_from (λ q. bytes_eq q.id id) (i + 1) ss) ≡ Some n) (sym h.0.0)
    (by (bytes_eq r.id id) is (position-kept id (i + 1) n rs ss h.1))
  where
    by : (b : Bool) → cond b (Some i) (position_from (λ q. bytes_eq q.id id) (i + 1) rs) ≡ Some n
        → (position_from (λ q. bytes_eq q.id id) (i + 1) rs ≡ Some n → position_from (λ q. bytes_eq q.id id) (i + 1) ss ≡ Some n)
        → cond b (Some i) (position_from (λ q. bytes_eq q.id id) (i + 1) ss) ≡ Some n
    by true there later = there
    by false there later = later there

-- an id keeps its number
pub place_of-kept : (id : Text) (n : ℕ) {old new : List Row} → Keeps old new → place_of id old ≡ Some n → place_of id new ≡ Some n
place_of-kept id n {old = old} {new = new} h is = position-kept id 0 n old new h.rows is

-- numbers of rows stay numbers of rows
pub numbers-kept : (old new : List Row) (ns : List ℕ) → Keeps old new → find (λ m. nat_le (length old) m) ns ≡ None
    → find (λ m. nat_le (length new) m) ns ≡ None
numbers-kept old new ns h known = known_in_more (length old) (length new) ns (length-kept old new h.rows) known

-- ---- a row that is registered

pub registers_keeps : {id name : Text} {e : Entry} {old new : List Row} {n : ℕ} → Registers id name e old new n → Keeps old new
registers_keeps {id = id} {name = name} {e = e} {old = old} {new = new} {n = n} h = by (place_of id old) refl
  where
    at : place_of id (reserved id name old) ≡ Some n
    at = sym (place_of-defined id n e (reserved id name old)) ∙ sym (ap (place_of id) h.table) ∙ h.number

    from : holds_another (reserved id name old) n e ≡ false → Keeps old new
    from free = reserved-then id name refl
        (subst (λ t. Keeps (reserved id name old) t) (sym h.table) (keeps-defined n e (reserved id name old) free))

    by : (o : Option ℕ) → place_of id old ≡ o → Keeps old new
    by None none =
        let undefined : entry_under id old ≡ None = ap (option_and_then (λ m. entry_at old m)) none in
        let empty : entry_at (reserved id name old) n ≡ None =
        undefined-reserved id name old (reserved id name old) n undefined refl at in
        from (ap (λ o. option_map_or (λ f. not (entry_eq f e)) o false) empty)
    by (Some k) found =
        let same : reserved id name old ≡ old = rw found in
        from (ap (λ t. holds_another t n e) same ∙ h.free)

pub registers_place : {id name : Text} {e : Entry} {old new : List Row} {n : ℕ} → Registers id name e old new n → place_of id new ≡ Some n
registers_place h = h.number

-- ---- numbers of rows

pub known_cons : (id : Text) (rows : List Row) (n : ℕ) (ns : List ℕ) → place_of id rows ≡ Some n
    → find (λ m. nat_le (length rows) m) ns ≡ None → find (λ m. nat_le (length rows) m) (n ∷ ns) ≡ None
known_cons id rows n ns there rest = rw (nat_le-above (length rows) n (place_of-below id rows n there)) rest

pub known-one : (id : Text) (rows : List Row) (n : ℕ) → place_of id rows ≡ Some n → find (λ m. nat_le (length rows) m) (n ∷ []) ≡ None
known-one id rows n there = known_cons id rows n [] there refl

pub known-two : (first second : Text) (rows : List Row) (n m : ℕ) → place_of first rows ≡ Some n → place_of second rows ≡ Some m
    → find (λ k. nat_le (length rows) k) (n ∷ m ∷ []) ≡ None
known-two first second rows n m there and_there = known_cons first rows n (m ∷ []) there (known-one second rows m and_there)
