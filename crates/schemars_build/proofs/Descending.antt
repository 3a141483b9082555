-- How the recursion that makes documents goes down.
use Rattle.std.proofs.Common.{◌≡◌, ◌<◌, ◌≤◌, ◌+◌, ◌*◌, ◌∙◌, ℕ, zero, suc, List, [], ◌∷◌, ◌++◌, length, Bool, true, false, Some, refl, ap, sym, subst, arith, Contains, inl, inr}
use Rattle.schemars_build.proofs.Words.{if◌then◌else◌, ◌||◌, ◌&&◌, not, nat_eq, option_map_or, nat_tests, Entry, Row, entry_at, is_inline_at, IsChecked, is_pending, pending_in, is_in_place, Plan, Registry, Ask, part, members_of, content, missing, IsAskedIn, measure_of_part, measure_of_own_document, measure_of_filled, measure_of_asked, mul-le-mul_right, list_any-append, insert_key, numbers_of, numbers_at, asked_in, asked_at, height, without_options, failing_below, idle, depth_in_place, IsLower, width, places, measure_of_definition, measure_of_members, measure_of_content, closer}
use Rattle.schemars_build.proofs.Counting.{failing-fewer, failing-less}

-- ---- what is asked in a document

module _ (rows : List Row) (n : ℕ) (e : Entry) (h : IsChecked rows) (at : entry_at rows n ≡ Some e) where
  numbers : numbers_at rows n ≡ numbers_of e.shape
  numbers = ap (λ o. option_map_or (λ x. numbers_of x.shape) o []) at

  asked : asked_at rows n ≡ asked_in rows e.shape
  asked = ap (λ o. option_map_or (λ x. asked_in rows x.shape) o []) at

  lower : (m : ℕ) → Contains (numbers_at rows n) m → (b : Bool) → is_inline_at rows m ≡ b
      → (if b then suc (height rows m) else 0) ≤ height rows n
  lower m is true inline = h.height_falls n m (inl (is, inline))
  lower m is false inline = omega arith

  pub part_asked : (m : ℕ) → Contains (numbers_of e.shape) m → IsAskedIn rows n (part m)
  part_asked m is =
      let there : Contains (numbers_at rows n) m = subst (λ (ms : List ℕ). Contains ms m) (sym numbers) is in
      (h.within.within n m there, lower m there (is_inline_at rows m) refl)

  -- a row that is asked whatever its flag lies lower
  pub falls : (m : ℕ) → Contains (asked_in rows e.shape) m → m < length rows → height rows m < height rows n
  falls m is below = h.height_falls n m (inr (subst (λ (ms : List ℕ). Contains ms m) (sym asked) is, below))

-- ---- what is pending

idle-bound : (rows : List Row) (pending : List ℕ) → idle rows pending ≤ length rows
unfolding idle
idle-bound rows pending = below (length rows)
  where
    one : (b : Bool) (k n : ℕ) → k ≤ n → (if b then 0 else 1) + k ≤ suc n
    one true k n h = omega arith
    one false k n h = omega arith

    below : (n : ℕ) → failing_below (is_pending pending) n ≤ n
    below zero = omega arith
    below (suc n) = one (is_pending pending n) (failing_below (is_pending pending) n) n (below n)

still_pending : (inlines : Bool) (pending : List ℕ) (n k : ℕ) → is_pending pending k ≡ true
    → is_pending (pending_in inlines pending n) k ≡ true
still_pending false pending n k h = h
still_pending true pending n k h = by (is_pending pending n) refl
  where
    by : (b : Bool) → is_pending pending n ≡ b → is_pending (insert_key nat_eq pending n) k ≡ true
    by true there = let kept : insert_key nat_eq pending n ≡ pending = rw there refl in ap (λ ns. is_pending ns k) kept ∙ h
    by false there =
        let grown : insert_key nat_eq pending n ≡ pending ++ n ∷ [] = rw there refl in
        ap (λ ns. is_pending ns k) grown ∙ (list_any-append (nat_eq k) pending (n ∷ []) ∙ ap (λ b. b || is_pending (n ∷ []) k) h)

entered_pending : (pending : List ℕ) (n : ℕ) → is_pending pending n ≡ false → is_pending (insert_key nat_eq pending n) n ≡ true
entered_pending pending n none =
    let grown : insert_key nat_eq pending n ≡ pending ++ n ∷ [] = rw none refl in
    let itself : nat_eq n n ≡ true = grind (arith, nat_tests) in
    ap (λ ns. is_pending ns n) grown
    ∙ (list_any-append (nat_eq n) pending (n ∷ []) ∙ (λ i. none i || (itself i || false)))

idle-entered : (rows : List Row) (inlines : Bool) (pending : List ℕ) (n : ℕ)
    → idle rows (pending_in inlines pending n) ≤ idle rows pending
unfolding idle
idle-entered rows inlines pending n = failing-fewer (is_pending pending) (is_pending (pending_in inlines pending n))
    (still_pending inlines pending n) (length rows)

idle-less : (rows : List Row) (pending : List ℕ) (n : ℕ) → n < length rows → is_pending pending n ≡ false
    → idle rows (insert_key nat_eq pending n) < idle rows pending
unfolding idle
idle-less rows pending n less none = failing-less (is_pending pending) (is_pending (insert_key nat_eq pending n))
    (still_pending true pending n) (length rows) n less none (entered_pending pending n none)

-- ---- one step down

same_less : (a b w k : ℕ) → a ≤ b → 0 < k → a * w < b * w + k
same_less a b w k fewer more = let e : a * w ≤ b * w = mul-le-mul_right w fewer in omega arith

own_less : (a b w h : ℕ) → a ≤ b → a * w + (8 * h + 8) < b * w + (8 * suc h + 1)
own_less a b w h fewer = let e : a * w ≤ b * w = mul-le-mul_right w fewer in omega arith

further : (a b w r k : ℕ) → a < b → r < w → a * w + r < b * w + k
further a b w r k less small = let e : suc a * w ≤ b * w = mul-le-mul_right w less in omega arith

-- as definitions join, and the same rows are pending
places-fewer : (p : Plan) (w v : Registry) → missing p.rows p.contract v ≤ missing p.rows p.contract w → v.pending ≡ w.pending
    → places p v v.pending ≤ places p w w.pending
places-fewer p w v fewer same =
    let e : missing p.rows p.contract v * suc (length p.rows) ≤ missing p.rows p.contract w * suc (length p.rows) =
    mul-le-mul_right (suc (length p.rows)) fewer in
    let f : idle p.rows v.pending ≡ idle p.rows w.pending = ap (idle p.rows) same in
    omega (arith, e, f)

-- on the same row or a lower one
down_less : (a b w r s : ℕ) → a ≤ b → r < s → a * w + r < b * w + s
down_less a b w r s fewer less = let e : a * w ≤ b * w = mul-le-mul_right w fewer in omega arith

part_fits : (d h : ℕ) → d ≤ h → 8 * d + 1 < 8 * h + 7
part_fits d h lower = omega arith

-- from a document to what is asked in it
pub to_asked : (p : Plan) (w v : Registry) (n : ℕ) (a : Ask) → IsLower p.rows n a → missing p.rows p.contract v ≤ missing p.rows p.contract w
    → v.pending ≡ w.pending → measure_of_asked p v a < measure_of_filled p w n
to_asked p w v n (part m) lower fewer same =
    down_less (places p v v.pending) (places p w w.pending) (width p.rows) (8 * depth_in_place p.rows m + 1)
    (8 * height p.rows n + 7) (places-fewer p w v fewer same) (part_fits (depth_in_place p.rows m) (height p.rows n) lower)
to_asked p w v n (members_of m required) lower fewer same =
    let less : height p.rows (without_options p.rows m) < height p.rows n = lower in
    down_less (places p v v.pending) (places p w w.pending) (width p.rows) (8 * height p.rows (without_options p.rows m) + 10)
    (8 * height p.rows n + 7) (places-fewer p w v fewer same) (omega (arith, less))
to_asked p w v n (content m) lower fewer same =
    let less : height p.rows m < height p.rows n = lower in
    down_less (places p v v.pending) (places p w w.pending) (width p.rows) (8 * height p.rows m + 11)
    (8 * height p.rows n + 7) (places-fewer p w v fewer same) (omega (arith, less))

-- to the documents that these are made of
pub members_to_filled : (p : Plan) (w : Registry) (n : ℕ) → measure_of_filled p w (without_options p.rows n) < measure_of_members p w n
members_to_filled p w n = omega arith

pub content_to_part : (p : Plan) (w v : Registry) (n : ℕ) → missing p.rows p.contract v ≤ missing p.rows p.contract w
    → v.pending ≡ w.pending → measure_of_part p v n < measure_of_content p w n
content_to_part p w v n fewer same = down_less (places p v v.pending) (places p w w.pending) (width p.rows)
    (8 * depth_in_place p.rows n + 1) (8 * height p.rows n + 11) (places-fewer p w v fewer same) (by (is_inline_at p.rows n))
  where
    by : (b : Bool) → 8 * (if b then suc (height p.rows n) else 0) + 1 < 8 * height p.rows n + 11
    by true = omega arith
    by false = omega arith

-- to a part in place
pub to_own : (p : Plan) (w : Registry) (n : ℕ) → IsChecked p.rows → n < length p.rows
    → is_in_place p.rows p.inlines w.pending n ≡ true → measure_of_own_document p w n < measure_of_part p w n
to_own p w n checked less placed = by (is_inline_at p.rows n) refl
  where
    inner : ℕ
    inner = places p w (pending_in p.inlines w.pending n)

    goal_at : ℕ → Type 0
    goal_at depth = inner * width p.rows + (8 * height p.rows n + 8) < places p w w.pending * width p.rows + (8 * depth + 1)

    fewer : inner ≤ places p w w.pending
    fewer = let e = idle-entered p.rows p.inlines w.pending n in omega (arith, e)

    entered : (b c : Bool) → p.inlines ≡ b → is_pending w.pending n ≡ c → b && not c ≡ true → inner < places p w w.pending
    entered true false inlines none h =
        let e : idle p.rows (insert_key nat_eq w.pending n) < idle p.rows w.pending = idle-less p.rows w.pending n less none in
        let same : idle p.rows (pending_in p.inlines w.pending n) ≡ idle p.rows (insert_key nat_eq w.pending n) =
        ap (λ b. idle p.rows (pending_in b w.pending n)) inlines in
        omega (arith, e, same)
    entered true true inlines none h = cc
    entered false c inlines none h = cc

    by : (b : Bool) → is_inline_at p.rows n ≡ b → measure_of_own_document p w n < measure_of_part p w n
    by true inline =
        let deep : depth_in_place p.rows n ≡ suc (height p.rows n) = ap (λ b. if b then suc (height p.rows n) else 0) inline in
        subst goal_at (sym deep) (own_less inner (places p w w.pending) (width p.rows) (height p.rows n) fewer)
    by false inline =
        let bound = checked.height_bound n in
        let here : p.inlines && not (is_pending w.pending n) ≡ true =
        sym (ap (λ b. b || (p.inlines && not (is_pending w.pending n))) inline) ∙ placed in
        further inner (places p w w.pending) (width p.rows) (8 * height p.rows n + 8) (8 * depth_in_place p.rows n + 1)
        (entered p.inlines (is_pending w.pending n) refl refl here) (omega (arith, bound))

-- to a part by reference
pub to_define : (p : Plan) (w v : Registry) (n : ℕ) → missing p.rows p.contract v ≤ missing p.rows p.contract w → v.pending ≡ w.pending
    → measure_of_definition p v < measure_of_part p w n
to_define p w v n fewer same = same_less (places p v v.pending) (places p w w.pending) (width p.rows)
    (8 * depth_in_place p.rows n + 1) (places-fewer p w v fewer same) (omega arith)

-- to a new definition
pub to_definition : (p : Plan) (w v : Registry) (n : ℕ) → IsChecked p.rows → missing p.rows p.contract v < missing p.rows p.contract w
    → measure_of_own_document p v n < measure_of_definition p w
to_definition p w v n h fewer =
    let bound = h.height_bound n in
    let inner = pending_in p.inlines v.pending n in
    let small : idle p.rows inner < suc (length p.rows) = let e = idle-bound p.rows inner in omega (arith, e) in
    let less : places p v inner < places p w w.pending =
    let e = closer (missing p.rows p.contract v) (missing p.rows p.contract w) (suc (length p.rows)) (idle p.rows inner) fewer small in
    omega (arith, e) in
    closer (places p v inner) (places p w w.pending) (width p.rows) (8 * height p.rows n + 8) less (omega (arith, bound))

-- to the document of a row that was entered
pub to_filled : (p : Plan) (w v : Registry) (n : ℕ) → missing p.rows p.contract v ≤ missing p.rows p.contract w
    → v.pending ≡ pending_in p.inlines w.pending n → measure_of_filled p v n < measure_of_own_document p w n
to_filled p w v n fewer same =
    let e : missing p.rows p.contract v * suc (length p.rows) ≤ missing p.rows p.contract w * suc (length p.rows) =
    mul-le-mul_right (suc (length p.rows)) fewer in
    let f : idle p.rows v.pending ≡ idle p.rows (pending_in p.inlines w.pending n) = ap (idle p.rows) same in
    let less : places p v v.pending ≤ places p w (pending_in p.inlines w.pending n) = omega (arith, e, f) in
    let g : places p v v.pending * width p.rows ≤ places p w (pending_in p.inlines w.pending n) * width p.rows =
    mul-le-mul_right (width p.rows) less in
    omega (arith, g)
