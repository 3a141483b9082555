-- Marks that are set one after another.
use Rattle.std.proofs.Common.{◌≡◌, ℕ, zero, suc, ◌+◌, ◌<◌, ◌≤◌, min, List, [], ◌∷◌, ◌++◌, length, replicate, take, drop, set, get_or, Bool, true, false, Option, Some, None, refl, sym, ap, ◌∙◌, add-one, arith}
use Rattle.schemars_validate.proofs.Words.{nat_tests, ◌&&◌, ◌||◌, if◌then◌else◌, nat_lt, is_some, option_map, Data, null, boolean, number, string, array, object, Items, no_items, item, Members, no_members, member, items_len, get_item, as_array, as_object, view, items_view, members_view, Entry, Text, Verdict, is_yes, Part, position, Judge, marked, unmarked, first_marked, keys_in, positions_in, parts_of, at_keys, at_positions, is_placed, fits_at}
use Rattle.serde_json.specs.declared.value.Value.{Value}

or_off : (b : Bool) → (b || false) ≡ b
or_off true = refl
or_off false = refl

or_on : (b : Bool) → true ≡ (b || true)
or_on true = refl
or_on false = refl

-- ---- one mark

pub no_marks : (f : Part → Bool) (ps : List Part) → marked f ps [] ≡ []
no_marks f [] = refl
no_marks f (p ∷ ps) = refl

set_next : (f : Part → Bool) (p : Part) (ps : List Part) (bs : List Bool) (i : ℕ) → f p ≡ true
    → take (suc i) (set bs i true) ++ marked f ps (drop (suc i) (set bs i true)) ≡ take i bs ++ marked f (p ∷ ps) (drop i bs)
set_next f p ps [] zero on = no_marks f ps
set_next f p ps [] (suc i) on = no_marks f ps
set_next f p ps (b ∷ bs) zero on = ap (λ c. c ∷ marked f ps bs) (or_on b ∙ ap (λ c. b || c) (sym on))
set_next f p ps (b ∷ bs) (suc i) on = ap (λ cs. b ∷ cs) (set_next f p ps bs i on)

keep_next : (f : Part → Bool) (p : Part) (ps : List Part) (bs : List Bool) (i : ℕ) → f p ≡ false
    → take (suc i) bs ++ marked f ps (drop (suc i) bs) ≡ take i bs ++ marked f (p ∷ ps) (drop i bs)
keep_next f p ps [] zero off = no_marks f ps
keep_next f p ps [] (suc i) off = no_marks f ps
keep_next f p ps (b ∷ bs) zero off = ap (λ c. c ∷ marked f ps bs) (sym (or_off b) ∙ ap (λ c. b || c) (sym off))
keep_next f p ps (b ∷ bs) (suc i) off = ap (λ cs. b ∷ cs) (keep_next f p ps bs i off)

-- the mark is set if the test holds, and if there is one
pub mark_next : (f : Part → Bool) (p : Part) (ps : List Part) (bs cs : List Bool) (i : ℕ) (t : Bool) → t ≡ f p
    → cs ≡ (if t then set bs i true else bs)
    → take (i + 1) cs ++ marked f ps (drop (i + 1) cs) ≡ take i bs ++ marked f (p ∷ ps) (drop i bs)
mark_next f p ps bs cs i true is e = rw (e, add-one) (set_next f p ps bs i (sym is))
mark_next f p ps bs cs i false is e = rw (e, add-one) (keep_next f p ps bs i (sym is))

-- ---- the first marks

pub first_next : (n : ℕ) (bs : List Bool) → set (first_marked n bs) n true ≡ first_marked (n + 1) bs
first_next n bs = rw add-one (go n bs)
  where
    go : (n : ℕ) (bs : List Bool) → set (first_marked n bs) n true ≡ first_marked (suc n) bs
    go zero [] = refl
    go zero (b ∷ bs) = refl
    go (suc n) [] = refl
    go (suc n) (b ∷ bs) = ap (λ cs. true ∷ cs) (go n bs)

pub first_enough : (n : ℕ) (bs : List Bool) → first_marked (min n (length bs)) bs ≡ first_marked n bs
first_enough zero bs = let none : min 0 (length bs) ≡ 0 = omega arith in ap (λ m. first_marked m bs) none
first_enough (suc n) [] = let none : min (suc n) 0 ≡ 0 = omega arith in ap (λ m. first_marked m []) none
first_enough (suc n) (b ∷ bs) =
    let one : min (suc n) (suc (length bs)) ≡ suc (min n (length bs)) = omega arith in
    ap (λ m. first_marked m (b ∷ bs)) one ∙ ap (λ cs. true ∷ cs) (first_enough n bs)

pub first_all : (ps : List Part) (bs : List Bool) → first_marked (length ps) bs ≡ marked (λ p. true) ps bs
first_all [] bs = refl
first_all (p ∷ ps) [] = refl
first_all (p ∷ ps) (b ∷ bs) = λ i. or_on b i ∷ first_all ps bs i

pub none_marked : (ps : List Part) → replicate (length ps) false ≡ unmarked ps
none_marked [] = refl
none_marked (p ∷ ps) = ap (λ cs. false ∷ cs) (none_marked ps)

-- ---- the number of parts

items_parts : (n : ℕ) (vs : List Value) → length (positions_in n (items_view vs)) ≡ length vs
items_parts n [] = refl
items_parts n (v ∷ vs) = ap suc (items_parts (suc n) vs)

members_parts : (es : List Entry) → length (keys_in (members_view es)) ≡ length es
members_parts [] = refl
members_parts (e ∷ es) = ap suc (members_parts es)

pub list_parts : (v : Data) (vs : List Value) → Some (items_view vs) ≡ as_array v → length (parts_of v) ≡ length vs
list_parts (array ds) vs is = let same : items_view vs ≡ ds = cc in sym (ap (λ xs. length (positions_in 0 xs)) same) ∙ items_parts 0 vs
list_parts null vs is = cc
list_parts (boolean b) vs is = cc
list_parts (number n) vs is = cc
list_parts (string s) vs is = cc
list_parts (object ms) vs is = cc

pub object_parts : (v : Data) (es : List Entry) → Some (members_view es) ≡ as_object v → length (parts_of v) ≡ length es
object_parts (object ms) es is = let same : members_view es ≡ ms = cc in sym (ap (λ xs. length (keys_in xs)) same) ∙ members_parts es
object_parts null es is = cc
object_parts (boolean b) es is = cc
object_parts (number n) es is = cc
object_parts (string s) es is = cc
object_parts (array ds) es is = cc

pub no_parts : (v : Data) → None ≡ as_array v → None ≡ as_object v → 0 ≡ length (parts_of v)
no_parts (array ds) list map = cc
no_parts (object ms) list map = cc
no_parts _ list map = refl

-- ---- marks of items

pub no_item_marked : (f : ℕ → Bool) (v : Data) (bs : List Bool) → None ≡ as_array v → bs ≡ marked (at_positions f) (parts_of v) bs
no_item_marked f (object ms) bs none = sym (go ms bs)
  where
    go : (ms : Members) (bs : List Bool) → marked (at_positions f) (keys_in ms) bs ≡ bs
    go no_members bs = refl
    go (member k d ms) [] = refl
    go (member k d ms) (b ∷ bs) = λ i. or_off b i ∷ go ms bs i
no_item_marked f (array ds) bs none = cc
no_item_marked f _ bs none = refl

pub no_member_marked : (f : Text → Bool) (v : Data) (bs : List Bool) → None ≡ as_object v → bs ≡ marked (at_keys f) (parts_of v) bs
no_member_marked f (array ds) bs none = sym (go 0 ds bs)
  where
    go : (n : ℕ) (ds : Items) (bs : List Bool) → marked (at_keys f) (positions_in n ds) bs ≡ bs
    go n no_items bs = refl
    go n (item d ds) [] = refl
    go n (item d ds) (b ∷ bs) = λ i. or_off b i ∷ go (suc n) ds bs i
no_member_marked f (object ms) bs none = cc
no_member_marked f _ bs none = refl

module _ (f : ℕ → Bool) where
  all_placed : ((m : ℕ) → f m ≡ true) → (n : ℕ) (ds : Items) (bs : List Bool)
      → first_marked (items_len ds) bs ≡ marked (at_positions f) (positions_in n ds) bs
  all_placed on n no_items bs = refl
  all_placed on n (item d ds) [] = refl
  all_placed on n (item d ds) (b ∷ bs) = λ i. (or_on b ∙ ap (λ c. b || c) (sym (on n))) i ∷ all_placed on (suc n) ds bs i

  none_placed : (k : ℕ) → ((m : ℕ) → k ≤ m → f m ≡ false) → (n : ℕ) (ds : Items) (bs : List Bool) → k ≤ n
      → bs ≡ marked (at_positions f) (positions_in n ds) bs
  none_placed k off n no_items bs past = refl
  none_placed k off n (item d ds) [] past = refl
  none_placed k off n (item d ds) (b ∷ bs) past =
      λ i. (sym (or_off b) ∙ ap (λ c. b || c) (sym (off n past))) i ∷ none_placed k off (suc n) ds bs (omega arith) i

  -- the first j of those from the n-th on, which are those before the k-th
  some_placed : (k : ℕ) → ((m : ℕ) → m < k → f m ≡ true) → ((m : ℕ) → k ≤ m → f m ≡ false) → (j n : ℕ) (ds : Items) (bs : List Bool)
      → k ≡ n + j → first_marked (min j (items_len ds)) bs ≡ marked (at_positions f) (positions_in n ds) bs
  some_placed k on off zero n ds bs is =
      let none : min 0 (items_len ds) ≡ 0 = omega arith in
      ap (λ m. first_marked m bs) none ∙ none_placed k off n ds bs (omega arith)
  some_placed k on off (suc j) n no_items bs is =
      let none : min (suc j) 0 ≡ 0 = omega arith in ap (λ m. first_marked m bs) none
  some_placed k on off (suc j) n (item d ds) [] is =
      let one : min (suc j) (suc (items_len ds)) ≡ suc (min j (items_len ds)) = omega arith in ap (λ m. first_marked m []) one
  some_placed k on off (suc j) n (item d ds) (b ∷ bs) is =
      let one : min (suc j) (suc (items_len ds)) ≡ suc (min j (items_len ds)) = omega arith in
      ap (λ m. first_marked m (b ∷ bs)) one
      ∙ (λ i. (or_on b ∙ ap (λ c. b || c) (sym (on n (omega arith)))) i ∷ some_placed k on off j (suc n) ds bs (omega arith) i)

-- so many are marked: all where there is a schema of all others
pub placed_marks : (first : Items) (others : Option Data) (v : Data) (ds : Items) (bs : List Bool) (n : ℕ) → Some ds ≡ as_array v
    → n ≡ (if is_some others then items_len ds else min (items_len first) (items_len ds))
    → first_marked n bs ≡ marked (at_positions (is_placed first others)) (parts_of v) bs
placed_marks first (Some d) (array es) ds bs n is count =
    let same : ds ≡ es = cc in
    ap (λ m. first_marked m bs) (count ∙ ap items_len same)
    ∙ all_placed (is_placed first (Some d)) (λ m. sym (or_on (nat_lt m (items_len first)))) 0 es bs
placed_marks first None (array es) ds bs n is count =
    let same : ds ≡ es = cc in
    ap (λ m. first_marked m bs) (count ∙ ap (λ xs. min (items_len first) (items_len xs)) same)
    ∙ some_placed (is_placed first None) (items_len first)
    (λ m below. let h : nat_lt m (items_len first) ≡ true = grind (arith, nat_tests) in or_off (nat_lt m (items_len first)) ∙ h)
    (λ m past. let h : nat_lt m (items_len first) ≡ false = grind (arith, nat_tests) in or_off (nat_lt m (items_len first)) ∙ h)
    (items_len first) 0 es bs (omega arith)
placed_marks first others null ds bs n is count = cc
placed_marks first others (boolean b) ds bs n is count = cc
placed_marks first others (number m) ds bs n is count = cc
placed_marks first others (string s) ds bs n is count = cc
placed_marks first others (object ms) ds bs n is count = cc

pub item_there : (xs : List Value) (i : ℕ) (x : Value) → i < length xs → x ≡ get_or xs i x → get_item i (items_view xs) ≡ Some (view x)
item_there [] i x h is = absurd (omega arith)
item_there (y ∷ xs) zero x h is = ap (λ (z : Value). Some (view z)) (sym is)
item_there (y ∷ xs) (suc i) x h is = item_there xs i x (omega arith) is

-- an item that `contains` takes as judged
pub fitting_here : (counts : Bool) (s : Judge) (xs : List Value) (i : ℕ) (x : Value) (says : Verdict) → i < length xs → x ≡ get_or xs i x
    → says ≡ s.fits (view x) → (counts && is_yes says) ≡ at_positions (fits_at counts s (items_view xs)) (position i)
fitting_here counts s xs i x says h is said =
    ap (λ y. counts && is_yes y) said
    ∙ sym (ap (λ o. counts && elim o [ None ↦ false | Some w ↦ is_yes (s.fits w) ]) (item_there xs i x h is))

pub mapped_some : {A B : Type 0} (f : A → B) (o : Option A) → is_some o ≡ is_some (option_map f o)
mapped_some f None = refl
mapped_some f (Some a) = refl
