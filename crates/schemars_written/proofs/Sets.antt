-- Sets of values that their JSON tells apart.
use Rattle.std.proofs.Common.{◌≡◌, ℕ, List, [], ◌∷◌, length, Bool, true, false, not, ◌||◌, Some, Ordering, Less, Equal, Greater, is_eq, refl, sym, ap, ◌∙◌, subst, arith}
use Rattle.schemars_written.proofs.Words.{All, IsTotalOrder, AllByRecursion, IsDistinct, ordering_reverse, IsStrictlySortedBy, All-head, All-tail, Json, Log, WritesEach, WritesSeq, Data, items_depth, array, Items, no_items, item, of_json, of_items, json_eq, is_among, are_distinct, Patterns, json_eq-sym, Row, rank, IsChecked, belongs_within, every_item, Gives, GivesItems, First, NoItems, Each, IsArray, Fits, MeansUnder, MeansJustUnder, HasShape}
use Rattle.json.specs.Json as json
use Rattle.schemars_shapes.specs.Shape as shape
use Rattle.schemars_types.specs.declared.contract.Contract.TheVariants.{Serialize}
use Rattle.schemars_written.proofs.Atoms.{weaker, step, part_low, Some_same}
use Rattle.schemars_written.proofs.Lists.{no_items_give, then_give, in_seq_gives, item_parts, array_parts, items_fit, room, both_true}

-- ---- items that are read as known values

-- the items are those of row m, and are read as these values, in order
abbrev pub Shows : {A : Type 0} → (Patterns → Type 0) → List Row → ℕ → (A → Data) → List A → json.Items → Type 0
Shows reading rows m shown [] js = NoItems js
Shows reading rows m shown (x ∷ xs) js = First (MeansJustUnder reading rows m (shown x)) (Shows reading rows m shown xs) js

abbrev shown_items : {A : Type 0} → (A → Data) → List A → Items
shown_items shown [] = no_items
shown_items shown (x ∷ xs) = item (shown x) (shown_items shown xs)

items_give : {A : Type 0} (reading : Patterns → Type 0) (rows : List Row) (m : ℕ) (w : A → Log → Log → Type 0) (V : A → Type 0)
    (shown : A → Data)
    → ((x : A) → V x → Gives (w x) (MeansJustUnder reading rows m (shown x))) → (xs : List A) → All V xs
    → GivesItems (WritesEach w xs) (Shows reading rows m shown xs)
items_give reading rows m w V shown given [] all = no_items_give
items_give reading rows m w V shown given (x ∷ xs) all =
    then_give (w x) (WritesEach w xs) (MeansJustUnder reading rows m (shown x)) (Shows reading rows m shown xs)
    (given x (All-head V x xs all))
    (items_give reading rows m w V shown given xs (All-tail V x xs all))

are_read : {A : Type 0} (reading : Patterns → Type 0) (rows : List Row) (m : ℕ) (shown : A → Data) (xs : List A) (js : json.Items)
    (ds : Items) → Shows reading rows m shown xs js
    → of_items js ≡ Some ds → ds ≡ shown_items shown xs
are_read reading rows m shown [] json.no_items ds all reads = sym (Some_same no_items ds reads)
are_read reading rows m shown [] (json.item j js) ds all reads = absurd all
are_read reading rows m shown (x ∷ xs) json.no_items ds all reads = absurd all
are_read reading rows m shown (x ∷ xs) (json.item j js) ds all reads =
    let r = item_parts (of_json j) (of_items js) ds reads in
    sym r.4 ∙ ap (λ (d : Data). item d r.1) (Some_same r.0 (shown x) (sym r.2 ∙ all.0.1))
    ∙ ap (λ (es : Items). item (shown x) es) (are_read reading rows m shown xs js r.1 all.1 r.3)

each_means : {A : Type 0} (reading : Patterns → Type 0) (rows : List Row) (m : ℕ) (shown : A → Data) (xs : List A) (js : json.Items)
    → Shows reading rows m shown xs js
    → Each (MeansUnder reading rows m) (length xs) js
each_means reading rows m shown [] js all = all
each_means reading rows m shown (x ∷ xs) json.no_items all = absurd all
each_means reading rows m shown (x ∷ xs) (json.item j js) all = (all.0.0, each_means reading rows m shown xs js all.1)

-- ---- they differ

both_false : (a b : Bool) → a ≡ false → b ≡ false → (a || b) ≡ false
both_false true b h k = absurd (cc)
both_false false b h k = k

-- the JSON of a value does not equal that of one below it
abbrev Tells : {A : Type 0} → (A → Type 0) → (A → A → Ordering) → (A → Data) → Type 0
Tells {A} V cmp shown = (x y : A) → V x → V y → cmp x y ≡ Less → json_eq (shown y) (shown x) ≡ false

-- nor that of any of these
abbrev DiffersFrom : {A : Type 0} → (A → Data) → A → List A → Type 0
DiffersFrom shown x ys = AllByRecursion (λ y. json_eq (shown y) (shown x) ≡ false) ys

not_among : {A : Type 0} (shown : A → Data) (x : A) (ys : List A) → DiffersFrom shown x ys
    → is_among (shown_items shown ys) (shown x) ≡ false
not_among shown x [] all = refl
not_among shown x (y ∷ ys) all =
    both_false (json_eq (shown y) (shown x)) (is_among (shown_items shown ys) (shown x)) all.0 (not_among shown x ys all.1)

one_more : {A : Type 0} (shown : A → Data) (x : A) (xs : List A) → DiffersFrom shown x xs → are_distinct (shown_items shown xs) ≡ true
    → are_distinct (shown_items shown (x ∷ xs)) ≡ true
one_more shown x xs apart others =
    both_true (not (is_among (shown_items shown xs) (shown x))) (are_distinct (shown_items shown xs))
    (ap not (not_among shown x xs apart)) others

-- a value that is below them all
below_all : {A : Type 0} (V : A → Type 0) (cmp : A → A → Ordering) (shown : A → Data) → Tells V cmp shown → (x : A) → V x
    → (ys : List A) → All V ys → AllByRecursion (λ y. cmp x y ≡ Less) ys → DiffersFrom shown x ys
below_all V cmp shown apart x valid [] all below = tt
below_all V cmp shown apart x valid (y ∷ ys) all below =
    (apart x y valid (All-head V y ys all) below.0, below_all V cmp shown apart x valid ys (All-tail V y ys all) below.1)

sorted_differ : {A : Type 0} (V : A → Type 0) (cmp : A → A → Ordering) (shown : A → Data) → Tells V cmp shown
    → (xs : List A) → All V xs → IsStrictlySortedBy cmp xs → are_distinct (shown_items shown xs) ≡ true
unfolding IsStrictlySortedBy
sorted_differ V cmp shown apart [] all sorted = refl
sorted_differ V cmp shown apart (x ∷ xs) all sorted =
    one_more shown x xs (below_all V cmp shown apart x (All-head V x xs all) xs (All-tail V x xs all) sorted.0)
    (sorted_differ V cmp shown apart xs (All-tail V x xs all) sorted.1)

-- two values that are not equal, whichever is below the other
unequal : {A : Type 0} (V : A → Type 0) (cmp : A → A → Ordering) (shown : A → Data) → Tells V cmp shown → IsTotalOrder cmp
    → (x y : A) → V x → V y → is_eq (cmp x y) ≡ false → json_eq (shown y) (shown x) ≡ false
unequal V cmp shown apart total x y v w differ = go (cmp x y) refl
  where
    go : (r : Ordering) → cmp x y ≡ r → json_eq (shown y) (shown x) ≡ false
    go Less is = apart x y v w is
    go Equal is = let no : true ≡ false = sym (ap is_eq is) ∙ differ in absurd (cc)
    go Greater is = json_eq-sym (shown y) (shown x) ∙ apart y x w v (total.antisymm y x ∙ ap ordering_reverse is)

unequal_to_all : {A : Type 0} (V : A → Type 0) (eq : A → A → Bool) (cmp : A → A → Ordering) (shown : A → Data) → Tells V cmp shown
    → IsTotalOrder cmp → ((x y : A) → eq x y ≡ is_eq (cmp x y)) → (x : A) → V x
    → (ys : List A) → All V ys → AllByRecursion (λ y. eq x y ≡ false) ys → DiffersFrom shown x ys
unequal_to_all V eq cmp shown apart total ties x valid [] all differ = tt
unequal_to_all V eq cmp shown apart total ties x valid (y ∷ ys) all differ = (
  unequal V cmp shown apart total x y valid (All-head V y ys all) (sym (ties x y) ∙ differ.0),
  unequal_to_all V eq cmp shown apart total ties x valid ys (All-tail V y ys all) differ.1,
)

distinct_differ : {A : Type 0} (V : A → Type 0) (eq : A → A → Bool) (cmp : A → A → Ordering) (shown : A → Data) → Tells V cmp shown
    → IsTotalOrder cmp → ((x y : A) → eq x y ≡ is_eq (cmp x y))
    → (xs : List A) → All V xs → IsDistinct eq xs → are_distinct (shown_items shown xs) ≡ true
unfolding IsDistinct
distinct_differ V eq cmp shown apart total ties [] all unique = refl
distinct_differ V eq cmp shown apart total ties (x ∷ xs) all unique =
    one_more shown x xs (unequal_to_all V eq cmp shown apart total ties x (All-head V x xs all) xs (All-tail V x xs all) unique.0)
    (distinct_differ V eq cmp shown apart total ties xs (All-tail V x xs all) unique.1)

-- ---- the laws

set_means : {A : Type 0} (reading : Patterns → Type 0) (rows : List Row) → IsChecked rows → (n m : ℕ) → HasShape rows n (shape.set m)
    → (shown : A → Data) (xs : List A)
    → are_distinct (shown_items shown xs) ≡ true → (j : Json) → IsArray (Shows reading rows m shown xs) j → MeansUnder reading rows n j
set_means reading rows checked n m is shown xs apart json.null all = absurd all
set_means reading rows checked n m is shown xs apart (json.boolean b) all = absurd all
set_means reading rows checked n m is shown xs apart (json.number s) all = absurd all
set_means reading rows checked n m is shown xs apart (json.string s) all = absurd all
set_means reading rows checked n m is shown xs apart (json.object ms) all = absurd all
set_means reading rows checked n m is shown xs apart (json.array js) all = λ patterns takes d reads.
    let r = array_parts (of_items js) d reads in
    let low = part_low rows checked n m (shape.set m) is (0, omega arith, refl) in
    subst (λ x. Fits rows patterns n x) r.2 (step rows patterns n (shape.set m) (array r.0) is (λ steps few.
    both_true (are_distinct r.0) (every_item (belongs_within rows Serialize patterns steps m) r.0)
    (ap are_distinct (are_read reading rows m shown xs js r.0 all r.1) ∙ apart)
    (items_fit reading rows patterns takes m (length xs) js r.0 (each_means reading rows m shown xs js all) r.1 (items_depth r.0) steps
    (omega arith)
    (room (items_depth r.0) (length rows) (rank rows m) (rank rows n) steps few (checked.rank_bound m low)))))

items_law : {A : Type 0} (reading : Patterns → Type 0) (rows : List Row) → IsChecked rows
    → (n : ℕ) (w : A → Log → Log → Type 0) (V : A → Type 0) (R : List Row → ℕ → Type 0)
    (shown : A → Data) → ((m : ℕ) (x : A) → R rows m → V x → Gives (w x) (MeansJustUnder reading rows m (shown x)))
    → (m : ℕ) × HasShape rows n (shape.set m) × R rows m → (xs : List A) → All V xs → are_distinct (shown_items shown xs) ≡ true
    → Gives (WritesSeq w xs) (MeansUnder reading rows n)
items_law reading rows checked n w V R shown given row xs valid differ =
    weaker (WritesSeq w xs) (IsArray (Shows reading rows row.0 shown xs)) (MeansUnder reading rows n)
    (set_means reading rows checked n row.0 row.1 shown xs differ)
    (in_seq_gives (length xs) (WritesEach w xs) (Shows reading rows row.0 shown xs)
    (items_give reading rows row.0 w V shown (λ x v. given row.0 x row.2 v) xs valid))

-- of a set whose values are in order
pub set_law : {A : Type 0} {reading : Patterns → Type 0} (rows : List Row) → IsChecked rows
    → (n : ℕ) (w : A → Log → Log → Type 0) (V : A → Type 0) (R : List Row → ℕ → Type 0)
    (cmp : A → A → Ordering) (shown : A → Data) → ((m : ℕ) (x : A) → R rows m → V x → Gives (w x) (MeansJustUnder reading rows m (shown x)))
    → ((x y : A) → V x → V y → cmp x y ≡ Less → json_eq (shown y) (shown x) ≡ false)
    → (m : ℕ) × HasShape rows n (shape.set m) × R rows m → (xs : List A) → IsStrictlySortedBy cmp xs × All V xs
    → Gives (WritesSeq w xs) (MeansUnder reading rows n)
set_law {reading = reading} rows checked n w V R cmp shown given apart row xs valid =
    items_law reading rows checked n w V R shown given row xs valid.1 (sorted_differ V cmp shown apart xs valid.1 valid.0)

-- of a set whose values are in no order
pub unordered_set_law : {A : Type 0} {reading : Patterns → Type 0} (rows : List Row) → IsChecked rows
    → (n : ℕ) (w : A → Log → Log → Type 0) (V : A → Type 0) (R : List Row → ℕ → Type 0)
    (eq : A → A → Bool) (cmp : A → A → Ordering) → IsTotalOrder cmp → ((x y : A) → eq x y ≡ is_eq (cmp x y))
    → (shown : A → Data) → ((m : ℕ) (x : A) → R rows m → V x → Gives (w x) (MeansJustUnder reading rows m (shown x)))
    → ((x y : A) → V x → V y → cmp x y ≡ Less → json_eq (shown y) (shown x) ≡ false)
    → (m : ℕ) × HasShape rows n (shape.set m) × R rows m → (xs : List A) → IsDistinct eq xs × All V xs
    → Gives (WritesSeq w xs) (MeansUnder reading rows n)
unordered_set_law {reading = reading} rows checked n w V R eq cmp total ties shown given apart row xs valid =
    items_law reading rows checked n w V R shown given row xs valid.1 (distinct_differ V eq cmp shown apart total ties xs valid.1 valid.0)
