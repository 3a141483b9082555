-- Options, lists and tuples.
use Rattle.std.proofs.Common.{◌≡◌, ℕ, zero, suc, ◌+◌, ◌*◌, ◌<◌, ◌≤◌, List, [], ◌∷◌, ◌++◌, length, Bool, true, false, ◌&&◌, ◌||◌, ◌==◌, Option, Some, None, refl, sym, ap, ◌∙◌, subst, arith, append_assoc, append-nil, mul-le-mul_right}
use Rattle.schemars_written.proofs.Words.{All, option_map, option_and_then, Contains, common_steps, All-head, All-tail, mul-le, Json, json_tokens, items_tokens, Log, Logs, WritesEach, WritesSeq, WritesOption, InSeq, Then, Data, depth, items_depth, null, array, Items, no_items, item, items_len, of_json, of_items, TakesAll, Patterns, is_null, Row, rank, IsChecked, belongs_within, every_item, each_of, IsPlain, Gives, GivesItems, First, NoItems, Each, IsArray, AnyReading, Fits, MeansUnder, Means, HasShape, OfSome}
use Rattle.json.specs.Json as json
use Rattle.json.specs.Token as token
use Rattle.serde.specs.Event as event
use Rattle.schemars_shapes.specs.Shape as shape
use Rattle.schemars_types.specs.declared.contract.Contract.TheVariants.{Serialize}
use Rattle.schemars_written.proofs.Atoms.{weaker, step, part_low, same_lower, known, null_gives, Some_same}

-- ---- Option

right_true : (a b : Bool) → b ≡ true → (a || b) ≡ true
right_true true b h = refl
right_true false b h = h

some_means : (reading : Patterns → Type 0) (rows : List Row) → IsChecked rows → (n m : ℕ) → HasShape rows n (shape.option m) → (j : Json)
    → MeansUnder reading rows m j → MeansUnder reading rows n j
some_means reading rows checked n m is j part patterns takes d reads =
    let low = part_low rows checked n m (shape.option m) is (0, omega arith, refl) in
    let lower = same_lower rows checked n m (shape.option m) is (0, omega arith, refl) low in
    step rows patterns n (shape.option m) d is (λ steps few.
    right_true (is_null d) (belongs_within rows Serialize patterns steps m d) (part patterns takes d reads steps (omega arith)))

pub option_agrees : {A : Type 0} (reading : Patterns → Type 0) (rows : List Row) → IsChecked rows → (n m : ℕ)
    → HasShape rows n (shape.option m) → (w : A → Log → Log → Type 0)
    (x : Option A) → OfSome (λ a. Gives (w a) (MeansUnder reading rows m)) x → Gives (WritesOption w x) (MeansUnder reading rows n)
option_agrees reading rows checked n m is w None given = null_gives (MeansUnder reading rows n)
    (known reading rows n json.null null refl (λ patterns. step rows patterns n (shape.option m) null is (λ steps low. refl)))
option_agrees reading rows checked n m is w (Some a) given =
    weaker (w a) (MeansUnder reading rows m) (MeansUnder reading rows n) (some_means reading rows checked n m is) given

-- ---- lists

pub no_items_give : GivesItems (λ old new. new ≡ old) NoItems
no_items_give es new sent = (
  [],
  sent ∙ ap Some (sym (append-nil es)),
  λ rest s last plain run.
      (run.0, json.no_items, tt, grind (arith, common_steps, run.1), grind (arith, common_steps, run.1), run.2),
)

pub then_give : (w ws : Log → Log → Type 0) (P : Json → Type 0) (Q : json.Items → Type 0) → Gives w P → GivesItems ws Q
    → GivesItems (Then w ws) (First P Q)
then_give w ws P Q first others es new sent =
    let a = first es sent.0 sent.1 in
    let b = others (es ++ a.0) new (subst (λ (l : Log). ws l new) a.1 sent.2) in (
      a.0 ++ b.0,
      b.1 ∙ ap Some (append_assoc es a.0 b.0),
      λ rest s last plain run.
          let c = a.2 (b.0 ++ event.seq_ends ∷ rest) s last plain
          (subst (λ xs. TakesAll s xs last) (append_assoc a.0 b.0 (event.seq_ends ∷ rest)) run) in
          let d = b.2 rest c.0 last c.3 c.5 in (
            d.0,
            json.item c.1 d.1,
            (c.2, d.2),
            d.3,
            d.4 ∙ ap (λ xs. xs ++ items_tokens d.1) c.4 ∙ append_assoc s.tokens (json_tokens c.1)
                (items_tokens d.1),
            d.5,
          ),
    )

pub last_gives : (w : Log → Log → Type 0) (P : Json → Type 0) → Gives w P → GivesItems w (First P NoItems)
last_gives w P given es new sent =
    let a = then_give w (λ old new. new ≡ old) P NoItems given no_items_give es new (new, sent, refl) in a

pub each_gives : {A : Type 0} (w : A → Log → Log → Type 0) (V : A → Type 0) (P : Json → Type 0) → ((x : A) → V x → Gives (w x) P)
    → (xs : List A) → All V xs → GivesItems (WritesEach w xs) (Each P (length xs))
each_gives w V P given [] all = no_items_give
each_gives w V P given (x ∷ xs) all =
    then_give (w x) (WritesEach w xs) P (Each P (length xs)) (given x (All-head V x xs all))
    (each_gives w V P given xs (All-tail V x xs all))

pub in_seq_gives : (n : ℕ) (w : Log → Log → Type 0) (P : json.Items → Type 0) → GivesItems w P → Gives (InSeq n w) (IsArray P)
in_seq_gives n w P given es new sent =
    let begun = es ++ event.seq_begins (Some n) ∷ [] in
    let a = given begun sent.1 (subst (λ (l : Log). w l sent.1) sent.2 sent.3) in
    let ended : new ≡ Some ((begun ++ a.0) ++ event.seq_ends ∷ []) = subst (λ (l : Log). Logs l new event.seq_ends) a.1 sent.4 in (
      event.seq_begins (Some n) ∷ (a.0 ++ event.seq_ends ∷ []),
      ended ∙ ap Some (append_assoc begun a.0 (event.seq_ends ∷ []) ∙ append_assoc es (event.seq_begins (Some n) ∷ []) (a.0 ++ event.seq_ends ∷ [])),
      λ rest s last plain run.
          let opened : IsPlain run.0 × (run.0.tokens ≡ s.tokens ++ token.begin_array ∷ []) = grind (arith, common_steps, run.1.1.1) in
          let c = a.2 rest run.0 last opened.0 (subst (λ xs. TakesAll run.0 xs last) (append_assoc a.0 (event.seq_ends ∷ []) rest) run.2) in (
            c.0,
            json.array c.1,
            c.2,
            c.3,
            c.4 ∙ ap (λ xs. xs ++ items_tokens c.1) opened.1 ∙ append_assoc s.tokens
                (token.begin_array ∷ []) (items_tokens c.1),
            c.5,
          ),
    )

-- ---- what lists mean

pub closer : (a b h r : ℕ) → a < b → r < h → a * h + r < b * h
closer a b h r less small = grind (arith, mul-le-mul_right)

-- one step inside, there are enough steps for a part
pub room : (h len r n steps : ℕ) → suc h * len + n < suc steps → r < len → h * len + r < steps
room h len r n steps few less = omega (arith, closer h (suc h) len r (omega arith) less)

pub shallower : (rows : List Row) (patterns : Patterns) (m : ℕ) (d : Data) → Fits rows patterns m d → (h steps : ℕ) → depth d ≤ h
    → h * length rows + rank rows m < steps → belongs_within rows Serialize patterns steps m d ≡ true
shallower rows patterns m d fits h steps deep few =
    fits steps (omega (arith, mul-le (depth d) (length rows) h (length rows) deep (omega arith)))

pub item_parts : (o : Option Data) (os : Option Items) (ds : Items) → option_and_then (λ d. option_map (item d) os) o ≡ Some ds
    → (d : Data) × (es : Items) × (o ≡ Some d) × (os ≡ Some es) × (item d es ≡ ds)
item_parts None os ds h = absurd (cc)
item_parts (Some d) None ds h = absurd (cc)
item_parts (Some d) (Some es) ds h = (d, es, refl, refl, Some_same (item d es) ds h)

pub array_parts : (os : Option Items) (d : Data) → option_map array os ≡ Some d → (ds : Items) × (os ≡ Some ds) × (array ds ≡ d)
array_parts None d h = absurd (cc)
array_parts (Some ds) d h = (ds, refl, Some_same (array ds) d h)

pub both_true : (a b : Bool) → a ≡ true → b ≡ true → (a && b) ≡ true
both_true true b h k = k
both_true false b h k = h

pub items_fit : (reading : Patterns → Type 0) (rows : List Row) (patterns : Patterns) → reading patterns
    → (m k : ℕ) (js : json.Items) (ds : Items) → Each (MeansUnder reading rows m) k js → of_items js ≡ Some ds
    → (h steps : ℕ) → items_depth ds ≤ h → h * length rows + rank rows m < steps
    → every_item (belongs_within rows Serialize patterns steps m) ds ≡ true
items_fit reading rows patterns takes m zero json.no_items ds all reads h steps deep few =
    subst (λ (x : Items). every_item (belongs_within rows Serialize patterns steps m) x ≡ true) (Some_same no_items ds reads) refl
items_fit reading rows patterns takes m zero (json.item j js) ds all reads h steps deep few = absurd all
items_fit reading rows patterns takes m (suc k) json.no_items ds all reads h steps deep few = absurd all
items_fit reading rows patterns takes m (suc k) (json.item j js) ds all reads h steps deep few =
    let r = item_parts (of_json j) (of_items js) ds reads in
    let deeper : items_depth (item r.0 r.1) ≤ h = subst (λ (x : Items). items_depth x ≤ h) (sym r.4) deep in
    subst (λ (x : Items). every_item (belongs_within rows Serialize patterns steps m) x ≡ true) r.4
    (both_true (belongs_within rows Serialize patterns steps m r.0) (every_item (belongs_within rows Serialize patterns steps m) r.1)
    (shallower rows patterns m r.0 (all.0 patterns takes r.0 r.2) h steps (omega arith) few)
    (items_fit reading rows patterns takes m k js r.1 all.1 r.3 h steps (omega arith) few))

pub seq_means_under : (reading : Patterns → Type 0) (rows : List Row) → IsChecked rows → (n m k : ℕ) → HasShape rows n (shape.seq m)
    → (j : Json)
    → IsArray (Each (MeansUnder reading rows m) k) j → MeansUnder reading rows n j
seq_means_under reading rows checked n m k is json.null all = absurd all
seq_means_under reading rows checked n m k is (json.boolean b) all = absurd all
seq_means_under reading rows checked n m k is (json.number s) all = absurd all
seq_means_under reading rows checked n m k is (json.string s) all = absurd all
seq_means_under reading rows checked n m k is (json.object ms) all = absurd all
seq_means_under reading rows checked n m k is (json.array js) all = λ patterns takes d reads.
    let r = array_parts (of_items js) d reads in
    let low = part_low rows checked n m (shape.seq m) is (0, omega arith, refl) in
    subst (λ x. Fits rows patterns n x) r.2 (step rows patterns n (shape.seq m) (array r.0) is (λ steps few.
    items_fit reading rows patterns takes m k js r.0 all r.1 (items_depth r.0) steps (omega arith)
    (room (items_depth r.0) (length rows) (rank rows m) (rank rows n) steps few (checked.rank_bound m low))))

pub seq_means : (rows : List Row) → IsChecked rows → (n m k : ℕ) → HasShape rows n (shape.seq m) → (j : Json)
    → IsArray (Each (Means rows m) k) j → Means rows n j
seq_means rows checked n m k is = seq_means_under AnyReading rows checked n m k is

pub seq_agrees : {A : Type 0} (reading : Patterns → Type 0) (rows : List Row) → IsChecked rows → (n m : ℕ) → HasShape rows n (shape.seq m)
    → (w : A → Log → Log → Type 0)
    (V : A → Type 0) → ((x : A) → V x → Gives (w x) (MeansUnder reading rows m)) → (xs : List A) → All V xs
    → Gives (WritesSeq w xs) (MeansUnder reading rows n)
seq_agrees reading rows checked n m is w V given xs all =
    weaker (WritesSeq w xs) (IsArray (Each (MeansUnder reading rows m) (length xs))) (MeansUnder reading rows n)
    (seq_means_under reading rows checked n m (length xs) is)
    (in_seq_gives (length xs) (WritesEach w xs) (Each (MeansUnder reading rows m) (length xs))
    (each_gives w V (MeansUnder reading rows m) given xs all))

count_items : (P : Json → Type 0) (k : ℕ) (js : json.Items) (ds : Items) → Each P k js → of_items js ≡ Some ds → items_len ds ≡ k
count_items P zero json.no_items ds all reads = subst (λ (x : Items). items_len x ≡ 0) (Some_same no_items ds reads) refl
count_items P zero (json.item j js) ds all reads = absurd all
count_items P (suc k) json.no_items ds all reads = absurd all
count_items P (suc k) (json.item j js) ds all reads =
    let r = item_parts (of_json j) (of_items js) ds reads in
    subst (λ (x : Items). items_len x ≡ suc k) r.4 (ap suc (count_items P k js r.1 all.1 r.3))

same_number : (a b : ℕ) → a ≡ b → (a == b) ≡ true
same_number a b h = grind (arith, common_steps)

pub array_means : (reading : Patterns → Type 0) (rows : List Row) → IsChecked rows → (n m k : ℕ) → HasShape rows n (shape.array m k)
    → (j : Json)
    → IsArray (Each (MeansUnder reading rows m) k) j → MeansUnder reading rows n j
array_means reading rows checked n m k is json.null all = absurd all
array_means reading rows checked n m k is (json.boolean b) all = absurd all
array_means reading rows checked n m k is (json.number s) all = absurd all
array_means reading rows checked n m k is (json.string s) all = absurd all
array_means reading rows checked n m k is (json.object ms) all = absurd all
array_means reading rows checked n m k is (json.array js) all = λ patterns takes d reads.
    let r = array_parts (of_items js) d reads in
    let low = part_low rows checked n m (shape.array m k) is (0, omega arith, refl) in
    subst (λ x. Fits rows patterns n x) r.2 (step rows patterns n (shape.array m k) (array r.0) is (λ steps few.
    both_true (items_len r.0 == k) (every_item (belongs_within rows Serialize patterns steps m) r.0)
    (same_number (items_len r.0) k (count_items (MeansUnder reading rows m) k js r.0 all r.1))
    (items_fit reading rows patterns takes m k js r.0 all r.1 (items_depth r.0) steps (omega arith)
    (room (items_depth r.0) (length rows) (rank rows m) (rank rows n) steps few (checked.rank_bound m low)))))

pub array_agrees : {A : Type 0} (reading : Patterns → Type 0) (rows : List Row) → IsChecked rows → (n m k : ℕ)
    → HasShape rows n (shape.array m k) → (w : A → Log → Log → Type 0)
    (V : A → Type 0) → ((x : A) → V x → Gives (w x) (MeansUnder reading rows m)) → (xs : List A) → length xs ≡ k → All V xs
    → Gives (WritesSeq w xs) (MeansUnder reading rows n)
array_agrees reading rows checked n m k is w V given xs many all =
    weaker (WritesSeq w xs) (IsArray (Each (MeansUnder reading rows m) (length xs))) (MeansUnder reading rows n)
    (subst (λ (i : ℕ). (j : Json) → IsArray (Each (MeansUnder reading rows m) i) j → MeansUnder reading rows n j) (sym many)
    (array_means reading rows checked n m k is))
    (in_seq_gives (length xs) (WritesEach w xs) (Each (MeansUnder reading rows m) (length xs))
    (each_gives w V (MeansUnder reading rows m) given xs all))

-- ---- tuples

-- the items are those of these rows, in order
abbrev pub Of : (Patterns → Type 0) → List Row → List ℕ → json.Items → Type 0
Of reading rows [] js = NoItems js
Of reading rows (n ∷ ns) js = First (MeansUnder reading rows n) (Of reading rows ns) js

pub parts_fit : (reading : Patterns → Type 0) (rows : List Row) (patterns : Patterns) → reading patterns
    → (ns : List ℕ) (js : json.Items) (ds : Items)
    → ((m : ℕ) → Contains ns m → rank rows m < length rows) → Of reading rows ns js → of_items js ≡ Some ds
    → (h steps : ℕ) → items_depth ds ≤ h → suc h * length rows ≤ steps
    → each_of (belongs_within rows Serialize patterns steps) ns ds ≡ true
parts_fit reading rows patterns takes [] json.no_items ds low all reads h steps deep few =
    subst (λ (x : Items). each_of (belongs_within rows Serialize patterns steps) [] x ≡ true) (Some_same no_items ds reads) refl
parts_fit reading rows patterns takes [] (json.item j js) ds low all reads h steps deep few = absurd all
parts_fit reading rows patterns takes (m ∷ ns) json.no_items ds low all reads h steps deep few = absurd all
parts_fit reading rows patterns takes (m ∷ ns) (json.item j js) ds low all reads h steps deep few =
    let r = item_parts (of_json j) (of_items js) ds reads in
    let deeper : items_depth (item r.0 r.1) ≤ h = subst (λ (x : Items). items_depth x ≤ h) (sym r.4) deep in
    let first : Contains (m ∷ ns) m = (0, omega arith, refl) in
    let near = closer h (suc h) (length rows) (rank rows m) (omega arith) (low m first) in
    subst (λ (x : Items). each_of (belongs_within rows Serialize patterns steps) (m ∷ ns) x ≡ true) r.4
    (both_true (belongs_within rows Serialize patterns steps m r.0) (each_of (belongs_within rows Serialize patterns steps) ns r.1)
    (shallower rows patterns m r.0 (all.0 patterns takes r.0 r.2) h steps (omega arith) (omega arith))
    (parts_fit reading rows patterns takes ns js r.1 (λ k c. low k (suc c.0, omega (arith, c.1), c.2)) all.1 r.3 h steps (omega arith) few))

pub tuple_means : (reading : Patterns → Type 0) (rows : List Row) → IsChecked rows → (n : ℕ) (ns : List ℕ)
    → HasShape rows n (shape.tuple ns) → (j : Json)
    → IsArray (Of reading rows ns) j → MeansUnder reading rows n j
tuple_means reading rows checked n ns is json.null all = absurd all
tuple_means reading rows checked n ns is (json.boolean b) all = absurd all
tuple_means reading rows checked n ns is (json.number s) all = absurd all
tuple_means reading rows checked n ns is (json.string s) all = absurd all
tuple_means reading rows checked n ns is (json.object ms) all = absurd all
tuple_means reading rows checked n ns is (json.array js) all = λ patterns takes d reads.
    let r = array_parts (of_items js) d reads in
    subst (λ x. Fits rows patterns n x) r.2 (step rows patterns n (shape.tuple ns) (array r.0) is (λ steps few.
    parts_fit reading rows patterns takes ns js r.0
    (λ m c. checked.rank_bound m (part_low rows checked n m (shape.tuple ns) is c)) all r.1 (items_depth r.0) steps (omega arith) (omega arith)))

pub pair_agrees : (reading : Patterns → Type 0) (rows : List Row) → IsChecked rows → (n a b : ℕ)
    → HasShape rows n (shape.tuple (a ∷ b ∷ [])) → (v w : Log → Log → Type 0)
    → Gives v (MeansUnder reading rows a) → Gives w (MeansUnder reading rows b) → Gives (InSeq 2 (Then v w)) (MeansUnder reading rows n)
pair_agrees reading rows checked n a b is v w first second =
    weaker (InSeq 2 (Then v w)) (IsArray (Of reading rows (a ∷ b ∷ []))) (MeansUnder reading rows n)
    (tuple_means reading rows checked n (a ∷ b ∷ []) is)
    (in_seq_gives 2 (Then v w) (Of reading rows (a ∷ b ∷ []))
    (then_give v w (MeansUnder reading rows a) (First (MeansUnder reading rows b) NoItems) first
    (last_gives w (MeansUnder reading rows b) second)))
