-- The laws of what holds other values, each of which asks for readings of its own.
use Rattle.std.proofs.Common.{◌≡◌, ℕ, List, [], ◌∷◌, length, Bool, false, Option, Some, None, Ordering, Less, is_eq}
use Rattle.schemars_written.proofs.Words.{All, IsTotalOrder, IsDistinct, IsStrictlySortedBy, Log, WritesSeq, WritesOption, WritesMap, InSeq, Then, Data, json_eq, Patterns, Row, IsChecked, Readings, every, those, IsAmong, inside, of_each, of_some, both, of_entries, Gives, GivesAsKey, MeansUnder, MeansJustUnder, IsKeyUnder, HasShape, IsArrayRow}
use Rattle.schemars_shapes.specs.Shape as shape
use Rattle.schemars_written.specs.Readings.{OfSome}
use Rattle.schemars_written.proofs.Atoms.{weaker, under}
use Rattle.schemars_written.proofs.Keys.{key_under}
use Rattle.schemars_written.proofs.Laws.{Part, option_law, vec_law, any_array_law, keyed_map_law, single_law, pair_law, triple_law, quadruple_law}
use Rattle.schemars_written.proofs.Sets.{set_law, unordered_set_law}

-- under the readings that a value asks for, it belongs to a part's rows
abbrev pub OwnPart : {A : Type 0} → Readings A → List Row → (A → Log → Log → Type 0) → (A → Type 0) → (List Row → ℕ → Type 0)
    → Type 0
OwnPart {A} readings rows w V R = (m : ℕ) (x : A) → R rows m → V x → Gives (w x) (MeansUnder (IsAmong readings x) rows m)

-- and these are among them
abbrev AndAsks : {A : Type 0} → Readings A → (Patterns → Type 0) → (A → Type 0) → A → Type 0
AndAsks readings P V x = V x × ((patterns : Patterns) → P patterns → IsAmong readings x patterns)

own : {A : Type 0} (readings : Readings A) (P : Patterns → Type 0) (rows : List Row) (w : A → Log → Log → Type 0) (V : A → Type 0)
    (R : List Row → ℕ → Type 0) → OwnPart readings rows w V R → Part P rows w (AndAsks readings P V) R
own readings P rows w V R given m x is valid = under (w x) rows m valid.1 (given m x is valid.0)

-- ---- what holders ask for

inside_asks : {A B : Type 0} (r : Readings A) (f : B → A) (b : B) (patterns : Patterns) → IsAmong (inside r f) b patterns
    → IsAmong r (f b) patterns
inside_asks every f b patterns among = tt
inside_asks (those R) f b patterns among = among

both_ask : {A : Type 0} (r s : Readings A) (x : A) (patterns : Patterns) → IsAmong (both r s) x patterns
    → IsAmong r x patterns × IsAmong s x patterns
both_ask every s x patterns among = (tt, among)
both_ask (those R) every x patterns among = (among, tt)
both_ask (those R) (those S) x patterns among = among

each_asks : {A B : Type 0} (r : Readings A) (f : B → List A) (b : B) (patterns : Patterns) → IsAmong (of_each r f) b patterns
    → All (λ x. IsAmong r x patterns) (f b)
each_asks every f b patterns among = λ k d low. tt
each_asks (those R) f b patterns among = among

nothing_asked : {A : Type 0} (o : Option A) → OfSome (λ x. Unit {0}) o
nothing_asked None = tt
nothing_asked (Some x) = tt

some_asks : {A B : Type 0} (r : Readings A) (f : B → Option A) (b : B) (patterns : Patterns) → IsAmong (of_some r f) b patterns
    → OfSome (λ x. IsAmong r x patterns) (f b)
some_asks every f b patterns among = nothing_asked (f b)
some_asks (those R) f b patterns among = among

all_ask : {A B : Type 0} (r : Readings A) (b : B) (f : B → List A) (V : A → Type 0) → All V (f b)
    → All (AndAsks r (IsAmong (of_each r f) b) V) (f b)
all_ask r b f V valid = λ k d low. (valid k d low, λ patterns among. each_asks r f b patterns among k d low)

some_ask : {A : Type 0} (r : Readings A) (P : Patterns → Type 0) (V : A → Type 0) (o : Option A)
    → ((patterns : Patterns) → P patterns → OfSome (λ x. IsAmong r x patterns) o) → OfSome V o → OfSome (AndAsks r P V) o
some_ask r P V None asks valid = tt
some_ask r P V (Some x) asks valid = (valid, asks)

-- ---- holders

pub own_option_law : {A B : Type 0} (r : Readings A) (b : B) (f : B → Option A) (rows : List Row) → IsChecked rows
    → (n : ℕ) (w : A → Log → Log → Type 0) (V : A → Type 0) (R : List Row → ℕ → Type 0) → OwnPart r rows w V R
    → (m : ℕ) × HasShape rows n (shape.option m) × R rows m → OfSome V (f b)
    → Gives (WritesOption w (f b)) (MeansUnder (IsAmong (of_some r f) b) rows n)
own_option_law r b f rows checked n w V R given row valid =
    let P : Patterns → Type 0 = IsAmong (of_some r f) b in
    option_law {reading = P} rows checked n w (AndAsks r P V) R (own r P rows w V R given) row (f b)
    (some_ask r P V (f b) (some_asks r f b) valid)

pub own_vec_law : {A B : Type 0} (r : Readings A) (b : B) (f : B → List A) (rows : List Row) → IsChecked rows
    → (n : ℕ) (w : A → Log → Log → Type 0) (V : A → Type 0) (R : List Row → ℕ → Type 0) → OwnPart r rows w V R
    → (m : ℕ) × HasShape rows n (shape.seq m) × R rows m → All V (f b)
    → Gives (WritesSeq w (f b)) (MeansUnder (IsAmong (of_each r f) b) rows n)
own_vec_law r b f rows checked n w V R given row valid =
    let P : Patterns → Type 0 = IsAmong (of_each r f) b in
    vec_law {reading = P} rows checked n w (AndAsks r P V) R (own r P rows w V R given) row (f b) (all_ask r b f V valid)

pub own_array_law : {A B : Type 0} (r : Readings A) (b : B) (f : B → List A) (rows : List Row) → IsChecked rows
    → (n len : ℕ) (w : A → Log → Log → Type 0) (V : A → Type 0) (R : List Row → ℕ → Type 0) → OwnPart r rows w V R
    → IsArrayRow R len rows n → (length (f b) ≡ len) × All V (f b)
    → Gives (WritesSeq w (f b)) (MeansUnder (IsAmong (of_each r f) b) rows n)
own_array_law r b f rows checked n len w V R given row valid =
    let P : Patterns → Type 0 = IsAmong (of_each r f) b in
    any_array_law {reading = P} rows checked n len w (AndAsks r P V) R (own r P rows w V R given) row (f b)
    (valid.0, all_ask r b f V valid.1)

-- ---- sets

abbrev pub OwnShown : {A : Type 0} → Readings A → List Row → (A → Log → Log → Type 0) → (A → Type 0)
    → (List Row → ℕ → Type 0) → (A → Data) → Type 0
OwnShown {A} r rows w V R shown = (m : ℕ) (x : A) → R rows m → V x → Gives (w x) (MeansJustUnder (IsAmong r x) rows m (shown x))

just_under : (Q P : Patterns → Type 0) (w : Log → Log → Type 0) (rows : List Row) (n : ℕ) (d : Data)
    → ((patterns : Patterns) → P patterns → Q patterns)
    → Gives w (MeansJustUnder Q rows n d) → Gives w (MeansJustUnder P rows n d)
just_under Q P w rows n d fewer given = weaker w (MeansJustUnder Q rows n d) (MeansJustUnder P rows n d)
    (λ j means. (λ patterns takes. means.0 patterns (fewer patterns takes), means.1)) given

pub own_set_law : {A B : Type 0} (r : Readings A) (b : B) (f : B → List A) (rows : List Row) → IsChecked rows
    → (n : ℕ) (w : A → Log → Log → Type 0) (V : A → Type 0) (R : List Row → ℕ → Type 0) (cmp : A → A → Ordering) (shown : A → Data)
    → OwnShown r rows w V R shown
    → ((x y : A) → V x → V y → cmp x y ≡ Less → json_eq (shown y) (shown x) ≡ false)
    → (m : ℕ) × HasShape rows n (shape.set m) × R rows m → IsStrictlySortedBy cmp (f b) × All V (f b)
    → Gives (WritesSeq w (f b)) (MeansUnder (IsAmong (of_each r f) b) rows n)
own_set_law r b f rows checked n w V R cmp shown given apart row valid =
    let P : Patterns → Type 0 = IsAmong (of_each r f) b in
    set_law {reading = P} rows checked n w (AndAsks r P V) R cmp shown
    (λ m x is v. just_under (IsAmong r x) P (w x) rows m (shown x) v.1 (given m x is v.0))
    (λ x y v u less. apart x y v.0 u.0 less) row (f b) (valid.0, all_ask r b f V valid.1)

pub own_unordered_set_law : {A B : Type 0} (r : Readings A) (b : B) (f : B → List A) (rows : List Row) → IsChecked rows
    → (n : ℕ) (w : A → Log → Log → Type 0) (V : A → Type 0) (R : List Row → ℕ → Type 0) (eq : A → A → Bool) (cmp : A → A → Ordering)
    → IsTotalOrder cmp → ((x y : A) → eq x y ≡ is_eq (cmp x y)) → (shown : A → Data) → OwnShown r rows w V R shown
    → ((x y : A) → V x → V y → cmp x y ≡ Less → json_eq (shown y) (shown x) ≡ false)
    → (m : ℕ) × HasShape rows n (shape.set m) × R rows m → IsDistinct eq (f b) × All V (f b)
    → Gives (WritesSeq w (f b)) (MeansUnder (IsAmong (of_each r f) b) rows n)
own_unordered_set_law r b f rows checked n w V R eq cmp total ties shown given apart row valid =
    let P : Patterns → Type 0 = IsAmong (of_each r f) b in
    unordered_set_law {reading = P} rows checked n w (AndAsks r P V) R eq cmp total ties shown
    (λ m x is v. just_under (IsAmong r x) P (w x) rows m (shown x) v.1 (given m x is v.0))
    (λ x y v u less. apart x y v.0 u.0 less) row (f b) (valid.0, all_ask r b f V valid.1)

-- ---- maps

abbrev pub OwnKeyPart : {K : Type 0} → Readings K → List Row → (K → Log → Log → Type 0) → (K → Type 0)
    → (List Row → ℕ → Type 0) → Type 0
OwnKeyPart {K} r rows key U S = (m : ℕ) (x : K) → S rows m → U x → GivesAsKey (key x) (IsKeyUnder (IsAmong r x) rows m)

entry_asks : {K A B : Type 0} (r : Readings K) (s : Readings A) (b : B) (f : B → List (K × A)) (patterns : Patterns)
    → IsAmong (of_entries r s f) b patterns → All (λ e. IsAmong r e.0 patterns × IsAmong s e.1 patterns) (f b)
entry_asks r s b f patterns among = λ k d low. one _ (each_asks (both (inside r (λ e. e.0)) (inside s (λ e. e.1))) f b patterns among k d low)
  where
    one : (e : _ × _) → IsAmong (both (inside r (λ e. e.0)) (inside s (λ e. e.1))) e patterns → IsAmong r e.0 patterns × IsAmong s e.1 patterns
    one e asks =
        let t = both_ask (inside r (λ e. e.0)) (inside s (λ e. e.1)) e patterns asks in
        (inside_asks r (λ e. e.0) e patterns t.0, inside_asks s (λ e. e.1) e patterns t.1)

pub own_map_law : {K A B : Type 0} (r : Readings K) (s : Readings A) (b : B) (f : B → List (K × A)) (rows : List Row) → IsChecked rows
    → (n : ℕ) (key : K → Log → Log → Type 0) (w : A → Log → Log → Type 0) (U : K → Type 0) (V : A → Type 0) (S R : List Row → ℕ → Type 0)
    → OwnKeyPart r rows key U S → OwnPart s rows w V R → (from m : ℕ) × HasShape rows n (shape.map_from from m) × S rows from × R rows m
    → All (λ e. U e.0 × V e.1) (f b)
    → Gives (WritesMap key w (f b)) (MeansUnder (IsAmong (of_entries r s f) b) rows n)
own_map_law r s b f rows checked n key w U V S R named given row valid =
    let P : Patterns → Type 0 = IsAmong (of_entries r s f) b in
    keyed_map_law {reading = P} rows checked n key w (AndAsks r P U) (AndAsks s P V) S R
    (λ m x is v. key_under (key x) rows m v.1 (named m x is v.0)) (own s P rows w V R given) row (f b)
    (λ k d low. (
      ((valid k d low).0, λ patterns among. (entry_asks r s b f patterns among k d low).0),
      ((valid k d low).1, λ patterns among. (entry_asks r s b f patterns among k d low).1),
    ))

-- ---- tuples

pub own_single_law : {A B : Type 0} (a : Readings A) (p : B) (f : B → A) (rows : List Row) → IsChecked rows
    → (n : ℕ) (t : A → Log → Log → Type 0) (F : A → Type 0) (P : List Row → ℕ → Type 0) → OwnPart a rows t F P
    → (i : ℕ) × HasShape rows n (shape.tuple (i ∷ [])) × P rows i → F (f p)
    → Gives (InSeq 1 (t (f p))) (MeansUnder (IsAmong (inside a f) p) rows n)
own_single_law a p f rows checked n t F P of_a row valid =
    let asked : Patterns → Type 0 = IsAmong (inside a f) p in
    single_law {reading = asked} rows checked n t (AndAsks a asked F) P (own a asked rows t F P of_a) row (f p)
    (valid, inside_asks a f p)

pub own_pair_law : {A B : Type 0} (a : Readings A) (b : Readings B) (p : A × B) (rows : List Row) → IsChecked rows
    → (n : ℕ) (t : A → Log → Log → Type 0) (u : B → Log → Log → Type 0)
    (F : A → Type 0) (G : B → Type 0) (P Q : List Row → ℕ → Type 0)
    → OwnPart a rows t F P → OwnPart b rows u G Q
    → (i j : ℕ) × HasShape rows n (shape.tuple (i ∷ j ∷ [])) × P rows i × Q rows j
    → F p.0 × G p.1
    → Gives (InSeq 2 (Then (t p.0) (u p.1)))
    (MeansUnder (IsAmong (both (inside a (λ q. q.0)) (inside b (λ q. q.1))) p) rows n)
own_pair_law a b p rows checked n t u F G P Q of_a of_b row valid =
    let asked : Patterns → Type 0 = IsAmong (both (inside a (λ q. q.0)) (inside b (λ q. q.1))) p in
    pair_law {reading = asked} rows checked n t u (AndAsks a asked F) (AndAsks b asked G) P Q
    (own a asked rows t F P of_a) (own b asked rows u G Q of_b)
    row p.0 p.1
    ((valid.0, λ q among. (asks q among).0), (valid.1, λ q among. (asks q among).1))
  where
    asks : (patterns : Patterns) → IsAmong (both (inside a (λ q. q.0)) (inside b (λ q. q.1))) p patterns
        → IsAmong a p.0 patterns × IsAmong b p.1 patterns
    asks patterns among =
        let s0 = both_ask (inside a (λ q. q.0)) (inside b (λ q. q.1)) p patterns among in
        (inside_asks a (λ q. q.0) p patterns s0.0, inside_asks b (λ q. q.1) p patterns s0.1)

pub own_triple_law : {A B C : Type 0} (a : Readings A) (b : Readings B) (c : Readings C) (p : A × B × C) (rows : List Row) → IsChecked rows
    → (n : ℕ) (t : A → Log → Log → Type 0) (u : B → Log → Log → Type 0) (v : C → Log → Log → Type 0)
    (F : A → Type 0) (G : B → Type 0) (H : C → Type 0) (P Q R : List Row → ℕ → Type 0)
    → OwnPart a rows t F P → OwnPart b rows u G Q → OwnPart c rows v H R
    → (i j l : ℕ) × HasShape rows n (shape.tuple (i ∷ j ∷ l ∷ [])) × P rows i × Q rows j × R rows l
    → F p.0 × G p.1 × H p.2
    → Gives (InSeq 3 (Then (t p.0) (Then (u p.1) (v p.2))))
    (MeansUnder (IsAmong (both (inside a (λ q. q.0)) (both (inside b (λ q. q.1)) (inside c (λ q. q.2)))) p) rows n)
own_triple_law a b c p rows checked n t u v F G H P Q R of_a of_b of_c row valid =
    let asked : Patterns → Type 0 = IsAmong (both (inside a (λ q. q.0)) (both (inside b (λ q. q.1)) (inside c (λ q. q.2)))) p in
    triple_law {reading = asked} rows checked n t u v (AndAsks a asked F) (AndAsks b asked G) (AndAsks c asked H) P Q R
    (own a asked rows t F P of_a) (own b asked rows u G Q of_b) (own c asked rows v H R of_c)
    row p.0 p.1 p.2
    ((valid.0, λ q among. (asks q among).0), (valid.1, λ q among. (asks q among).1), (valid.2, λ q among. (asks q among).2))
  where
    asks : (patterns : Patterns) → IsAmong (both (inside a (λ q. q.0)) (both (inside b (λ q. q.1)) (inside c (λ q. q.2)))) p patterns
        → IsAmong a p.0 patterns × IsAmong b p.1 patterns × IsAmong c p.2 patterns
    asks patterns among =
        let s0 = both_ask (inside a (λ q. q.0)) (both (inside b (λ q. q.1)) (inside c (λ q. q.2))) p patterns among in
        let s1 = both_ask (inside b (λ q. q.1)) (inside c (λ q. q.2)) p patterns s0.1 in
        (inside_asks a (λ q. q.0) p patterns s0.0, inside_asks b (λ q. q.1) p patterns s1.0, inside_asks c (λ q. q.2) p patterns s1.1)

pub own_quadruple_law : {A B C D : Type 0} (a : Readings A) (b : Readings B) (c : Readings C) (d : Readings D) (p : A × B × C × D) (rows : List Row) → IsChecked rows
    → (n : ℕ) (t : A → Log → Log → Type 0) (u : B → Log → Log → Type 0) (v : C → Log → Log → Type 0) (w : D → Log → Log → Type 0)
    (F : A → Type 0) (G : B → Type 0) (H : C → Type 0) (I : D → Type 0) (P Q R S : List Row → ℕ → Type 0)
    → OwnPart a rows t F P → OwnPart b rows u G Q → OwnPart c rows v H R → OwnPart d rows w I S
    → (i j l m : ℕ) × HasShape rows n (shape.tuple (i ∷ j ∷ l ∷ m ∷ [])) × P rows i × Q rows j × R rows l × S rows m
    → F p.0 × G p.1 × H p.2 × I p.3
    → Gives (InSeq 4 (Then (t p.0) (Then (u p.1) (Then (v p.2) (w p.3)))))
    (MeansUnder (IsAmong (both (inside a (λ q. q.0)) (both (inside b (λ q. q.1)) (both (inside c (λ q. q.2)) (inside d (λ q. q.3))))) p) rows n)
own_quadruple_law a b c d p rows checked n t u v w F G H I P Q R S of_a of_b of_c of_d row valid =
    let asked : Patterns → Type 0 = IsAmong (both (inside a (λ q. q.0)) (both (inside b (λ q. q.1)) (both (inside c (λ q. q.2)) (inside d (λ q. q.3))))) p in
    quadruple_law {reading = asked} rows checked n t u v w (AndAsks a asked F) (AndAsks b asked G) (AndAsks c asked H) (AndAsks d asked I) P Q R S
    (own a asked rows t F P of_a) (own b asked rows u G Q of_b) (own c asked rows v H R of_c) (own d asked rows w I S of_d)
    row p.0 p.1 p.2 p.3
    ((valid.0, λ q among. (asks q among).0), (valid.1, λ q among. (asks q among).1), (valid.2, λ q among. (asks q among).2), (valid.3, λ q among. (asks q among).3))
  where
    asks : (patterns : Patterns) → IsAmong (both (inside a (λ q. q.0)) (both (inside b (λ q. q.1)) (both (inside c (λ q. q.2)) (inside d (λ q. q.3))))) p patterns
        → IsAmong a p.0 patterns × IsAmong b p.1 patterns × IsAmong c p.2 patterns × IsAmong d p.3 patterns
    asks patterns among =
        let s0 = both_ask (inside a (λ q. q.0)) (both (inside b (λ q. q.1)) (both (inside c (λ q. q.2)) (inside d (λ q. q.3)))) p patterns among in
        let s1 = both_ask (inside b (λ q. q.1)) (both (inside c (λ q. q.2)) (inside d (λ q. q.3))) p patterns s0.1 in
        let s2 = both_ask (inside c (λ q. q.2)) (inside d (λ q. q.3)) p patterns s1.1 in
        (inside_asks a (λ q. q.0) p patterns s0.0, inside_asks b (λ q. q.1) p patterns s1.0, inside_asks c (λ q. q.2) p patterns s2.0, inside_asks d (λ q. q.3) p patterns s2.1)

-- of what holds one value as that value is
pub own_inside : {A B : Type 0} (r : Readings A) (b : B) (f : B → A) (w : Log → Log → Type 0) (rows : List Row) (n : ℕ)
    → Gives w (MeansUnder (IsAmong r (f b)) rows n) → Gives w (MeansUnder (IsAmong (inside r f) b) rows n)
own_inside r b f w rows n given = under w rows n (inside_asks r f b) given
