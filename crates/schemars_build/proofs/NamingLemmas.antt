-- The names against the sets that hold them, and candidates: which differ, and that one of them is not used.
use Rattle.std.proofs.Common.{◌≡◌, ◌<◌, ◌≤◌, ◌+◌, ◌^◌, ◌==◌, ◌&&◌, ◌||◌, ◌∙◌, ℕ, zero, suc, List, [], ◌∷◌, ◌++◌, Bool, true, false, cond, Some, None, String, string_bytes, option_map, find, length, take, map, refl, sym, ap, subst, arith, true≢false, length-append}
use Rattle.std.specs.declared.alloc.Global.{Global}
use Rattle.schemars_build.proofs.Words.{decimal, list_any, string_eq, bytes_eq-Decides, Text, NamedRow, Naming, is_of, name_of, is_used, candidate, naming_of, AllByRecursion, bytes_eq, false_from_ne_true, and_parts, same_from_decides, Decides-like, Decides-eqb, nat_list_eq_equiv, decimal_injective, decimal_nonempty, append_cancel_left, IsDistinct-push, IsDistinct-head, IsDistinct-tail, length-le_from_is_member, bytes_eq_comm, is_same_contract, IsOneToOne, named_row, IsDistinct}
use Rattle.schemars_types.specs.declared.contract.Contract.{Contract}
use Rattle.schemars_types.specs.declared.contract.Contract.TheVariants.{Deserialize, Serialize}
use Rattle.schemars_build.specs.declared.names.Owner.{Owner}
use Rattle.schemars_build.specs.contracts.names.OwnerPartialEq.TheImpl as owner_eq

-- ---- tests

eqb_comm : (m n : ℕ) → (m == n) ≡ (n == m)
eqb_comm m n = same_from_decides _ _ (Decides-eqb m n) (Decides-like (n == m) sym sym (Decides-eqb n m))

abbrev pub is_owner : ℕ → Contract → Owner → Bool
is_owner n contract = (owner_eq.ghosts).eq (record { row = n; contract = contract })

-- an owner is equal to another exactly where a name of it is that row's under that contract
pub same_test : (n : ℕ) (contract : Contract) (o : Owner) (s : String Global) → is_owner n contract o ≡ is_of n contract (named_row o s)
same_test n contract o s = by contract o.contract
  where
    by : (c d : Contract) → is_owner n c (record { row = o.row; contract = d })
        ≡ is_of n c (named_row (record { row = o.row; contract = d }) s)
    by Deserialize Deserialize = ap (λ b. b && true) (eqb_comm n o.row)
    by Deserialize Serialize = ap (λ b. b && false) (eqb_comm n o.row)
    by Serialize Deserialize = ap (λ b. b && false) (eqb_comm n o.row)
    by Serialize Serialize = ap (λ b. b && true) (eqb_comm n o.row)

-- ---- look-ups

pub is_used-naming_of : (name : Text) (owners : List Owner) (given : List (String Global)) → length owners ≡ length given
    → list_any (λ k. bytes_eq name (string_bytes k)) given ≡ is_used name (naming_of owners given)
is_used-naming_of name [] [] same = refl
is_used-naming_of name [] (s ∷ given) same = absurd (omega arith)
is_used-naming_of name (o ∷ owners) [] same = absurd (omega arith)
is_used-naming_of name (o ∷ owners) (s ∷ given) same =
    let rest : length owners ≡ length given = omega arith in
    λ i. bytes_eq_comm name (string_bytes s) i || is_used-naming_of name owners given rest i

pub length-naming_of : (owners : List Owner) (given : List (String Global)) → length owners ≡ length given
    → length (naming_of owners given) ≡ length given
length-naming_of [] given same = same
length-naming_of (o ∷ owners) [] same = refl
length-naming_of (o ∷ owners) (s ∷ given) same = let rest : length owners ≡ length given = omega arith in
    ap suc (length-naming_of owners given rest)

pub naming_of-push : (owners : List Owner) (given : List (String Global)) (o : Owner) (s : String Global) → length owners ≡ length given
    → naming_of (owners ++ o ∷ []) (given ++ s ∷ []) ≡ naming_of owners given ++ named_row o s ∷ []
naming_of-push [] [] o s same = refl
naming_of-push [] (t ∷ given) o s same = absurd (omega arith)
naming_of-push (p ∷ owners) [] o s same = absurd (omega arith)
naming_of-push (p ∷ owners) (t ∷ given) o s same =
    let rest : length owners ≡ length given = omega arith in
    ap (λ names. named_row p t ∷ names) (naming_of-push owners given o s rest)

pub naming_of-take : (n : ℕ) (owners : List Owner) (given : List (String Global))
    → naming_of (take n owners) (take n given) ≡ take n (naming_of owners given)
naming_of-take zero owners given = refl
naming_of-take (suc n) [] given = refl
naming_of-take (suc n) (o ∷ owners) [] = refl
naming_of-take (suc n) (o ∷ owners) (s ∷ given) = ap (λ names. named_row o s ∷ names) (naming_of-take n owners given)

-- a row that has no name is no owner
pub no_owner : (n : ℕ) (contract : Contract) (owners : List Owner) (given : List (String Global)) → length owners ≡ length given
    → name_of n contract (naming_of owners given) ≡ None → list_any (is_owner n contract) owners ≡ false
no_owner n contract [] given same none = refl
no_owner n contract (o ∷ owners) [] same none = absurd (omega arith)
no_owner n contract (o ∷ owners) (s ∷ given) same none =
    let rest : length owners ≡ length given = omega arith in
    by (is_of n contract (named_row o s)) refl none (no_owner n contract owners given rest)
  where
    by : (b : Bool) → is_of n contract (named_row o s) ≡ b → option_map (λ x. x.name)
        (cond b (Some (named_row o s)) (find (is_of n contract) (naming_of owners given))) ≡ None
        → (name_of n contract (naming_of owners given) ≡ None → list_any (is_owner n contract) owners ≡ false)
        → list_any (is_owner n contract) (o ∷ owners) ≡ false
    by true e h rest = cc
    by false e h rest = rw (same_test n contract o s ∙ e) (rest h)

-- ---- one to one

pub same_contract-equal : (c d : Contract) → is_same_contract c d ≡ true → c ≡ d
same_contract-equal Deserialize Deserialize e = refl
same_contract-equal Deserialize Serialize e = absurd (true≢false (sym e))
same_contract-equal Serialize Deserialize e = absurd (true≢false (sym e))
same_contract-equal Serialize Serialize e = refl

whose : (n : ℕ) (contract : Contract) (x : NamedRow) → is_of n contract x ≡ true → (x.row ≡ n) × (x.contract ≡ contract)
whose n contract x e =
    let (row, same) = and_parts _ _ e in
    ((Decides-eqb x.row n).0 row, same_contract-equal x.contract contract same)

abbrev texts : Naming → List Text
texts names = map (λ x. x.name) names

among_true : (b : Bool) → b || true ≡ true
among_true true = refl
among_true false = refl

-- the name of a row is among the names
name_among : (n : ℕ) (contract : Contract) (names : Naming) (name : Text) → name_of n contract names ≡ Some name
    → list_any (bytes_eq name) (texts names) ≡ true
name_among n contract [] name e = cc
name_among n contract (x ∷ names) name e = by (is_of n contract x) e (name_among n contract names name)
  where
    by : (b : Bool) → option_map (λ y. y.name) (cond b (Some x) (find (is_of n contract) names)) ≡ Some name
        → (name_of n contract names ≡ Some name → list_any (bytes_eq name) (texts names) ≡ true)
        → list_any (bytes_eq name) (texts (x ∷ names)) ≡ true
    by true h rest =
        let is : name ≡ x.name = cc in
        ap (λ b. b || list_any (bytes_eq name) (texts names)) ((bytes_eq-Decides name x.name).1 is)
    by false h rest = ap (λ b. bytes_eq name x.name || b) (rest h) ∙ among_true (bytes_eq name x.name)

none_among : (q : Text) (ts : List Text) → AllByRecursion (λ t. bytes_eq q t ≡ false) ts → list_any (bytes_eq q) ts ≡ false
none_among q [] none = refl
none_among q (t ∷ ts) none = ap (λ b. b || list_any (bytes_eq q) ts) none.0 ∙ none_among q ts none.1

only_once : (x : NamedRow) (names : Naming) → IsDistinct bytes_eq (texts (x ∷ names)) → (n : ℕ) (contract : Contract)
    → name_of n contract names ≡ Some x.name → ⊥
only_once x names distinct n contract e =
    true≢false (sym (name_among n contract names x.name e) ∙ none_among x.name (texts names)
    (IsDistinct-head bytes_eq x.name (texts names) distinct))

one_row : (names : Naming) → IsDistinct bytes_eq (texts names) → (m n : ℕ) (c d : Contract) (name : Text) → name_of m c names ≡ Some name
    → name_of n d names ≡ Some name → (m ≡ n) × (c ≡ d)
one_row [] distinct m n c d name e f = cc
one_row (x ∷ names) distinct m n c d name e f =
    by (is_of m c x) (is_of n d x) refl refl e f (one_row names (IsDistinct-tail bytes_eq x.name (texts names) distinct) m n c d name)
  where
    by : (a b : Bool) → is_of m c x ≡ a → is_of n d x ≡ b
        → option_map (λ y. y.name) (cond a (Some x) (find (is_of m c) names)) ≡ Some name
        → option_map (λ y. y.name) (cond b (Some x) (find (is_of n d) names)) ≡ Some name
        → (name_of m c names ≡ Some name → name_of n d names ≡ Some name → (m ≡ n) × (c ≡ d))
        → (m ≡ n) × (c ≡ d)
    by true true p q g h rest =
        let (m_is, c_is) = whose m c x p in
        let (n_is, d_is) = whose n d x q in
        (sym m_is ∙ n_is, sym c_is ∙ d_is)
    by true false p q g h rest = absurd (only_once x names distinct n d (h ∙ sym g))
    by false true p q g h rest = absurd (only_once x names distinct m c (g ∙ sym h))
    by false false p q g h rest = rest g h

texts-naming_of : (owners : List Owner) (given : List (String Global)) → length owners ≡ length given
    → texts (naming_of owners given) ≡ map string_bytes given
texts-naming_of [] [] same = refl
texts-naming_of [] (s ∷ given) same = absurd (omega arith)
texts-naming_of (o ∷ owners) [] same = refl
texts-naming_of (o ∷ owners) (s ∷ given) same = let rest : length owners ≡ length given = omega arith in
    ap (λ ts. string_bytes s ∷ ts) (texts-naming_of owners given rest)

apart_from : (s : String Global) (given : List (String Global)) → AllByRecursion (λ t. string_eq s t ≡ false) given
    → AllByRecursion (λ t. bytes_eq (string_bytes s) t ≡ false) (map string_bytes given)
apart_from s [] apart = apart
apart_from s (t ∷ given) apart = (apart.0, apart_from s given apart.1)

distinct_texts : (given : List (String Global)) → IsDistinct string_eq given → IsDistinct bytes_eq (map string_bytes given)
unfolding IsDistinct
distinct_texts [] distinct = distinct
distinct_texts (s ∷ given) distinct = (apart_from s given distinct.0, distinct_texts given distinct.1)

pub one_to_one : (owners : List Owner) (given : List (String Global)) → length owners ≡ length given → IsDistinct string_eq given
    → IsOneToOne (naming_of owners given)
one_to_one owners given same distinct = record {
  one_row = one_row (naming_of owners given) (subst (λ (ts : List Text). IsDistinct bytes_eq ts)
      (sym (texts-naming_of owners given same)) (distinct_texts given distinct));
}

-- ---- candidates

longer : (base : Text) (n : ℕ) → n < 2 ^ 64 → base ≡ base ++ decimal n → ⊥
longer base n small e =
    let more : 0 < length (decimal n) = decimal_nonempty n small in
    let same : length base ≡ length base + length (decimal n) = ap length e ∙ length-append base (decimal n) in
    omega arith

candidate_injective : (base : Text) (i j : ℕ) → i < 2 ^ 63 → j < 2 ^ 63 → candidate base i ≡ candidate base j → i ≡ j
candidate_injective base zero zero h k e = refl
candidate_injective base zero (suc j) h k e = absurd (longer base (j + 2) (omega arith) e)
candidate_injective base (suc i) zero h k e = absurd (longer base (i + 2) (omega arith) (sym e))
candidate_injective base (suc i) (suc j) h k e =
    let same : i + 2 ≡ j + 2 = decimal_injective (i + 2) (j + 2) (omega arith) (omega arith)
    (append_cancel_left base (decimal (i + 2)) (decimal (j + 2)) e) in
    omega arith

-- the first k candidates
candidates : Text → ℕ → List Text
candidates base zero = []
candidates base (suc k) = candidates base k ++ candidate base k ∷ []

length-candidates : (base : Text) (k : ℕ) → length (candidates base k) ≡ k
unfolding candidates
length-candidates base zero = refl
length-candidates base (suc k) = let rest = length-candidates base k in
    omega (arith, length-append (candidates base k) (candidate base k ∷ []))

list_any-push : (test : Text → Bool) (ts : List Text) (t : Text) → list_any test (ts ++ t ∷ []) ≡ true → (list_any test ts ≡ true → ⊥)
    → test t ≡ true
list_any-push test [] t e none = by (test t) e
  where
    by : (b : Bool) → b || false ≡ true → b ≡ true
    by true h = refl
    by false h = h
list_any-push test (u ∷ ts) t e none = by (test u) e none (list_any-push test ts t)
  where
    by : (b : Bool) → b || list_any test (ts ++ t ∷ []) ≡ true → (b || list_any test ts ≡ true → ⊥)
        → (list_any test (ts ++ t ∷ []) ≡ true → (list_any test ts ≡ true → ⊥) → test t ≡ true) → test t ≡ true
    by true h k rest = absurd (k refl)
    by false h k rest = rest h k

-- each of them is one of the first k
which : (base q : Text) (k : ℕ) → list_any (bytes_eq q) (candidates base k) ≡ true → (j : ℕ) × (j < k) × (candidate base j ≡ q)
unfolding candidates
which base q zero e = absurd (true≢false (sym e))
which base q (suc k) e = by (list_any (bytes_eq q) (candidates base k)) refl (which base q k)
  where
    by : (b : Bool) → list_any (bytes_eq q) (candidates base k) ≡ b
        → (list_any (bytes_eq q) (candidates base k) ≡ true → (j : ℕ) × (j < k) × (candidate base j ≡ q))
        → (j : ℕ) × (j < suc k) × (candidate base j ≡ q)
    by true h rest = let (j, below, is) = rest h in (j, omega arith, is)
    by false h rest =
        let last : bytes_eq q (candidate base k) ≡ true = list_any-push (bytes_eq q) (candidates base k) (candidate base k) e
        (λ t. true≢false (sym t ∙ h)) in
        (k, omega arith, sym ((bytes_eq-Decides q (candidate base k)).0 last))

candidates_differ : (base : Text) (k : ℕ) → k ≤ 2 ^ 63 → IsDistinct bytes_eq (candidates base k)
unfolding candidates IsDistinct
candidates_differ base zero small = tt
candidates_differ base (suc k) small =
    IsDistinct-push nat_list_eq_equiv (candidates base k) (candidate base k) (candidates_differ base k (omega arith))
    (false_from_ne_true _ (λ e.
    let (j, below, is) = which base (candidate base k) k e in
    let same : j ≡ k = candidate_injective base j k (omega arith) (omega arith) is in
    absurd (omega arith)))

used_among : (q : Text) (names : Naming) → is_used q names ≡ list_any (bytes_eq q) (texts names)
used_among q [] = refl
used_among q (x ∷ names) = λ i. bytes_eq_comm x.name q i || used_among q names i

length-texts : (names : Naming) → length (texts names) ≡ length names
length-texts [] = refl
length-texts (x ∷ names) = ap suc (length-texts names)

-- there are too few names to use one candidate more than there are names
pub not_all_used : (names : Naming) (base : Text) (tries : ℕ) → length names < tries → tries ≤ 2 ^ 63
    → ((j : ℕ) → j < tries → is_used (candidate base j) names ≡ true) → ⊥
not_all_used names base tries more small used =
    let within : length (candidates base tries) ≤ length (texts names) =
    length-le_from_is_member nat_list_eq_equiv (candidates base tries) (texts names) (candidates_differ base tries small) (λ q e.
    let (j, below, is) = which base q tries e in
    sym (used_among q names) ∙ ap (λ t. is_used t names) (sym is) ∙ used j below) in
    omega (arith, length-candidates base tries, length-texts names)
