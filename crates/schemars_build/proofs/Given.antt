-- Names that are given stay, and are found.
use Rattle.std.proofs.Common.{◌≡◌, ℕ, List, [], ◌∷◌, ◌++◌, Bool, true, false, Some, None, refl, sym, ap, ◌∙◌, arith, subst, find, option_map, append-nil, append_assoc}
use Rattle.schemars_build.proofs.Words.{◌&&◌, nat_tests, Text, Row, NamedRow, Naming, is_of, name_of, GivesNames, ◌==◌, cond, is_same_contract, AreGiven}
use Rattle.schemars_types.specs.declared.contract.Contract.{Contract}
use Rattle.schemars_types.specs.declared.contract.Contract.TheVariants.{Deserialize, Serialize}
use Rattle.schemars_build.proofs.NamingLemmas.{same_contract-equal}

pub name_of-joined : (n : ℕ) (c : Contract) (old more : Naming) (name : Text) → name_of n c old ≡ Some name
    → name_of n c (old ++ more) ≡ Some name
name_of-joined n c [] more name h = cc
name_of-joined n c (x ∷ old) more name h = go (is_of n c x) h (name_of-joined n c old more name)
  where
    go : (b : Bool) → option_map (λ y. y.name) (cond b (Some x) (find (is_of n c) old)) ≡ Some name
        → (name_of n c old ≡ Some name → name_of n c (old ++ more) ≡ Some name)
        → option_map (λ y. y.name) (cond b (Some x) (find (is_of n c) (old ++ more))) ≡ Some name
    go true h rest = h
    go false h rest = rest h

same_contract : (c : Contract) → is_same_contract c c ≡ true
same_contract Deserialize = refl
same_contract Serialize = refl

is_of-own : (n : ℕ) (c : Contract) (name : Text) → is_of n c (record { row = n; contract = c; name = name }) ≡ true
is_of-own n c name = let same : (n == n) ≡ true = grind (arith, nat_tests) in rw (same, same_contract c) refl

pub name_of-given : (n : ℕ) (c : Contract) (old : Naming) (name : Text) → name_of n c old ≡ None
    → name_of n c (old ++ (record { row = n; contract = c; name = name }) ∷ []) ≡ Some name
name_of-given n c [] name h = rw (is_of-own n c name) refl
name_of-given n c (x ∷ old) name h = go (is_of n c x) h (name_of-given n c old name)
  where
    go : (b : Bool) → option_map (λ y. y.name) (cond b (Some x) (find (is_of n c) old)) ≡ None
        → (name_of n c old ≡ None → name_of n c (old ++ (record { row = n; contract = c; name = name }) ∷ []) ≡ Some name)
        → option_map (λ y. y.name) (cond b (Some x) (find (is_of n c) (old ++ (record { row = n; contract = c; name = name }) ∷ [])))
        ≡ Some name
    go true h rest = cc
    go false h rest = rest h

-- no other row gets a name
pub name_of-given_alone : (m : ℕ) (c : Contract) (old : Naming) (x : NamedRow) (name : Text) → name_of m c old ≡ None
    → name_of m c (old ++ x ∷ []) ≡ Some name → (m ≡ x.row) × (c ≡ x.contract)
name_of-given_alone m c [] x name none some = go (x.row == m) (is_same_contract x.contract c) refl refl some
  where
    go : (a b : Bool) → (x.row == m) ≡ a → is_same_contract x.contract c ≡ b
        → option_map (λ y. y.name) (cond (a && b) (Some x) None) ≡ Some name → (m ≡ x.row) × (c ≡ x.contract)
    go true true i j h = (grind (arith, nat_tests), sym (same_contract-equal x.contract c j))
    go true false i j h = cc
    go false b i j h = cc
name_of-given_alone m c (y ∷ old) x name none some = go (is_of m c y) none some (name_of-given_alone m c old x name)
  where
    go : (b : Bool) → option_map (λ z. z.name) (cond b (Some y) (find (is_of m c) old)) ≡ None
        → option_map (λ z. z.name) (cond b (Some y) (find (is_of m c) (old ++ x ∷ []))) ≡ Some name
        → (name_of m c old ≡ None → name_of m c (old ++ x ∷ []) ≡ Some name → (m ≡ x.row) × (c ≡ x.contract))
        → (m ≡ x.row) × (c ≡ x.contract)
    go true none some rest = cc
    go false none some rest = rest none some

-- ---- one after another

given-append : (rows : List Row) (old first second : Naming) → AreGiven rows old first → AreGiven rows (old ++ first) second
    → AreGiven rows old (first ++ second)
given-append rows old [] second h g = let P : Naming → Type 0 = λ names. AreGiven rows names second in subst P (append-nil old) g
given-append rows old (x ∷ first) second h g =
    let P : Naming → Type 0 = λ names. AreGiven rows names second in
    (h.0, given-append rows (old ++ x ∷ []) first second h.1 (subst P (sym (append_assoc old (x ∷ []) first)) g))

pub gives-none : (rows : List Row) (names : Naming) → GivesNames rows names names
gives-none rows names = record { more = []; joined = sym (append-nil names); given = tt }

pub gives-trans : (rows : List Row) (a b c : Naming) → GivesNames rows a b → GivesNames rows b c → GivesNames rows a c
gives-trans rows a b c h g =
    let P : Naming → Type 0 = λ names. AreGiven rows names g.more in
    record {
      more = h.more ++ g.more;
      joined = g.joined ∙ (ap (λ x. x ++ g.more) h.joined ∙ append_assoc a h.more g.more);
      given = given-append rows a h.more g.more h.given (subst P h.joined g.given);
    }

pub gives-keeps : (rows : List Row) (old new : Naming) (n : ℕ) (c : Contract) (name : Text) → GivesNames rows old new
    → name_of n c old ≡ Some name → name_of n c new ≡ Some name
gives-keeps rows old new n c name h e = let P : Naming → Type 0 = λ names. name_of n c names ≡ Some name in
    subst P (sym h.joined) (name_of-joined n c old h.more name e)
