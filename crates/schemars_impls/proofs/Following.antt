-- Tables that follow a dictionary, as rows join and are defined.
use Rattle.std.proofs.Common.{◌≡◌, ◌⊎◌, inl, inr, ◌<◌, ◌+◌, ℕ, zero, suc, List, [], ◌∷◌, ◌++◌, Bool, true, false, Option, IsSome, Some, None, cond, length, is_some, option_map, option_and_then, refl, ap, sym, ◌∙◌, subst, arith}
use Rattle.schemars_impls.proofs.Words.{position_from, bytes_eq, bytes_eq-Decides, Text, Entry, Row, place_of, entry_at, id_at, name_at, reserved, defined, place_of-below, reserved-absent, place_of-defined, Making, Always, OfOne, OfTwo, OfAll, Unsaid, IsMade, places_of, Told, Stage, Defined, Pending, Open, Dictionary, staged, IsNamed, IsEntryOf, IsAtStage, IsAsTold, Follows, IsFree, IsLeft, Keeps}
use Rattle.schemars_impls.proofs.Keeping.{keeps-refl, place_of-kept, reserved_keeps, all-joined}
use Rattle.schemars_impls.proofs.Placing.{places_of-kept}

-- ---- how entries are made lasts

map-kept : {A B : Type 0} (f : A → B) (o p : Option A) (b : B) → ((a : A) → o ≡ Some a → p ≡ Some a) → option_map f o ≡ Some b
    → option_map f p ≡ Some b
map-kept f None p b h is = cc
map-kept f (Some a) p b h is = rw (h a refl) is

then-kept : {A B : Type 0} (f g : A → Option B) (o p : Option A) (b : B) → ((a : A) → o ≡ Some a → p ≡ Some a)
    → ((a : A) → f a ≡ Some b → g a ≡ Some b) → option_and_then f o ≡ Some b → option_and_then g p ≡ Some b
then-kept f g None p b h k is = cc
then-kept f g (Some a) p b h k is = rw (h a refl) (k a is)

pub made-kept : (m : Making) (old new : List Row) (e : Entry) → Keeps old new → IsMade m old e → IsMade m new e
made-kept (Always given) old new e h is = is
made-kept (OfOne id make) old new e h is =
    map-kept make (place_of id old) (place_of id new) e (λ n there. place_of-kept id n h there) is
made-kept (OfTwo first second make) old new e h is =
    then-kept (λ n. option_map (λ m. make n m) (place_of second old)) (λ n. option_map (λ m. make n m) (place_of second new))
    (place_of first old) (place_of first new) e (λ n there. place_of-kept first n h there)
    (λ n made. map-kept (λ m. make n m) (place_of second old) (place_of second new) e (λ k there. place_of-kept second k h there) made) is
made-kept (OfAll ids make) old new e h is =
    map-kept make (places_of ids old) (places_of ids new) e (λ ns there. places_of-kept ids ns old new h there) is
made-kept Unsaid old new e h is = tt

entry-kept : (o : Option Told) (old new : List Row) (e : Option Entry) → Keeps old new → IsEntryOf o old e → IsEntryOf o new e
entry-kept o old new None h is = tt
entry-kept None old new (Some e) h is = tt
entry-kept (Some t) old new (Some e) h is = record { given = is.given; made = made-kept t.making old new is.given h is.made; is = is.is }

-- ---- a row that is defined, and the others

name_at-defined : (n : ℕ) (e : Entry) (rows : List Row) (m : ℕ) → name_at (defined n e rows) m ≡ name_at rows m
name_at-defined n e [] m = refl
name_at-defined zero e (r ∷ rs) zero = refl
name_at-defined zero e (r ∷ rs) (suc m) = refl
name_at-defined (suc n) e (r ∷ rs) zero = refl
name_at-defined (suc n) e (r ∷ rs) (suc m) = name_at-defined n e rs m

entry_at-other : (n : ℕ) (e : Entry) (rows : List Row) (m : ℕ) → (n ≡ m → ⊥) → entry_at (defined n e rows) m ≡ entry_at rows m
entry_at-other n e [] m other = refl
entry_at-other zero e (r ∷ rs) zero other = absurd (other refl)
entry_at-other zero e (r ∷ rs) (suc m) other = refl
entry_at-other (suc n) e (r ∷ rs) zero other = refl
entry_at-other (suc n) e (r ∷ rs) (suc m) other = entry_at-other n e rs m (λ same. other (ap suc same))

-- ---- a row that joins

entry_at-before : (rows : List Row) (r : Row) (m : ℕ) → m < length rows → entry_at (rows ++ r ∷ []) m ≡ entry_at rows m
entry_at-before [] r m below = let never : ⊥ = omega (arith, below) in absurd never
entry_at-before (q ∷ rows) r zero below = refl
entry_at-before (q ∷ rows) r (suc m) below = entry_at-before rows r m (omega (arith, below))

name_at-before : (rows : List Row) (r : Row) (m : ℕ) → m < length rows → name_at (rows ++ r ∷ []) m ≡ name_at rows m
name_at-before [] r m below = let never : ⊥ = omega (arith, below) in absurd never
name_at-before (q ∷ rows) r zero below = refl
name_at-before (q ∷ rows) r (suc m) below = name_at-before rows r m (omega (arith, below))

entry_at-last : (rows : List Row) (r : Row) → entry_at (rows ++ r ∷ []) (length rows) ≡ r.entry
entry_at-last [] r = refl
entry_at-last (q ∷ rows) r = entry_at-last rows r

pub name_at-last : (rows : List Row) (r : Row) → name_at (rows ++ r ∷ []) (length rows) ≡ r.name
name_at-last [] r = refl
name_at-last (q ∷ rows) r = name_at-last rows r

-- where an id is once a row has joined: where it was, or at the end
joined-from : (id : Text) (i m : ℕ) (r : Row) (rows : List Row) → position_from (λ (q : Row). bytes_eq q.id id) i (rows ++ r ∷ []) ≡ Some m
    → (position_from (λ (q : Row). bytes_eq q.id id) i rows ≡ Some m) ⊎ ((bytes_eq r.id id ≡ true) × (m ≡ i + length rows))
joined-from id i m r [] h = by (bytes_eq r.id id) refl h
  where
    by : (b : Bool) → bytes_eq r.id id ≡ b → cond b (Some i) None ≡ Some m
        → (position_from (λ (q : Row). bytes_eq q.id id) i [] ≡ Some m) ⊎ ((bytes_eq r.id id ≡ true) × (m ≡ i + 0))
    by true at e = let same : i ≡ m = cc in inr (at, omega (arith, same))
    by false at e = cc
joined-from id i m r (q ∷ rows) h = by (bytes_eq q.id id) h (joined-from id (i + 1) m r rows)
  where
    by : (b : Bool) → cond b (Some i) (position_from (λ (q : Row). bytes_eq q.id id) (i + 1) (rows ++ r ∷ [])) ≡ Some m
        → (position_from (λ (q : Row). bytes_eq q.id id) (i + 1) (rows ++ r ∷ []) ≡ Some m
        → (position_from (λ (q : Row). bytes_eq q.id id) (i + 1) rows ≡ Some m) ⊎ ((bytes_eq r.id id ≡ true) × (m ≡ i + 1 + length rows)))
        → (cond b (Some i) (position_from (λ (q : Row). bytes_eq q.id id) (i + 1) rows) ≡ Some m)
        ⊎ ((bytes_eq r.id id ≡ true) × (m ≡ i + length (q ∷ rows)))
    by true e rest = inl e
    by false e rest = later (rest e)
      where
        later : (position_from (λ (q : Row). bytes_eq q.id id) (i + 1) rows ≡ Some m) ⊎ ((bytes_eq r.id id ≡ true) × (m ≡ i + 1 + length rows))
            → (position_from (λ (q : Row). bytes_eq q.id id) (i + 1) rows ≡ Some m)
            ⊎ ((bytes_eq r.id id ≡ true) × (m ≡ i + length (q ∷ rows)))
        later (inl there) = inl there
        later (inr last) = inr (last.0, omega (arith, last.1))

-- the row where an id is has this id
id-from : (id : Text) (i n : ℕ) (rows : List Row) → position_from (λ (q : Row). bytes_eq q.id id) i rows ≡ Some n
    → (k : ℕ) × (n ≡ i + k) × (id_at rows k ≡ id)
id-from id i n [] h = cc
id-from id i n (q ∷ rows) h = by (bytes_eq q.id id) refl h (id-from id (i + 1) n rows)
  where
    by : (b : Bool) → bytes_eq q.id id ≡ b → cond b (Some i) (position_from (λ (q : Row). bytes_eq q.id id) (i + 1) rows) ≡ Some n
        → (position_from (λ (q : Row). bytes_eq q.id id) (i + 1) rows ≡ Some n → (k : ℕ) × (n ≡ i + 1 + k) × (id_at rows k ≡ id))
        → (k : ℕ) × (n ≡ i + k) × (id_at (q ∷ rows) k ≡ id)
    by true at e rest = let same : i ≡ n = cc in (0, omega (arith, same), (bytes_eq-Decides q.id id).0 at)
    by false at e rest = let r = rest e in (suc r.0, omega (arith, r.1), r.2)

pub id-there : (id : Text) (n : ℕ) (rows : List Row) → place_of id rows ≡ Some n → id_at rows n ≡ id
id-there id n rows h =
    let found = id-from id 0 n rows h in
    let same : n ≡ found.0 = omega (arith, found.1) in
    ap (id_at rows) same ∙ found.2

-- ---- what follows a dictionary

as-told : (d e : Dictionary) (old new : List Row) (id : Text) (n : ℕ) → Keeps old new
    → IsAtStage (e.stage id) (is_some (entry_at new n)) → e.told id ≡ d.told id → entry_at new n ≡ entry_at old n
    → name_at new n ≡ name_at old n → IsAsTold d old id n → IsAsTold e new id n
as-told d e old new id n kept stage told entry name h = record {
  stage = stage;
  name = subst (λ o. IsNamed o (name_at new n)) (sym told) (subst (λ t. IsNamed (d.told id) t) (sym name) h.name);
  entry = subst (λ o. IsEntryOf o new (entry_at new n)) (sym told) (subst (λ t. IsEntryOf (d.told id) new t) (sym entry)
      (entry-kept (d.told id) old new (entry_at old n) kept h.entry));
}

-- the same stage, and an entry as it was
same-stage : (d e : Dictionary) (old new : List Row) (id : Text) (n : ℕ) → e.stage id ≡ d.stage id → entry_at new n ≡ entry_at old n
    → IsAtStage (d.stage id) (is_some (entry_at old n)) → IsAtStage (e.stage id) (is_some (entry_at new n))
same-stage d e old new id n stage entry h =
    subst (λ o. IsAtStage (e.stage id) (is_some o)) (sym entry) (subst (λ s. IsAtStage s (is_some (entry_at old n))) (sym stage) h)

pub staged-same : (id : Text) (s : Stage) (d : Dictionary) → (staged id s d).stage id ≡ s
staged-same id s d = rw ((bytes_eq-Decides id id).1 refl) refl

at-id : (id t : Text) (s : Stage) (d : Dictionary) → bytes_eq t id ≡ true → (staged id s d).stage t ≡ s
at-id id t s d same = rw same refl

other-id : (id t : Text) (s : Stage) (d : Dictionary) → bytes_eq t id ≡ false → (staged id s d).stage t ≡ d.stage t
other-id id t s d other = rw other refl

-- the row of an id is at another stage now
module _ (d : Dictionary) (id : Text) (s : Stage) (rows : List Row) (h : Follows d rows)
    (at : (n : ℕ) → place_of id rows ≡ Some n → IsAtStage s (is_some (entry_at rows n))) where
  each-staged : (t : Text) (n : ℕ) → place_of t rows ≡ Some n → (b : Bool) → bytes_eq t id ≡ b → IsAsTold (staged id s d) rows t n
  each-staged t n there true same =
      let t_is : t ≡ id = (bytes_eq-Decides t id).0 same in
      let stage : IsAtStage s (is_some (entry_at rows n)) = at n (ap (λ i. place_of i rows) (sym t_is) ∙ there) in
      as-told d (staged id s d) rows rows t n (keeps-refl rows)
      (subst (λ x. IsAtStage x (is_some (entry_at rows n))) (sym (at-id id t s d same)) stage) refl refl refl (h.each t n there)
  each-staged t n there false other =
      as-told d (staged id s d) rows rows t n (keeps-refl rows)
      (same-stage d (staged id s d) rows rows t n (other-id id t s d other) refl (h.each t n there).stage) refl refl refl (h.each t n there)

  pub restaged : (s ≡ Pending → IsSome (place_of id rows)) → Follows (staged id s d) rows
  restaged there = record { each = λ t n placed. each-staged t n placed (bytes_eq t id) refl; pending = λ t is. by t is (bytes_eq t id) refl }
    where
      by : (t : Text) → (staged id s d).stage t ≡ Pending → (b : Bool) → bytes_eq t id ≡ b → IsSome (place_of t rows)
      by t is true same =
          let t_is : id ≡ t = sym ((bytes_eq-Decides t id).0 same) in
          subst (λ i. IsSome (place_of i rows)) t_is (there (sym (at-id id t s d same) ∙ is))
      by t is false other = h.pending t (sym (other-id id t s d other) ∙ is)

-- only the last stage counts
pub restaged-twice : (d : Dictionary) (id : Text) (s u : Stage) (rows : List Row) → Follows (staged id s (staged id u d)) rows
    → Follows (staged id s d) rows
restaged-twice d id s u rows h = record {
  each = λ t n there. as-told (staged id s (staged id u d)) (staged id s d) rows rows t n (keeps-refl rows)
      (same-stage (staged id s (staged id u d)) (staged id s d) rows rows t n (same t (bytes_eq t id) refl) refl (h.each t n there).stage)
      refl refl refl (h.each t n there);
  pending = λ t is. h.pending t (sym (same t (bytes_eq t id) refl) ∙ is);
}
  where
    same : (t : Text) (b : Bool) → bytes_eq t id ≡ b → (staged id s d).stage t ≡ (staged id s (staged id u d)).stage t
    same t true is = at-id id t s d is ∙ sym (at-id id t s (staged id u d) is)
    same t false other = other-id id t s d other ∙ sym (other-id id t u d other) ∙ sym (other-id id t s (staged id u d) other)

-- what follows a dictionary follows it with an open row too
pub follows-open : (d : Dictionary) (id : Text) (rows : List Row) → Follows d rows → Follows (staged id Open d) rows
follows-open d id rows h = restaged d id Open rows h (λ n there. tt) (λ is. cc)

-- a row that may be left without an entry is reserved
pub follows-reserved : (d : Dictionary) (id name : Text) (rows : List Row) → Follows d rows → IsLeft (d.stage id)
    → IsNamed (d.told id) name → Follows d (reserved id name rows)
follows-reserved d id name rows h left named = by (place_of id rows) refl
  where
    new : Row
    new = record { id = id; name = name; entry = None }

    no-entry : (s : Stage) → IsLeft s → IsAtStage s false
    no-entry Defined l = absurd l
    no-entry Pending l = refl
    no-entry Open l = tt

    at : (t : Text) (n : ℕ) → (place_of t rows ≡ Some n) ⊎ ((bytes_eq id t ≡ true) × (n ≡ 0 + length rows))
        → Keeps rows (rows ++ new ∷ []) → IsAsTold d (rows ++ new ∷ []) t n
    at t n (inl there) kept =
        let below = place_of-below t rows n there in
        let entry = entry_at-before rows new n below in
        as-told d d rows (rows ++ new ∷ []) t n kept
        (same-stage d d rows (rows ++ new ∷ []) t n refl entry (h.each t n there).stage) refl entry (name_at-before rows new n below)
        (h.each t n there)
    at t n (inr last) kept =
        let is : id ≡ t = (bytes_eq-Decides id t).0 last.0 in
        let n_is : n ≡ length rows = omega (arith, last.1) in
        let entry_is : entry_at (rows ++ new ∷ []) n ≡ None = ap (entry_at (rows ++ new ∷ [])) n_is ∙ entry_at-last rows new in
        let name_is : name_at (rows ++ new ∷ []) n ≡ name = ap (name_at (rows ++ new ∷ [])) n_is ∙ name_at-last rows new in
        record {
          stage = subst (λ o. IsAtStage (d.stage t) (is_some o)) (sym entry_is)
              (no-entry (d.stage t) (subst (λ i. IsLeft (d.stage i)) is left));
          name = subst (λ i. IsNamed (d.told i) (name_at (rows ++ new ∷ []) n)) is (subst (λ x. IsNamed (d.told id) x) (sym name_is) named);
          entry = subst (λ o. IsEntryOf (d.told t) (rows ++ new ∷ []) o) (sym entry_is) (none-entry (d.told t));
        }
      where
        none-entry : (o : Option Told) → IsEntryOf o (rows ++ new ∷ []) None
        none-entry None = tt
        none-entry (Some x) = tt

    by : (o : Option ℕ) → place_of id rows ≡ o → Follows d (reserved id name rows)
    by (Some k) found = let same : reserved id name rows ≡ rows = rw found refl in subst (Follows d) (sym same) h
    by None none =
        let joined = reserved-absent id name rows none in
        let kept : Keeps rows (rows ++ new ∷ []) = reserved_keeps id name rows (rows ++ new ∷ []) (sym joined) in
        subst (Follows d) (sym joined)
        (record {
          each = λ t n there. at t n (joined-from t 0 n new rows there) kept;
          pending = λ t is. some-kept t kept (place_of t rows) refl (h.pending t is);
        })
      where
        some-kept : (t : Text) → Keeps rows (rows ++ new ∷ []) → (o : Option ℕ) → place_of t rows ≡ o → is_some o ≡ true
            → IsSome (place_of t (rows ++ new ∷ []))
        some-kept t kept None is some = cc
        some-kept t kept (Some k) is some = ap is_some (place_of-kept t k kept is)

-- a row joins that is defined
pub follows-joined : (d : Dictionary) (id name : Text) (e : Entry) (rows : List Row) → Follows d rows → place_of id rows ≡ None
    → IsNamed (d.told id) name → IsEntryOf (d.told id) (rows ++ (record { id = id; name = name; entry = Some e }) ∷ []) (Some e)
    → Follows d (rows ++ (record { id = id; name = name; entry = Some e }) ∷ [])
follows-joined d id name e rows h none named made = record {
  each = λ t n there. at t n (joined-from t 0 n new rows there);
  pending = λ t is. some-kept t (place_of t rows) refl (h.pending t is);
}
  where
    new : Row
    new = record { id = id; name = name; entry = Some e }

    kept : Keeps rows (rows ++ new ∷ [])
    kept = record { rows = all-joined rows (new ∷ []) }

    some-kept : (t : Text) (o : Option ℕ) → place_of t rows ≡ o → is_some o ≡ true → IsSome (place_of t (rows ++ new ∷ []))
    some-kept t None is some = cc
    some-kept t (Some k) is some = ap is_some (place_of-kept t k kept is)

    has-entry : (s : Stage) → (s ≡ Pending → ⊥) → IsAtStage s true
    has-entry Defined free = refl
    has-entry Pending free = absurd (free refl)
    has-entry Open free = tt

    free : d.stage id ≡ Pending → ⊥
    free is = let never : false ≡ true = ap is_some (sym none) ∙ h.pending id is in cc

    at : (t : Text) (n : ℕ) → (place_of t rows ≡ Some n) ⊎ ((bytes_eq id t ≡ true) × (n ≡ 0 + length rows)) → IsAsTold d (rows ++ new ∷ []) t n
    at t n (inl there) =
        let below = place_of-below t rows n there in
        let entry = entry_at-before rows new n below in
        as-told d d rows (rows ++ new ∷ []) t n kept
        (same-stage d d rows (rows ++ new ∷ []) t n refl entry (h.each t n there).stage) refl entry (name_at-before rows new n below)
        (h.each t n there)
    at t n (inr last) =
        let is : id ≡ t = (bytes_eq-Decides id t).0 last.0 in
        let n_is : n ≡ length rows = omega (arith, last.1) in
        let entry_is : entry_at (rows ++ new ∷ []) n ≡ Some e = ap (entry_at (rows ++ new ∷ [])) n_is ∙ entry_at-last rows new in
        let name_is : name_at (rows ++ new ∷ []) n ≡ name = ap (name_at (rows ++ new ∷ [])) n_is ∙ name_at-last rows new in
        record {
          stage = subst (λ o. IsAtStage (d.stage t) (is_some o)) (sym entry_is) (has-entry (d.stage t) (λ p. free (ap d.stage is ∙ p)));
          name = subst (λ i. IsNamed (d.told i) (name_at (rows ++ new ∷ []) n)) is (subst (λ x. IsNamed (d.told id) x) (sym name_is) named);
          entry = subst (λ o. IsEntryOf (d.told t) (rows ++ new ∷ []) o) (sym entry_is)
              (subst (λ i. IsEntryOf (d.told i) (rows ++ new ∷ []) (Some e)) is made);
        }

-- and a row that was being described is defined as its type says
pub follows-defined : (d : Dictionary) (id : Text) (n : ℕ) (e : Entry) (rows : List Row) → Follows (staged id Pending d) rows
    → place_of id rows ≡ Some n → entry_at (defined n e rows) n ≡ Some e → Keeps rows (defined n e rows)
    → IsEntryOf (d.told id) (defined n e rows) (Some e) → Follows (staged id Defined d) (defined n e rows)
follows-defined d id n e rows h there is kept made = record {
  each = λ t m at. by t m (sym (place_of-defined t n e rows) ∙ at) (bytes_eq t id) refl;
  pending = λ t pending. some t (bytes_eq t id) refl pending;
}
  where
    some : (t : Text) (b : Bool) → bytes_eq t id ≡ b → (staged id Defined d).stage t ≡ Pending → IsSome (place_of t (defined n e rows))
    some t true same pending = let never : Defined ≡ Pending = sym (at-id id t Defined d same) ∙ pending in cc
    some t false other pending =
        subst IsSome (sym (place_of-defined t n e rows))
        (h.pending t (other-id id t Pending d other ∙ sym (other-id id t Defined d other) ∙ pending))

    by : (t : Text) (m : ℕ) → place_of t rows ≡ Some m → (b : Bool) → bytes_eq t id ≡ b
        → IsAsTold (staged id Defined d) (defined n e rows) t m
    by t m at true same =
        let t_is : id ≡ t = sym ((bytes_eq-Decides t id).0 same) in
        let ms : Some m ≡ Some n = sym at ∙ ap (λ i. place_of i rows) (sym t_is) ∙ there in
        let m_is : n ≡ m = cc in
        let entry_is : entry_at (defined n e rows) m ≡ Some e = ap (entry_at (defined n e rows)) (sym m_is) ∙ is in
        let before = h.each t m at in
        record {
          stage = subst (λ s. IsAtStage s (is_some (entry_at (defined n e rows) m))) (sym (at-id id t Defined d same)) (ap is_some entry_is);
          name = subst (λ x. IsNamed (d.told t) x) (sym (name_at-defined n e rows m)) before.name;
          entry = subst (λ o. IsEntryOf (d.told t) (defined n e rows) o) (sym entry_is)
              (subst (λ i. IsEntryOf (d.told i) (defined n e rows) (Some e)) t_is made);
        }
    by t m at false other =
        let apart : n ≡ m → ⊥ = λ same.
        let t_is : t ≡ id = sym (id-there t m rows at) ∙ ap (id_at rows) (sym same) ∙ id-there id n rows there in
        let yes : bytes_eq t id ≡ true = (bytes_eq-Decides t id).1 t_is in
        let never : true ≡ false = sym yes ∙ other in cc in
        let entry = entry_at-other n e rows m apart in
        as-told (staged id Pending d) (staged id Defined d) rows (defined n e rows) t m kept
        (same-stage (staged id Pending d) (staged id Defined d) rows (defined n e rows) t m
        (other-id id t Defined d other ∙ sym (other-id id t Pending d other)) entry (h.each t m at).stage) refl entry
        (name_at-defined n e rows m) (h.each t m at)

-- a row that is defined may be open too, or be so in the dictionary
pub follows-settled : (d : Dictionary) (id : Text) (rows : List Row) → IsFree (d.stage id) → Follows (staged id Defined d) rows
    → Follows d rows
follows-settled d id rows free h = record {
  each = λ t n there. by t n there (bytes_eq t id) refl;
  pending = λ t is. some t is (bytes_eq t id) refl;
}
  where
    there-at : (s : Stage) (b : Bool) → IsFree s → b ≡ true → IsAtStage s b
    there-at Defined b f is = is
    there-at Pending b f is = absurd f
    there-at Open b f is = tt

    by : (t : Text) (n : ℕ) → place_of t rows ≡ Some n → (b : Bool) → bytes_eq t id ≡ b → IsAsTold d rows t n
    by t n there true same =
        let t_is : id ≡ t = sym ((bytes_eq-Decides t id).0 same) in
        let stage : IsAtStage Defined (is_some (entry_at rows n)) =
        subst (λ s. IsAtStage s (is_some (entry_at rows n))) (at-id id t Defined d same) (h.each t n there).stage in
        as-told (staged id Defined d) d rows rows t n (keeps-refl rows)
        (there-at (d.stage t) (is_some (entry_at rows n)) (subst (λ i. IsFree (d.stage i)) t_is free) stage) refl refl refl (h.each t n there)
    by t n there false other =
        as-told (staged id Defined d) d rows rows t n (keeps-refl rows)
        (same-stage (staged id Defined d) d rows rows t n (sym (other-id id t Defined d other)) refl (h.each t n there).stage) refl refl refl
        (h.each t n there)

    some : (t : Text) → d.stage t ≡ Pending → (b : Bool) → bytes_eq t id ≡ b → IsSome (place_of t rows)
    some t is true same =
        let t_is : id ≡ t = sym ((bytes_eq-Decides t id).0 same) in
        absurd (subst IsFree (ap d.stage t_is ∙ is) free)
    some t is false other = h.pending t (other-id id t Defined d other ∙ is)
