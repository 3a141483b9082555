-- A document accepts just what belongs to its row, through references and rows that lead back to themselves.
use Rattle.std.proofs.Common.{◌≡◌, ◌⊎◌, inl, inr, ℕ, zero, suc, ◌+◌, ◌*◌, ◌<◌, ◌≤◌, List, [], ◌∷◌, Option, Some, None, Bool, true, false, refl, ap, ◌∙◌, arith, add-one}
use Rattle.schemars_meaning.proofs.Words.{if◌then◌else◌, Data, depth, verdict, Text, IsJson, Patterns, Judge, draft2020_12, judge, follow, both-yes, context2020_12, IsReady, ready-schema, Entry, Row, entry_at, key_options, expanded_shape_in, VariantMatch, has_shape, choices_within, reference, IsEntryUnder, parts_in, Basis, Ask, filled, template_of, Fills, IsOwnDocument, IsAnswered, IsWritten, nat_lt, length, mul-le-mul_right, nat_tests, resolved, read_data, all_keywords, belongs_within, Describes}
use Rattle.schemars_types.specs.declared.contract.Contract.{Contract}
use Rattle.schemars_meaning.proofs.Notes.{judge-annotated}
use Rattle.schemars_meaning.proofs.Meanings.{IsSame, Inside}
use Rattle.schemars_meaning.proofs.Heights as heights
use Rattle.schemars_meaning.proofs.ShapesCounted.{HasRoom, shape_says}
use Rattle.schemars_meaning.proofs.ReadyUnder.{bare_ready, written_ready}
use Rattle.schemars_meaning.proofs.SettledTables.{IsSettled}

-- ---- the references of a document

-- rows, each with a reference to it
abbrev pub References : Type 0
References = List (ℕ × Text)

-- r is a reference to row n
abbrev pub InList : References → ℕ → Text → Type 0
InList [] n r = ⊥
InList (x ∷ xs) n r = ((x.0 ≡ n) × (x.1 ≡ r)) ⊎ InList xs n r

-- ---- counting down

pub closer : (a b h r : ℕ) → a < b → r < h → a * h + r < b * h
closer a b h r less small = grind (arith, mul-le-mul_right)

-- how many of the rows that are referred to rank below r
lower : (ℕ → ℕ) → ℕ → References → ℕ
lower rank r [] = 0
lower rank r (x ∷ xs) = (if nat_lt (rank x.0) r then 1 else 0) + lower rank r xs

step_up : (x a b : ℕ) → a ≤ b → (if nat_lt x a then 1 else 0) ≤ (if nat_lt x b then 1 else 0)
step_up x a b h = grind (arith, nat_tests)

step_in : (x b : ℕ) → x < b → (if nat_lt x x then 1 else 0) < (if nat_lt x b then 1 else 0)
step_in x b h = grind (arith, nat_tests)

lower_few : (rank : ℕ → ℕ) (r : ℕ) (xs : References) → lower rank r xs ≤ length xs
unfolding lower
lower_few rank r [] = omega arith
lower_few rank r (x ∷ xs) = go (nat_lt (rank x.0) r) (lower_few rank r xs)
  where
    go : (b : Bool) → lower rank r xs ≤ length xs → (if b then 1 else 0) + lower rank r xs ≤ suc (length xs)
    go true h = omega arith
    go false h = omega arith

lower_more : (rank : ℕ → ℕ) (a b : ℕ) (xs : References) → a ≤ b → lower rank a xs ≤ lower rank b xs
unfolding lower
lower_more rank a b [] h = omega arith
lower_more rank a b (x ∷ xs) h = let e = step_up (rank x.0) a b h in let t = lower_more rank a b xs h in omega arith

-- a row that is referred to counts at higher ranks alone
lower_most : (rank : ℕ → ℕ) (j b : ℕ) (r : Text) (xs : References) → InList xs j r → rank j < b → lower rank (rank j) xs < lower rank b xs
unfolding lower
lower_most rank j b r [] is h = absurd is
lower_most rank j b r (x ∷ xs) (inl is) h =
    let a = step_in (rank j) b h in
    let more = lower_more rank (rank j) b xs (omega arith) in
    rw (is.0) (omega arith)
lower_most rank j b r (x ∷ xs) (inr is) h =
    let a = step_up (rank x.0) (rank j) b (omega arith) in
    let more = lower_most rank j b r xs is h in
    omega arith

-- ---- what is given: a table that is plain under its contract, in which each row has the fields and enums of its shape, and whose ranks
-- fall where a part has the row's own values, and a document in which each reference leads to what says the same as its row's document

pub record Setting : Type 0 where
  pub basis : Basis
  pub patterns : Patterns
  pub document : Data
  pub refs : References
  pub resolves : (j : ℕ) (r : Text) → InList refs j r
      → (found : Data) × (s : Data) × (d : ℕ) × (resolved document r ≡ Some found)
      × ((f : Text → Judge) → judge (context2020_12 patterns f) found ≡ judge (context2020_12 patterns f) s)
      × Describes basis (InList refs) d j s
  pub settled : IsSettled basis
  pub rank : ℕ → ℕ
  pub ranks : ℕ
  pub low_rank : (n : ℕ) (e : Entry) → entry_at basis.rows n ≡ Some e → rank n < ranks
  pub ranked : (n : ℕ) (e : Entry) (j : ℕ) → entry_at basis.rows n ≡ Some e → IsSame e.shape j → rank j < rank n
  pub flattens : (n : ℕ) (e : Entry) → entry_at basis.rows n ≡ Some e → (parts_in e.shape ≡ []) ⊎ (0 < rank n)

module _ (s : Setting) where
  open s use {basis, patterns, document, refs, rank, ranks}

  abbrev rows : List Row
  rows = basis.rows

  abbrev contract : Contract
  contract = basis.contract

  abbrev D : ℕ → ℕ → Data → Type 0
  D = Describes basis (InList refs)

  abbrev W : ℕ → ℕ → Data → Type 0
  W d = IsWritten (InList refs) (D d)

  abbrev A : ℕ → Ask → Data → Type 0
  A d = IsAnswered rows (λ m b. Unit {0}) (W d) (D d)

  abbrev B : ℕ → ℕ → Data → Bool
  B m = belongs_within rows contract patterns m

  abbrev C : ℕ → ℕ → Data → List VariantMatch
  C m = choices_within rows contract patterns m

  described_entry : (d n : ℕ) (t : Data) → D d n t → (e : Entry) × (entry_at rows n ≡ Some e)
  unfolding Describes
  described_entry zero n t h = absurd h
  described_entry (suc d) n t h = go (entry_at rows n) refl h
    where
      go : (o : Option Entry) → entry_at rows n ≡ o → IsOwnDocument (A d) basis o t → (e : Entry) × (entry_at rows n ≡ Some e)
      go None at is = absurd is
      go (Some e) at is = (e, at)

  described_low : (d n : ℕ) (t : Data) → D d n t → rank n < ranks
  described_low d n t h = let e = described_entry d n t h in s.low_rank n e.0 e.1

  referred_low : (j : ℕ) (r : Text) → InList refs j r → rank j < ranks
  referred_low j r is = let to = s.resolves j r is in described_low to.2 j to.1 to.5

  written_low : (d j : ℕ) (t : Data) → W d j t → rank j < ranks
  written_low d j t (inl h) = referred_low j h.0 h.1
  written_low d j t (inr h) = described_low d j t h

  hops : ℕ → ℕ
  hops n = lower rank (rank n) refs

  most_hops : ℕ
  most_hops = suc (length refs)

  few_hops : (n : ℕ) → hops n < most_hops
  unfolding hops most_hops
  few_hops n = let e = lower_few rank (rank n) refs in omega arith

  -- ---- by references still allowed, and by depth

  abbrev at_most : ℕ → Text → Judge
  at_most n = follow draft2020_12 document patterns n

  abbrev Good : ℕ → ℕ → Type 0
  Good h n = heights.Good draft2020_12 patterns document (InList refs) D B hops rank most_hops ranks s.resolves h n

  abbrev Said : ℕ → ℕ → ℕ → Type 0
  Said h n d = heights.Said draft2020_12 patterns document (InList refs) D B hops rank most_hops ranks s.resolves h n d

  abbrev Below : ℕ → ℕ → Type 0
  Below h n = heights.Below draft2020_12 patterns document (InList refs) D B hops rank most_hops ranks s.resolves h n

  reference_says : (f : Text → Judge) (r : Text) (v : Data) → (judge (context2020_12 patterns f) (reference r)).fits v ≡ (f r).fits v
  unfolding read_data all_keywords
  reference_says f r v = both-yes ((f r).fits v)

  -- what is written for a row says of smaller values what the row means
  smaller : (h n : ℕ) → Below h n → (top : ℕ) → top ≡ h → (k : ℕ) → h * most_hops + hops k ≤ n → (d j : ℕ) (t w : Data) → W d j t
      → IsJson w → depth w < top → (m : ℕ) → depth w * ranks + rank j < m
      → (judge (context2020_12 patterns (at_most n)) t).fits w ≡ verdict (B m j w)
  smaller h n below top same k costs d j t w (inl (r, is_ref, same_t)) json less m low =
      let below_h : depth w < h = rw same at less in
      let a = closer (depth w) h most_hops (hops j) below_h (few_hops j) in
      rw (same_t, reference_says) ((below (depth w) below_h).0 j r is_ref w json refl m (omega arith) low)
  smaller h n below top same k costs d j t w (inr is) json less m low =
      let below_h : depth w < h = rw same at less in
      let a = closer (depth w) h most_hops (hops j) below_h (few_hops j) in
      (below (depth w) below_h).1 d j t is w json refl m (omega arith) low

  part_says : (h n d m : ℕ) → Below h n → Good h n → Said h n d → (k : ℕ) (e : Entry) → entry_at rows k ≡ Some e → (v : Data)
      → depth v ≡ h → depth v * most_hops + hops k ≤ n → depth v * ranks + rank k < suc m
      → (j : ℕ) (t w : Data) → W d j t → IsJson w → Inside e.shape v j w
      → (judge (context2020_12 patterns (at_most n)) t).fits w ≡ verdict (B m j w)
  unfolding hops
  part_says h n d m below good said k e is v same costs low j t w written json (inl less) =
      let b = closer (depth w) (depth v) ranks (rank j) less (written_low d j t written) in
      smaller h n below (depth v) same k (rw same at costs) d j t w written json less m (omega arith)
  part_says h n d m below good said k e is v same costs low j t w (inl (r, is_ref, same_t)) json (inr own) =
      let b = s.ranked k e j is own.0 in
      let a = lower_most rank j (rank k) r refs is_ref b in
      let same_depth : depth w ≡ depth v = ap depth own.1 in
      rw (same_t, reference_says) (good j r is_ref w json (same_depth ∙ same) m (rw same_depth (omega arith)) (rw same_depth (omega arith)))
  part_says h n d m below good said k e is v same costs low j t w (inr described) json (inr own) =
      let b = s.ranked k e j is own.0 in
      let a = lower_more rank (rank j) (rank k) refs (omega arith) in
      let same_depth : depth w ≡ depth v = ap depth own.1 in
      said j t described w json (same_depth ∙ same) m (rw same_depth (omega arith)) (rw same_depth (omega arith))

  own_says : (h n d : ℕ) → Below h n → Good h n → Said h n d → (k : ℕ) → rank k < ranks → (o : Option Entry) → entry_at rows k ≡ o
      → IsEntryUnder contract rows o → (t : Data) → IsOwnDocument (A d) basis o t → (v : Data) → IsJson v → depth v ≡ h → (m : ℕ)
      → depth v * most_hops + hops k ≤ n → depth v * ranks + rank k < suc m
      → (judge (context2020_12 patterns (at_most n)) t).fits v
      ≡ verdict (elim o [
        | None ↦ false
        | Some entry ↦ has_shape contract patterns (key_options rows) (C m) (B m) (expanded_shape_in rows entry.shape) v
      ])
  own_says h n d below good said k ranked None at under t is v json same m costs low = absurd is
  own_says h n d below good said k ranked (Some e) at under t is v json same m costs low =
      let bare = filled (template_of basis e.shape) is.parts in
      let fills : Fills (A d) (template_of basis e.shape) bare = record { parts = is.parts; answered = is.answered; is = refl } in
      let some : 0 < ranks = omega arith in
      let ready : (d j : ℕ) (t : Data) → W d j t → IsReady t =
      written_ready patterns (at_most n) basis (InList refs) s.settled ranks some in
      let schema = ready-schema bare
      (bare_ready patterns (at_most n) basis (InList refs) s.settled ranks some
      d (ready d) e.shape bare under.1 under.3 under.4 fills) in
      rw (is.is) (ap (λ j. j.fits v) (judge-annotated patterns (at_most n) e.notes bare under.0 schema)
      ∙ shape_says patterns (at_most n) basis (InList refs) s.settled ranks some (depth v)
      (λ d j t w written js less m enough. smaller h n below (depth v) same k (rw same at costs) d j t w written js less m
      (omega (arith, written_low d j t written)))
      ready v json (omega arith) m (omega arith) d e.shape (room (s.flattens k e at))
      (λ j same_row. let b = s.ranked k e j at same_row in omega arith) under.1 under.3 under.4 bare fills
      (λ j t w written js inside. part_says h n d m below good said k e at v same costs low j t w written js inside))
    where
      room : (parts_in e.shape ≡ []) ⊎ (0 < rank k) → HasRoom ranks v m (parts_in e.shape)
      room (inl none) = inl none
      room (inr positive) = inr (omega arith)

  own : (h n d : ℕ) → Below h n → Good h n → Said h n d → Said h n (suc d)
  unfolding Describes belongs_within
  own h n d below good said k t is v json same zero costs low = absurd (omega arith)
  own h n d below good said k t is v json same (suc m) costs low =
      own_says h n d below good said k (described_low (suc d) k t is) (entry_at rows k) refl (s.settled.plain k) t is v json
      same m costs low

  nothing : (k : ℕ) (t : Data) → D zero k t → ⊥
  unfolding Describes
  nothing k t is = is

  -- values of each height, with any number of references
  all : (h n : ℕ) → Good h n × ((d : ℕ) → Said h n d)
  all h n = heights.all draft2020_12 patterns document (InList refs) D B hops rank most_hops ranks s.resolves nothing own h n

  within : (a h r n : ℕ) → r < h → (a + 1) * h ≤ n → a * h + r ≤ n
  within a h r n small less = omega arith

  -- from the bound on, a document says what its row means
  pub describes_says : (d k : ℕ) (t : Data) → D d k t → (v : Data) → IsJson v → (n m : ℕ) → (depth v + 1) * (length refs + 1) ≤ n
      → (depth v + 1) * ranks ≤ m
      → (judge (context2020_12 patterns (at_most n)) t).fits v ≡ verdict (belongs_within rows contract patterns m k v)
  unfolding most_hops
  describes_says d k t h v json n m enough steps =
      let low = described_low d k t h in
      let few : hops k < length refs + 1 = rw add-one (few_hops k) in
      let a : depth v * most_hops + hops k ≤ n = rw (← add-one) (within (depth v) (length refs + 1) (hops k) n few enough) in
      (all (depth v) n).1 d k t h v json refl m a (omega arith)

  strictly : (a h r n : ℕ) → r < h → (a + 1) * h ≤ n → a * h + r < n
  strictly a h r n small less = omega arith

  -- and so does a reference to it
  pub written_says : (d k : ℕ) (t : Data) → W d k t → (v : Data) → IsJson v → (n m : ℕ) → (depth v + 1) * (length refs + 1) ≤ n
      → (depth v + 1) * ranks ≤ m
      → (judge (context2020_12 patterns (at_most n)) t).fits v ≡ verdict (belongs_within rows contract patterns m k v)
  unfolding most_hops
  written_says d k t (inr h) v json n m enough steps = describes_says d k t h v json n m enough steps
  written_says d k t (inl h) v json n m enough steps =
      let low = referred_low k h.0 h.1 in
      let wide : (depth v + 1) * most_hops ≤ n = rw (add-one (length refs)) at enough in
      let a : depth v * most_hops + hops k < n = strictly (depth v) most_hops (hops k) n (few_hops k) wide in
      rw (h.2, reference_says) ((all (depth v) n).0 k h.0 h.1 v json refl m a (omega arith))
