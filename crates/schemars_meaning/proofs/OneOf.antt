-- What a choice says, each item of which says whether the value is of its variant.
use Rattle.std.proofs.Common.{◌≡◌, List, [], ◌∷◌, map, Option, Some, Bool, true, false, refl, sym, ap, ◌∙◌, true≢false}
use Rattle.schemars_meaning.proofs.Words.{AllByRecursion, bytes_eq, bytes_eq-Decides, ◌||◌, list_any, same_Some, Data, Members, Text, IsSchema, AreNotes, verdict, Judge, Patterns, Context, judge, context2020_12, Payload, Variant, none, exactly_one, AreDistinctVariants, IsNoVariant, Ask, Template, noted, asks_of, asks_in, filled, filled_in, templates_of, any_of_template, choice_of, read_data}
use Rattle.schemars_meaning.proofs.Filling.{Fit, without_end, parted}
use Rattle.schemars_meaning.proofs.Notes.{annotated_fits, annotated-schema}
use Rattle.schemars_meaning.proofs.SmallMaps.{SaysInside}
use Rattle.schemars_meaning.proofs.Choices.{Say, one_of_says, any_of_says}

-- ---- of variants whose names are all different one has the value at most

-- a value passes the test of a variant under the variant's own name alone
module _ (test : Variant → Bool) (claimed : Option Text) (own : (x : Variant) → test x ≡ true → claimed ≡ Some x.name) where
  other_false : (k : Text) → claimed ≡ Some k → (x : Variant) → bytes_eq x.name k ≡ false → test x ≡ false
  other_false k claim x apart = go (test x) (own x)
    where
      go : (b : Bool) → (b ≡ true → claimed ≡ Some x.name) → b ≡ false
      go false named = refl
      go true named =
          absurd (true≢false (sym ((bytes_eq-Decides x.name k).1 (same_Some _ _ (sym (named refl) ∙ claim))) ∙ apart))

  none_other : (k : Text) → claimed ≡ Some k → (xs : List Variant) → IsNoVariant k xs → none (map test xs) ≡ true
  none_other k claim [] h = refl
  none_other k claim (x ∷ xs) h = rw (other_false k claim x h.0, none_other k claim xs h.1) refl

  pub one_if_any : (xs : List Variant) → AreDistinctVariants xs → exactly_one (map test xs) ≡ list_any test xs
  one_if_any [] h = refl
  one_if_any (x ∷ xs) h = go (test x) (own x) (one_if_any xs h.1)
    where
      go : (b : Bool) → (b ≡ true → claimed ≡ Some x.name) → exactly_one (map test xs) ≡ list_any test xs
          → exactly_one (b ∷ map test xs) ≡ b || list_any test xs
      go true named later = none_other x.name (named refl) xs h.0
      go false named later = later

-- ---- templates

-- payloads that `Told` speaks of, and notes that are annotations
abbrev pub AreTold : (Payload → Type 0) → List Variant → Type 0
AreTold Told = AllByRecursion (λ x. Told x.payload × AreNotes x.notes)

module _ (patterns : Patterns) (f : Text → Judge) (A : Ask → Data → Type 0) (v : Data) where
  abbrev c : Context
  c = context2020_12 patterns f

  -- whatever fills it is a schema that says this of the value
  abbrev pub Tells : Template → Bool → Type 0
  Tells t b = (us : List Data) → Fit A (asks_of t) us → IsSchema (filled t us) × ((judge c (filled t us)).fits v ≡ verdict b)

  -- whatever fills it is a schema that says of what is inside the value whether it passes
  abbrev pub TellsInside : Template → (Data → Bool) → Type 0
  TellsInside t p = (us : List Data) → Fit A (asks_of t) us → IsSchema (filled t us) × SaysInside c refl v (filled t us) p

  abbrev pub AllTell : List Template → List Bool → Type 0
  AllTell [] [] = Unit {0}
  AllTell [] (b ∷ bs) = ⊥
  AllTell (t ∷ ts) [] = ⊥
  AllTell (t ∷ ts) (b ∷ bs) = Tells t b × AllTell ts bs

  all_say : (ts : List Template) (bs : List Bool) → AllTell ts bs → (us : List Data) → Fit A (asks_in (templates_of ts)) us
      → Say patterns f (filled_in (templates_of ts) us) bs v
  all_say [] [] h us fit = tt
  all_say [] (b ∷ bs) h us fit = absurd h
  all_say (t ∷ ts) [] h us fit = absurd h
  all_say (t ∷ ts) (b ∷ bs) h us fit =
      let p = parted A t (asks_in (templates_of ts)) us fit in
      let own = h.0 p.0 p.2 in
      (rw p.4 own.0, ap (λ s. (judge c s).fits v) p.4 ∙ own.1, rw p.5 (all_say ts bs h.1 p.1 p.3))

  any_tells : (ts : List Template) (bs : List Bool) → AllTell ts bs → Tells (any_of_template ts) (list_any (λ b. b) bs)
  any_tells ts bs h us fit =
      let own = without_end A (asks_in (templates_of ts)) us fit in
      (tt, any_of_says patterns f (filled_in (templates_of ts) us) bs v (all_say ts bs h us own))

  pub one_tells : (ts : List Template) (bs : List Bool) → AllTell ts bs → Tells (choice_of [] ts) (exactly_one bs)
  unfolding read_data
  one_tells [] [] h us fit = (tt, refl)
  one_tells [] (b ∷ bs) h us fit = absurd h
  one_tells (t ∷ ts) bs h us fit =
      let own = without_end A (asks_in (templates_of (t ∷ ts))) us fit in
      (tt, one_of_says patterns f (filled_in (templates_of (t ∷ ts)) us) bs v (all_say (t ∷ ts) bs h us own))

  pub noted_tells : (notes : Members) (t : Template) (b : Bool) → AreNotes notes → Tells t b → Tells (noted notes t) b
  noted_tells notes t b plain h us fit =
      let own = h us fit in
      (annotated-schema notes (filled t us) own.0, annotated_fits c notes (filled t us) v plain own.0 ∙ own.1)

  -- ---- variants: each has an item with its notes, and a test once what is flattened into it is among its own

  module _ (item : Variant → Template) (each : Variant → Variant) (test : Variant → Bool) (Told : Payload → Type 0)
      (tells : (x : Variant) → Told x.payload → Tells (item x) (test (each x))) where
    abbrev items : List Variant → List Template
    items xs = map (λ x. noted x.notes (item x)) xs

    items_tell : (xs : List Variant) → AreTold Told xs → AllTell (items xs) (map test (map each xs))
    items_tell [] h = tt
    items_tell (x ∷ xs) h = (noted_tells x.notes (item x) (test (each x)) h.0.1 (tells x h.0.0), items_tell xs h.1)

    same_any : (xs : List Variant) → list_any (λ b. b) (map test xs) ≡ list_any test xs
    same_any [] = refl
    same_any (x ∷ xs) = ap (λ b. test x || b) (same_any xs)

    -- any of them has the value
    pub any_says : (xs : List Variant) → AreTold Told xs → Tells (any_of_template (items xs)) (list_any test (map each xs))
    any_says xs told us fit =
        let any = any_tells (items xs) (map test (map each xs)) (items_tell xs told) us fit in
        (any.0, any.1 ∙ ap verdict (same_any (map each xs)))

    -- exactly one fits if any of them has the value
    pub one_says : (claimed : Option Text) → ((x : Variant) → test x ≡ true → claimed ≡ Some x.name) → (xs : List Variant)
        → AreDistinctVariants (map each xs) → AreTold Told xs → Tells (choice_of [] (items xs)) (list_any test (map each xs))
    one_says claimed own xs apart told us fit =
        let one = one_tells (items xs) (map test (map each xs)) (items_tell xs told) us fit in
        (one.0, one.1 ∙ ap verdict (one_if_any test claimed own (map each xs) apart))
