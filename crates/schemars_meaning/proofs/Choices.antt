-- What a choice of documents says under 2020-12, and the documents of maps with members that have to be there.
use Rattle.std.proofs.Common.{◌≡◌, ℕ, ◌<◌, List, [], ◌∷◌, map, Some, None, Bool, true, false, refl, ap, ◌∙◌}
use Rattle.schemars_meaning.proofs.Words.{codes, ◌||◌, bytes_eq, Data, null, boolean, number, string, array, object, depth, verdict, opposite, one_of, as_str, list_any, text_items, context2020_12, Text, IsJson, IsSchema, Patterns, Judge, Context, judge, read_items, both-yes, schema-judge, unit_variant, has_shape, exactly_one, none, items_of, key_options, Basis, none_of, alike, is_among, read_data, all_keywords, has_member, no_choices}
use Rattle.schemars_shapes.specs.Shape as shape
use Rattle.schemars_types.specs.declared.contract.Contract.{Contract}
use Rattle.schemars_types.specs.Meaning.{is_text}
use Rattle.schemars_meaning.proofs.ByShape.{one_of_document, any_of_document, units_document, member_document, range_document, result_document, bound_document, either_document}
use Rattle.schemars_meaning.proofs.Verdicts.{none_verdict, one_verdict}
use Rattle.schemars_meaning.proofs.SmallMaps.{one_means, two_mean}

module _ (patterns : Patterns) (f : Text → Judge) where
  abbrev c : Context
  c = context2020_12 patterns f

  -- schemas, and what each says of a value
  abbrev pub Say : List Data → List Bool → Data → Type 0
  Say [] [] v = Unit {0}
  Say [] (b ∷ bs) v = ⊥
  Say (t ∷ ts) [] v = ⊥
  Say (t ∷ ts) (b ∷ bs) v = IsSchema t × ((judge c t).fits v ≡ verdict b) × Say ts bs v

  choices_read : (ts : List Data) (bs : List Bool) (v : Data) → Say ts bs v → read_items c (items_of ts) ≡ Some (map (judge c) ts)
  unfolding read_data
  choices_read [] bs v h = refl
  choices_read (t ∷ ts) [] v h = absurd h
  choices_read (t ∷ ts) (b ∷ bs) v h = rw (schema-judge c t h.0, choices_read ts bs v h.2) refl

  each_choice : (ts : List Data) (bs : List Bool) (v : Data) → Say ts bs v
      → map (λ (s : Judge). s.fits v) (map (judge c) ts) ≡ map verdict bs
  each_choice [] [] v h = refl
  each_choice [] (b ∷ bs) v h = absurd h
  each_choice (t ∷ ts) [] v h = absurd h
  each_choice (t ∷ ts) (b ∷ bs) v h = λ i. h.1 i ∷ each_choice ts bs v h.2 i

  pub one_of_says : (ts : List Data) (bs : List Bool) (v : Data) → Say ts bs v
      → (judge c (one_of_document ts)).fits v ≡ verdict (exactly_one bs)
  unfolding read_data all_keywords
  one_of_says ts bs v h = rw (choices_read ts bs v h) (both-yes _ ∙ (ap one_of (each_choice ts bs v h) ∙ one_verdict bs))

  any_verdict : (bs : List Bool) → opposite (verdict (none bs)) ≡ verdict (list_any (λ b. b) bs)
  any_verdict [] = refl
  any_verdict (true ∷ bs) = refl
  any_verdict (false ∷ bs) = any_verdict bs

  pub any_of_says : (ts : List Data) (bs : List Bool) (v : Data) → Say ts bs v
      → (judge c (any_of_document ts)).fits v ≡ verdict (list_any (λ b. b) bs)
  unfolding read_data all_keywords
  any_of_says ts bs v h = rw (choices_read ts bs v h)
      (both-yes _ ∙ (ap (λ x. opposite (none_of x)) (each_choice ts bs v h) ∙ (ap opposite (none_verdict bs) ∙ any_verdict bs)))

  among : (ks : List Text) (v : Data) → is_among (text_items ks) v ≡ list_any (λ k. is_text k v) ks
  unfolding alike
  among [] v = refl
  among (k ∷ ks) null = among ks null
  among (k ∷ ks) (boolean b) = among ks (boolean b)
  among (k ∷ ks) (number n) = among ks (number n)
  among (k ∷ ks) (string s) = ap (λ b. bytes_eq k s || b) (among ks (string s))
  among (k ∷ ks) (array vs) = among ks (array vs)
  among (k ∷ ks) (object ms) = among ks (object ms)

  no_text : (ks : List Text) (v : Data) → as_str v ≡ None → list_any (λ k. is_text k v) ks ≡ false
  no_text [] v h = refl
  no_text (k ∷ ks) v h = rw h (no_text ks v h)

  pub units_say : (ks : List Text) (v : Data) → (judge c (units_document ks)).fits v ≡ verdict (list_any (λ k. is_text k v) ks)
  unfolding read_data all_keywords
  units_say ks null = rw (among ks null, no_text ks null refl) refl
  units_say ks (boolean b) = rw (among ks (boolean b), no_text ks (boolean b) refl) refl
  units_say ks (number n) = rw (among ks (number n), no_text ks (number n) refl) refl
  units_say ks (string s) = rw (among ks (string s)) (both-yes _)
  units_say ks (array vs) = rw (among ks (array vs), no_text ks (array vs) refl) refl
  units_say ks (object ms) = rw (among ks (object ms), no_text ks (object ms) refl) refl

  pub unit_says : (name : Text) (v : Data) → (judge c (unit_variant name)).fits v ≡ verdict (is_text name v)
  unfolding read_data all_keywords alike
  unit_says name (string s) = both-yes _
  unit_says name _ = refl

  module _ (basis : Basis) (M : ℕ → Data → Bool) (W : ℕ → Data → Type 0) (schemas : (j : ℕ) (t : Data) → W j t → IsSchema t)
      (v : Data) (json : IsJson v)
      (agree : (j : ℕ) (t w : Data) → W j t → IsJson w → depth w < depth v → (judge c t).fits w ≡ verdict (M j w)) where
    abbrev contract : Contract
    contract = basis.contract

    abbrev has : Bool → Text → ℕ → Bool
    has closed name n = has_member name (M n) closed v

    member_says : (closed : Bool) (name : Text) (n : ℕ) (t : Data) → W n t
        → (judge c (member_document closed name t)).fits v ≡ verdict (has closed name n)
    member_says closed name n t h = one_means c refl v name (M n) t closed (schemas n t h) (λ w is less. agree n t w h is less) json

    pub range_says : (n : ℕ) (s e : Data) → W n s → W n e
        → (judge c (range_document s e)).fits v
        ≡ verdict (has_shape contract patterns (key_options basis.rows) no_choices M (shape.range n) v)
    range_says n s e g h =
        two_mean c refl v (codes "start") (codes "end") refl (M n) (M n) s e (λ w is less. agree n s w g is less)
        (λ w is less. agree n e w h is less) false (schemas n s g) (schemas n e h) json

    pub result_says : (a b : ℕ) (t e : Data) → W a t → W b e
        → (judge c (result_document t e)).fits v
        ≡ verdict (has_shape contract patterns (key_options basis.rows) no_choices M (shape.result a b) v)
    result_says a b t e g h =
        one_of_says (member_document false (codes "Ok") t ∷ member_document false (codes "Err") e ∷ [])
        (has false (codes "Ok") a ∷ has false (codes "Err") b ∷ []) v
        (tt, member_says false (codes "Ok") a t g, (tt, member_says false (codes "Err") b e h, tt))

    pub either_says : (a b : ℕ) (t e : Data) → W a t → W b e
        → (judge c (either_document t e)).fits v
        ≡ verdict (has_shape contract patterns (key_options basis.rows) no_choices M (shape.either a b) v)
    either_says a b t e g h =
        one_of_says (member_document true (codes "Left") t ∷ member_document true (codes "Right") e ∷ [])
        (has true (codes "Left") a ∷ has true (codes "Right") b ∷ []) v
        (tt, member_says true (codes "Left") a t g, (tt, member_says true (codes "Right") b e h, tt))

    pub bound_says : (n : ℕ) (t e : Data) → W n t → W n e
        → (judge c (bound_document t e)).fits v
        ≡ verdict (has_shape contract patterns (key_options basis.rows) no_choices M (shape.bound n) v)
    bound_says n t e g h =
        one_of_says (member_document false (codes "Included") t ∷ member_document false (codes "Excluded") e
        ∷ unit_variant (codes "Unbounded") ∷ [])
        (has false (codes "Included") n ∷ has false (codes "Excluded") n ∷ is_text (codes "Unbounded") v ∷ []) v (
          tt,
          member_says false (codes "Included") n t g,
          (
            tt,
            member_says false (codes "Excluded") n e h,
            (tt, unit_says (codes "Unbounded") v, tt),
          ),
        )
