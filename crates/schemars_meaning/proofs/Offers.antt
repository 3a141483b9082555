-- What choices of schemas say, and which members they judge.
use Rattle.std.proofs.Common.{◌≡◌, List, [], ◌∷◌, map, Option, Some, None, Bool, true, false, refl, sym, ap, ◌∙◌, subst}
use Rattle.schemars_meaning.proofs.Words.{or-false, bytes_eq-Decides, codes, bytes_eq, if◌then◌else◌, ◌&&◌, ◌||◌, Data, array, no_members, member, get_member, items_of, Text, IsSchema, verdict, one_of, Context, Judge, judge, read_items, judged_by_list, each_says, both-yes, schema-judge, get_member-later, exactly_one, VariantMatch, claimed_by, is_yes, key, judged_by, judged_by_some, read_data, alone}
use Rattle.schemars_meaning.proofs.Verdicts.{one_verdict}
use Rattle.schemars_meaning.proofs.MapForm.{Keywords, look_up, HasKeywords, object-says, says-fits, says-judges, no_type}

-- an object with this keyword alone
none_if : (b : Bool) (x : Option Data) → x ≡ None → (if b then None else x) ≡ None
none_if true x h = refl
none_if false x h = h

abbrev lone : Data → Keywords
lone d = record { type = None; properties = None; required = None; additional = None; all = None; one = Some d; unevaluated = None }

lone-has : (d : Data) → HasKeywords (lone d) (member (codes "oneOf") d no_members)
lone-has d k is = go (bytes_eq k (codes "oneOf")) refl
  where
    at_one : get_member (codes "oneOf") (member (codes "oneOf") d no_members) ≡ look_up (lone d) (codes "oneOf")
    at_one = refl

    go : (b : Bool) → bytes_eq k (codes "oneOf") ≡ b → get_member k (member (codes "oneOf") d no_members) ≡ look_up (lone d) k
    go true is =
        let same : codes "oneOf" ≡ k = sym ((bytes_eq-Decides k (codes "oneOf")).0 is) in
        subst (λ l. get_member l (member (codes "oneOf") d no_members) ≡ look_up (lone d) l) same at_one
    go false is =
        get_member-later k (codes "oneOf") d no_members is
        ∙ sym (none_if (bytes_eq k (codes "type")) _ (none_if (bytes_eq k (codes "properties")) _
        (none_if (bytes_eq k (codes "required")) _ (none_if (bytes_eq k (codes "additionalProperties")) _
        (none_if (bytes_eq k (codes "allOf")) _ (ap (λ b. if b then Some d
        else if bytes_eq k (codes "unevaluatedProperties") then None else None) is
        ∙ none_if (bytes_eq k (codes "unevaluatedProperties")) None refl))))))

-- one of these
abbrev pub one_object : List Data → Data
one_object ts = alone (codes "oneOf") (array (items_of ts))

module _ (c : Context) where
  -- schemas, what each says of the value, and which members it judges where the value fits
  abbrev pub AllSay : List Data → List VariantMatch → Data → Type 0
  AllSay [] [] v = Unit {0}
  AllSay [] (o ∷ os) v = ⊥
  AllSay (t ∷ ts) [] v = ⊥
  AllSay (t ∷ ts) (o ∷ os) v = IsSchema t × ((judge c t).fits v ≡ verdict o.fits)
      × ((k : Text) → o.fits ≡ true → (judge c t).judges v (key k) ≡ o.has_key k) × AllSay ts os v

  read_all : (ts : List Data) (os : List VariantMatch) (v : Data) → AllSay ts os v → read_items c (items_of ts) ≡ Some (map (judge c) ts)
  unfolding read_data
  read_all [] os v h = refl
  read_all (t ∷ ts) [] v h = absurd h
  read_all (t ∷ ts) (o ∷ os) v h = rw (schema-judge c t h.0, read_all ts os v h.3) refl

  each_fits : (ts : List Data) (os : List VariantMatch) (v : Data) → AllSay ts os v
      → map (λ (s : Judge). s.fits v) (map (judge c) ts) ≡ map verdict (map (λ (o : VariantMatch). o.fits) os)
  each_fits [] [] v h = refl
  each_fits [] (o ∷ os) v h = absurd h
  each_fits (t ∷ ts) [] v h = absurd h
  each_fits (t ∷ ts) (o ∷ os) v h = λ i. h.1 i ∷ each_fits ts os v h.3 i

  -- one of them
  pub one_fits : (ts : List Data) (os : List VariantMatch) (v : Data) → AllSay ts os v
      → each_says one_of (Some (read_data c (array (items_of ts)))) v ≡ verdict (exactly_one (map (λ (o : VariantMatch). o.fits) os))
  unfolding read_data
  one_fits ts os v h = rw (read_all ts os v h) (ap one_of (each_fits ts os v h) ∙ one_verdict (map (λ (o : VariantMatch). o.fits) os))

  judged_here : (t : Data) (o : VariantMatch) (v : Data) (k : Text) → (judge c t).fits v ≡ verdict o.fits
      → (o.fits ≡ true → (judge c t).judges v (key k) ≡ o.has_key k) → judged_by (judge c t) v (key k) ≡ o.fits && o.has_key k
  judged_here t o v k fit judges = ap (λ x. is_yes x && (judge c t).judges v (key k)) fit ∙ go o.fits judges
    where
      go : (b : Bool) → (b ≡ true → (judge c t).judges v (key k) ≡ o.has_key k) → is_yes (verdict b) && (judge c t).judges v (key k) ≡ b && o.has_key k
      go true h = h refl
      go false h = refl

  judged_some : (ts : List Data) (os : List VariantMatch) (v : Data) (k : Text) → AllSay ts os v
      → judged_by_some (map (judge c) ts) v (key k) ≡ claimed_by os k
  judged_some [] [] v k h = refl
  judged_some [] (o ∷ os) v k h = absurd h
  judged_some (t ∷ ts) [] v k h = absurd h
  judged_some (t ∷ ts) (o ∷ os) v k h = λ i. judged_here t o v k h.1 (h.2 k) i || judged_some ts os v k h.3 i

  pub judged_one : (ts : List Data) (os : List VariantMatch) (v : Data) (k : Text) → AllSay ts os v
      → judged_by_list (Some (read_data c (array (items_of ts)))) v (key k) ≡ claimed_by os k
  unfolding read_data
  judged_one ts os v k h = rw (read_all ts os v h) (judged_some ts os v k h)

  -- ---- as a schema of its own

  module _ (on : c.dialect.reads_unevaluated ≡ true) where
    pub object_fits : (ts : List Data) (os : List VariantMatch) (v : Data) → AllSay ts os v
        → (judge c (one_object ts)).fits v ≡ verdict (exactly_one (map (λ (o : VariantMatch). o.fits) os))
    object_fits ts os v h =
        let d = array (items_of ts) in
        ap (λ (j : Judge). j.fits v) (object-says c (lone d) (member (codes "oneOf") d no_members) (lone-has d))
        ∙ (says-fits c (lone d) on no_type v ∙ (both-yes _ ∙ one_fits ts os v h))

    pub object_judges : (ts : List Data) (os : List VariantMatch) (v : Data) (k : Text) → AllSay ts os v
        → (judge c (one_object ts)).judges v (key k) ≡ claimed_by os k
    object_judges ts os v k h =
        let d = array (items_of ts) in
        ap (λ (j : Judge). j.judges v (key k)) (object-says c (lone d) (member (codes "oneOf") d no_members) (lone-has d))
        ∙ (says-judges c (lone d) on v k ∙ (or-false _ ∙ (or-false _ ∙ judged_one ts os v k h)))
