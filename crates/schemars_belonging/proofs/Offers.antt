-- The keys that variants claim which fit.
use Rattle.std.proofs.Common.{◌≡◌, ℕ, zero, suc, List, [], ◌∷◌, ◌++◌, Option, Some, None, Bool, true, false, refl, sym, ap, ◌∙◌, map, append_assoc, drop, get_or, length, ◌<◌, ◌+◌}
use Rattle.schemars_belonging.proofs.Words.{drop_more, ◌&&◌, ◌||◌, is_some, bytes_eq, if◌then◌else◌, Data, is_listed, is_listed-append, bytes_eq_comm, Text, Shape, Entry, Field, Variant, enum, by_name, by_tag, entry_at, enum_at, expanded_shape_in, VariantMatch, exactly_one, every_part, field_named, tagged_fields, claimed_by, is_key_of_match, matches_of, external_choice, internal_choice, shape_choices, choices_within, Asked, has, offers, claimed, shape_claims, claims, all_claims, fits_of}

or_false : (b : Bool) → b || false ≡ b
or_false true = refl
or_false false = refl

claimed_listed : (choice : Variant → VariantMatch) (names : Variant → List Text) (k : Text)
    → ((x : Variant) → is_listed k (names x) ≡ (choice x).has_key k) → (xs : List Variant)
    → is_listed k (claimed (λ x. (choice x).fits) names xs) ≡ claimed_by (map choice xs) k
claimed_listed choice names k same [] = refl
claimed_listed choice names k same (x ∷ xs) =
    is_listed-append k (if (choice x).fits then names x else []) (claimed (λ y. (choice y).fits) names xs)
    ∙ (λ i. here (choice x).fits i || claimed_listed choice names k same xs i)
  where
    here : (b : Bool) → is_listed k (if b then names x else []) ≡ b && (choice x).has_key k
    here true = same x
    here false = refl

fields_listed : (k : Text) (fs : List Field) → is_listed k (map (λ f. f.name) fs) ≡ is_some (field_named fs k)
fields_listed k [] = refl
fields_listed k (f ∷ fs) = ap (λ b. b || is_listed k (map (λ g. g.name) fs)) (bytes_eq_comm k f.name)
    ∙ go (bytes_eq f.name k) (fields_listed k fs)
  where
    go : (b : Bool) → is_listed k (map (λ g. g.name) fs) ≡ is_some (field_named fs k)
        → b || is_listed k (map (λ g. g.name) fs) ≡ is_some (if b then Some f else field_named fs k)
    go true later = refl
    go false later = later

shape_listed : (a : Asked) (steps : ℕ) (s : Shape) (v : Data) (k : Text)
    → is_listed k (shape_claims a steps s v) ≡ claimed_by (shape_choices a.contract (has a steps) (offers a steps) s v) k
shape_listed a steps (enum by_name xs) v k = claimed_listed (external_choice a.contract (has a steps) (offers a steps) v)
    (λ x. x.name ∷ []) k
    (λ x. or_false (bytes_eq k x.name) ∙ bytes_eq_comm k x.name) xs
shape_listed a steps (enum (by_tag tag closed) xs) v k = claimed_listed (internal_choice a.contract (has a steps) tag v)
    (λ x. tag ∷ map (λ f. f.name) (tagged_fields x.payload)) k
    (λ x i. bytes_eq_comm k tag i || fields_listed k (tagged_fields x.payload) i) xs
shape_listed a steps _ v k = refl

row_listed : (a : Asked) (steps n : ℕ) (v : Data) (k : Text) → is_listed k (claims a steps n v) ≡ claimed_by (offers a steps n v) k
unfolding choices_within
row_listed a zero n v k = refl
row_listed a (suc steps) n v k = go (entry_at a.rows n)
  where
    go : (o : Option Entry)
        → is_listed k (elim o [ None ↦ [] | Some e ↦ shape_claims a steps (expanded_shape_in a.rows e.shape) v ])
        ≡ claimed_by
        (elim o [ None ↦ [] | Some e ↦ shape_choices a.contract (has a steps) (offers a steps) (expanded_shape_in a.rows e.shape) v ]) k
    go None = refl
    go (Some e) = shape_listed a steps (expanded_shape_in a.rows e.shape) v k

pub all_listed : (a : Asked) (steps : ℕ) (ns : List ℕ) (v : Data) (k : Text)
    → is_listed k (all_claims a steps ns v) ≡ is_key_of_match (matches_of (offers a steps) (map enum_at ns) v) k
all_listed a steps [] v k = refl
all_listed a steps (n ∷ ns) v k =
    is_listed-append k (claims a steps n v) (all_claims a steps ns v) ∙ (λ i. row_listed a steps n v k i || all_listed a steps ns v k i)

-- ---- one variant more

pub next_claims : (old new names rest whole : List Text) (b fits : Bool) → new ≡ old ++ (if b then names else []) → b ≡ fits
    → old ++ ((if fits then names else []) ++ rest) ≡ whole → new ++ rest ≡ whole
next_claims old new names rest whole b fits is same before =
    ap (λ ts. ts ++ rest) (is ∙ ap (λ k. old ++ (if k then names else [])) same)
    ∙ (append_assoc old (if fits then names else []) rest ∙ before)

pub next_part : (all new x one rest whole : Bool) → new ≡ all && x → x ≡ one → all && (one && rest) ≡ whole → new && rest ≡ whole
next_part all new x one rest whole is same before =
    ap (λ b. b && rest) (is ∙ ap (λ k. all && k) same) ∙ (sym (and_assoc all one rest) ∙ before)
  where
    and_assoc : (a b c : Bool) → a && (b && c) ≡ (a && b) && c
    and_assoc true b c = refl
    and_assoc false b c = refl

module _ (a : Asked) (steps : ℕ) (v : Data) (ns : List ℕ) (i d : ℕ) (below : i < length ns) where
  abbrev parts : List ℕ → Bool
  parts ms = every_part (matches_of (offers a steps) (map enum_at ms) v)

  pub next_enum : (all new x whole : Bool) → new ≡ all && x → x ≡ exactly_one (fits_of (offers a steps (get_or ns i d) v))
      → all && parts (drop i ns) ≡ whole → new && parts (drop (i + 1) ns) ≡ whole
  next_enum all new x whole is same before =
      next_part all new x (exactly_one (fits_of (offers a steps (get_or ns i d) v))) (parts (drop (i + 1) ns)) whole is same
      (sym (ap (λ (ms : List ℕ). all && parts ms) (drop_more ns i d below)) ∙ before)

  pub next_enum_claims : (found grown whole : List Text) → grown ≡ found ++ claims a steps (get_or ns i d) v
      → found ++ all_claims a steps (drop i ns) v ≡ whole → grown ++ all_claims a steps (drop (i + 1) ns) v ≡ whole
  next_enum_claims found grown whole is before =
      ap (λ ts. ts ++ all_claims a steps (drop (i + 1) ns) v) is
      ∙ (append_assoc found (claims a steps (get_or ns i d) v) (all_claims a steps (drop (i + 1) ns) v)
      ∙ (sym (ap (λ (ms : List ℕ). found ++ all_claims a steps ms v) (drop_more ns i d below)) ∙ before))
