-- Names of fields, of variants and of enums.
use Rattle.std.proofs.Common.{◌≡◌, ℕ, List, [], ◌∷◌, Option, Some, None, MatchOption, Bool, true, false, true≢false, String, Global, string_bytes, refl, sym, ap, ◌∙◌, map, ◌<◌, ◌+◌, ◌-◌, length, get_or, take, drop}
use Rattle.schemars_plain.proofs.Words.{◌↔◌, IsTrue, not, is_some, bytes_eq, bytes_eq_comm, AllByRecursion, IsDistinct, IsRepeated, never_repeated, AreDistinct, drop_more, take_rest, Text, Field, Variant, Row, flattened_in, part_enums, expanded_variant, enum_at, IsNoVariant, AreDistinctVariants, AreNoNames, AreApartFrom, AreApart}

-- ---- the flattened fields change no variant's name

no_variant_spread : (rows : List Row) (k : Text) (xs : List Variant)
    → IsNoVariant k xs ↔ IsNoVariant k (map (expanded_variant (flattened_in rows) (part_enums rows)) xs)
no_variant_spread rows k [] = (λ h. h, λ h. h)
no_variant_spread rows k (x ∷ xs) =
    let rest = no_variant_spread rows k xs in
    (λ h. (h.0, rest.0 h.1), λ h. (h.0, rest.1 h.1))

pub distinct_spread : (rows : List Row) (xs : List Variant)
    → AreDistinctVariants xs ↔ AreDistinctVariants (map (expanded_variant (flattened_in rows) (part_enums rows)) xs)
distinct_spread rows [] = (λ h. h, λ h. h)
distinct_spread rows (x ∷ xs) =
    let name = no_variant_spread rows x.name xs in
    let rest = distinct_spread rows xs in
    (λ h. (name.0 h.0, rest.0 h.1), λ h. (name.1 h.0, rest.1 h.1))

pub variants_said : (rows : List Row) (xs : List Variant)
    → map (λ x. x.name) xs ≡ map (λ x. x.name) (map (expanded_variant (flattened_in rows) (part_enums rows)) xs)
variants_said rows [] = refl
variants_said rows (x ∷ xs) = ap (λ ks. x.name ∷ ks) (variants_said rows xs)

-- ---- the names of enums

pub enums_said : (names : ℕ → List Text) (ns : List ℕ) → map names ns ≡ map (λ p. names p.ty) (map enum_at ns)
enums_said names [] = refl
enums_said names (n ∷ ns) = ap (λ ks. names n ∷ ks) (enums_said names ns)

-- one list is asked for itself, and for those after it
pub next_apart : {X : Type 0} (fs : List Field) (xs : List X) (names : X → List Text) (i : ℕ) (x : X) → i < length xs → x ≡ get_or xs i x
    → AreApart fs (map names (drop i xs))
    ↔ (AreNoNames fs (names x) × AreApartFrom (names x) (map names (take (length xs - (i + 1)) (drop (i + 1) xs)))
    × AreApart fs (map names (drop (i + 1) xs)))
next_apart fs xs names i x below is = rw (take_rest xs (i + 1), drop_more xs i x below, sym is) (λ h. h, λ h. h)

-- ---- names that all differ have none twice

apart_said : {A : Type 0} (name : A → Text) (k : Text) (xs : List A)
    → AllByRecursion (λ y. bytes_eq k y ≡ false) (map name xs) ↔ AllByRecursion (λ x. bytes_eq (name x) k ≡ false) xs
apart_said name k [] = (λ h. h, λ h. h)
apart_said name k (x ∷ xs) =
    let rest = apart_said name k xs in
    let turned = bytes_eq_comm k (name x) in
    (λ h. (sym turned ∙ h.0, rest.0 h.1), λ h. (turned ∙ h.0, rest.1 h.1))

fields_apart : (fs : List Field) → IsDistinct bytes_eq (map (λ f. f.name) fs) ↔ AreDistinct fs
unfolding IsDistinct
fields_apart [] = (λ h. h, λ h. h)
fields_apart (f ∷ fs) =
    let name = apart_said (λ (g : Field). g.name) f.name fs in
    let rest = fields_apart fs in
    (λ h. (name.0 h.0, rest.0 h.1), λ h. (name.1 h.0, rest.1 h.1))

variants_apart : (xs : List Variant) → IsDistinct bytes_eq (map (λ x. x.name) xs) ↔ AreDistinctVariants xs
unfolding IsDistinct
variants_apart [] = (λ h. h, λ h. h)
variants_apart (x ∷ xs) =
    let name = apart_said (λ (y : Variant). y.name) x.name xs in
    let rest = variants_apart xs in
    (λ h. (name.0 h.0, rest.0 h.1), λ h. (name.1 h.0, rest.1 h.1))

-- the answer is whether no name is met a second time
answered : (names : List Text) (r : Option (String Global)) (b : Bool) → is_some r ≡ not b
    → MatchOption r (IsDistinct bytes_eq names) (λ s. IsRepeated names (string_bytes s)) → IsTrue b ↔ IsDistinct bytes_eq names
answered names None true is h = (λ _. h, λ _. refl)
answered names None false is h = absurd (true≢false (sym is))
answered names (Some s) true is h = absurd (true≢false is)
answered names (Some s) false is h = (λ wrong. absurd (true≢false (sym wrong)), λ distinct. absurd (never_repeated names (string_bytes s) distinct h))

pub fields_differ : (fs : List Field) (r : Option (String Global)) (b : Bool) → is_some r ≡ not b
    → MatchOption r (IsDistinct bytes_eq (map (λ f. f.name) fs)) (λ s. IsRepeated (map (λ f. f.name) fs) (string_bytes s))
    → IsTrue b ↔ AreDistinct fs
fields_differ fs r b is h =
    let told = answered (map (λ (f : Field). f.name) fs) r b is h in
    let same = fields_apart fs in
    (λ b. same.0 (told.0 b), λ d. told.1 (same.1 d))

pub variants_differ : (xs : List Variant) (r : Option (String Global)) (b : Bool) → is_some r ≡ not b
    → MatchOption r (IsDistinct bytes_eq (map (λ x. x.name) xs)) (λ s. IsRepeated (map (λ x. x.name) xs) (string_bytes s))
    → IsTrue b ↔ AreDistinctVariants xs
variants_differ xs r b is h =
    let told = answered (map (λ (x : Variant). x.name) xs) r b is h in
    let same = variants_apart xs in
    (λ b. same.0 (told.0 b), λ d. told.1 (same.1 d))
