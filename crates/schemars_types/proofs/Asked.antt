-- The rows whose options a row's own depend on.
use Rattle.std.proofs.Common.{◌≡◌, ◌<◌, ◌∙◌, inl, inr, ℕ, zero, suc, List, [], ◌∷◌, Option, Some, None, length, get_or, map, Contains, refl, ap, sym, subst, arith}
use Rattle.schemars_types.proofs.Words.{option_and_then, option_map_or, Contains-append_left, Contains-append_right, Contains-append_cases, Shape, Entry, Tagging, by_name, by_nothing, by_tag, by_tag_and_content, Variant, Payload, no_payload, newtype_payload, tuple_payload, struct_payload, flattened_rows, payload_numbers, payload_flattened, payload_same, payload_same_by, payload_beside, of_variants, numbers_of, same_value_numbers, flattened_numbers, asked_numbers, option_of, variant_of, payload_of, Row, entry_at, RefersWithin, SameValueEdge, numbers_at, same_value_numbers_at, option_at, nothing_among}
use Rattle.schemars_shapes.specs.declared.variant.Variant as src-variant
use Rattle.schemars_shapes.specs.Shape as shape

same_of_payload : (p : Payload) (m : ℕ) → Contains (payload_same p) m → Contains (payload_numbers p) m
same_of_payload no_payload m c = c
same_of_payload (newtype_payload n) m c = c
same_of_payload (tuple_payload ns) m c = absurd (nothing_among m c)
same_of_payload (struct_payload x) m c = Contains-append_right (map (λ f. f.ty) x.list) (flattened_rows x) m c

pub flattened_of_payload : (p : Payload) (m : ℕ) → Contains (payload_flattened p) m → Contains (payload_numbers p) m
flattened_of_payload no_payload m c = c
flattened_of_payload (newtype_payload n) m c = absurd (nothing_among m c)
flattened_of_payload (tuple_payload ns) m c = absurd (nothing_among m c)
flattened_of_payload (struct_payload x) m c = Contains-append_right (map (λ f. f.ty) x.list) (flattened_rows x) m c

-- where each payload has more rows of the second kind, variants have
pub of_variants-more : (f g : Payload → List ℕ) → ((p : Payload) (m : ℕ) → Contains (f p) m → Contains (g p) m)
    → (xs : List Variant) (m : ℕ) → Contains (of_variants f xs) m → Contains (of_variants g xs) m
of_variants-more f g more [] m c = c
of_variants-more f g more (x ∷ xs) m c = elim (Contains-append_cases (f x.payload) (of_variants f xs) m c) [
  | inl here ↦ Contains-append_left (g x.payload) (of_variants g xs) m (more x.payload m here)
  | inr later ↦ Contains-append_right (g x.payload) (of_variants g xs) m (of_variants-more f g more xs m later)
]

same_by : (t : Tagging) (p : Payload) (m : ℕ) → Contains (payload_same_by t p) m → Contains (payload_numbers p) m
same_by by_name = flattened_of_payload
same_by by_nothing = same_of_payload
same_by (by_tag tag closed) = same_of_payload
same_by (by_tag_and_content tag content closed) = flattened_of_payload

beside_by : (t : Tagging) (p : Payload) (m : ℕ) → Contains (payload_beside t p) m → Contains (payload_numbers p) m
beside_by (by_tag tag closed) = same_of_payload
beside_by by_name = flattened_of_payload
beside_by by_nothing = flattened_of_payload
beside_by (by_tag_and_content tag content closed) = flattened_of_payload

pub same_number : (s : Shape) (m : ℕ) → Contains (same_value_numbers s) m → Contains (numbers_of s) m
same_number (shape.option i) m c = c
same_number (shape.newtype i) m c = c
same_number (shape.struct x) m c = Contains-append_right (map (λ f. f.ty) x.list) (flattened_rows x) m c
same_number (shape.enum tagging xs) m c = of_variants-more (payload_same_by tagging) payload_numbers (same_by tagging) xs m c
same_number _ m c = absurd (nothing_among m c)

pub flattened_number : (s : Shape) (m : ℕ) → Contains (flattened_numbers s) m → Contains (numbers_of s) m
flattened_number (shape.struct x) m c = Contains-append_right (map (λ f. f.ty) x.list) (flattened_rows x) m c
flattened_number (shape.enum tagging xs) m c = of_variants-more payload_flattened payload_numbers flattened_of_payload xs m c
flattened_number _ m c = absurd (nothing_among m c)

pub asked_number : (s : Shape) (m : ℕ) → Contains (asked_numbers s) m → Contains (numbers_of s) m
asked_number (shape.map_from key value) m c = Contains-append_left (key ∷ []) (value ∷ []) m c
asked_number (shape.struct x) m c = Contains-append_right (map (λ f. f.ty) x.list) (flattened_rows x) m c
asked_number (shape.enum tagging xs) m c = of_variants-more (payload_beside tagging) payload_numbers (beside_by tagging) xs m c
asked_number _ m c = absurd (nothing_among m c)

option_number : (s : Shape) (m : ℕ) → option_of s ≡ Some m → Contains (same_value_numbers s) m
option_number (shape.option n) m is = let here : n ≡ m = cc in (0, omega arith, here)
option_number _ m is = cc

-- they are ends of edges
pub asked : (rows : List Row) → RefersWithin rows → (n : ℕ) (e : Entry) → entry_at rows n ≡ Some e → (m : ℕ)
    → Contains (same_value_numbers e.shape) m → SameValueEdge rows n m
asked rows within n e at m c =
    let P : List ℕ → Type 0 = λ ns. Contains ns m in
    let same : same_value_numbers_at rows n
    ≡ same_value_numbers e.shape = ap (λ o. option_map_or (λ x. same_value_numbers x.shape) o []) at in
    let all : numbers_at rows n ≡ numbers_of e.shape = ap (λ o. option_map_or (λ x. numbers_of x.shape) o []) at in
    (subst P (sym same) c, within.within n m (subst P (sym all) (same_number e.shape m c)))

pub option_asked : (rows : List Row) → RefersWithin rows → (n m : ℕ) → option_at rows n ≡ Some m → SameValueEdge rows n m
option_asked rows within n m is = by (entry_at rows n) refl
  where
    by : (o : Option Entry) → entry_at rows n ≡ o → SameValueEdge rows n m
    by None at = let none : None ≡ Some m = sym (ap (option_and_then (λ e. option_of e.shape)) at) ∙ is in cc
    by (Some e) at =
        let here : option_of e.shape ≡ Some m = sym (ap (option_and_then (λ x. option_of x.shape)) at) ∙ is in
        asked rows within n e at m (option_number e.shape m here)

pub entry_low : (rows : List Row) (n : ℕ) (e : Entry) → entry_at rows n ≡ Some e → n < length rows
entry_low [] n e at = cc
entry_low (r ∷ rs) zero e at = omega arith
entry_low (r ∷ rs) (suc n) e at = omega (arith, entry_low rs n e at)

-- the member at a place is one of them
pub newtype_at : (vs : List src-variant.Variant) (i : ℕ) (v : src-variant.Variant) → v ≡ get_or vs i v → i < length vs → (m : ℕ)
    → payload_of v.payload ≡ newtype_payload m → Contains (of_variants payload_same (map variant_of vs)) m
newtype_at [] i v is low m same = absurd (omega arith)
newtype_at (w ∷ vs) zero v is low m same =
    let here : payload_of w.payload ≡ newtype_payload m = ap (λ x. payload_of x.payload) (sym is) ∙ same in
    Contains-append_left (payload_same (payload_of w.payload)) (of_variants payload_same (map variant_of vs)) m
    (subst (λ p. Contains (payload_same p) m) (sym here) (0, omega arith, refl))
newtype_at (w ∷ vs) (suc i) v is low m same =
    Contains-append_right (payload_same (payload_of w.payload)) (of_variants payload_same (map variant_of vs)) m
    (newtype_at vs i v is (omega arith) m same)
