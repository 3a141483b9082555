-- Options that more steps and further rows leave as they are.
use Rattle.std.proofs.Common.{◌≡◌, ◌<◌, ◌≤◌, ◌∙◌, inl, inr, ℕ, zero, suc, List, [], ◌∷◌, Option, Some, None, length, take, Contains, refl, ap, sym, subst, arith}
use Rattle.schemars_types.proofs.Words.{option_map, option_and_then, option_map_or, cases_eq, Contains-append_left, Contains-append_right, Shape, Entry, Variant, Payload, newtype_payload, payload_same, of_variants, same_value_numbers, Row, entry_at, RefersWithin, rank, IsChecked, KeyOptions, any_text, or_any_text, either_options, member_options, members_options, shape_options, options_within, all_options, key_options, distinct_options}
use Rattle.schemars_shapes.specs.Shape as shape
use Rattle.schemars_types.proofs.Asked.{asked, entry_low}

-- ---- options depend on the rows that are asked alone

member_alike : (f g : ℕ → Option KeyOptions) (p : Payload) → ((m : ℕ) → Contains (payload_same p) m → f m ≡ g m)
    → member_options f p ≡ member_options g p
member_alike f g (newtype_payload n) h = h n (0, omega arith, refl)
member_alike f g _ h = refl

members_alike : (f g : ℕ → Option KeyOptions) (xs : List Variant) → ((m : ℕ) → Contains (of_variants payload_same xs) m → f m ≡ g m)
    → members_options f xs ≡ members_options g xs
members_alike f g [] h = refl
members_alike f g (x ∷ xs) h =
    let head : member_options f x.payload ≡ member_options g x.payload = member_alike f g x.payload
    (λ m c. h m (Contains-append_left (payload_same x.payload) (of_variants payload_same xs) m c)) in
    let tail : members_options f xs ≡ members_options g xs = members_alike f g xs
    (λ m c. h m (Contains-append_right (payload_same x.payload) (of_variants payload_same xs) m c)) in
    λ i. option_and_then (λ o. option_map (either_options o) (tail i)) (head i)

shape_alike : (f g : ℕ → Option KeyOptions) (s : Shape) → ((m : ℕ) → Contains (same_value_numbers s) m → f m ≡ g m)
    → shape_options f s ≡ shape_options g s
shape_alike f g (shape.newtype i) h = h i (0, omega arith, refl)
shape_alike f g (shape.enum shape.by_nothing []) h = refl
shape_alike f g (shape.enum shape.by_nothing (x ∷ xs)) h = ap (λ o. Some (or_any_text o)) (members_alike f g (x ∷ xs) h)
shape_alike f g _ h = refl

-- ---- more steps

stays : (rows : List Row) → IsChecked rows → (steps n : ℕ) → rank rows n < steps
    → options_within rows (suc steps) n ≡ options_within rows steps n
unfolding options_within
stays rows checked zero n low = absurd (omega arith)
stays rows checked (suc steps) n low = by (entry_at rows n) refl (stays rows checked steps)
  where
    by : (o : Option Entry) → entry_at rows n ≡ o
        → ((m : ℕ) → rank rows m < steps → options_within rows (suc steps) m ≡ options_within rows steps m)
        → option_map_or (λ e. shape_options (options_within rows (suc steps)) e.shape) o (Some any_text)
        ≡ option_map_or (λ e. shape_options (options_within rows steps) e.shape) o (Some any_text)
    by None at rest = refl
    by (Some e) at rest = shape_alike (options_within rows (suc steps)) (options_within rows steps) e.shape
        (λ m c. rest m (omega (arith, checked.rank_falls n m (asked rows checked.within n e at m c))))

settled : (rows : List Row) → IsChecked rows → (n few many : ℕ) → rank rows n < few → few ≤ many
    → options_within rows many n ≡ options_within rows few n
settled rows checked n few zero low more = absurd (omega arith)
settled rows checked n few (suc many) low more = elim (cases_eq few (suc many)) [
  | inl same ↦ ap (λ k. options_within rows k n) (sym same)
  | inr other ↦ stays rows checked many n (omega arith) ∙ settled rows checked n few many low (omega arith)
]

-- as many steps as there are rows are enough
pub enough_steps : (rows : List Row) → IsChecked rows → (n steps : ℕ) → n < length rows → length rows ≤ steps
    → options_within rows steps n ≡ all_options rows n
enough_steps rows checked n steps known more = settled rows checked n (length rows) steps (checked.rank_bound n known) more

no_options : (rows : List Row) (steps n : ℕ) → entry_at rows n ≡ None → options_within rows steps n ≡ Some any_text
unfolding options_within
no_options rows zero n none = refl
no_options rows (suc steps) n none = rw none refl

pub all_options-none : (rows : List Row) (n : ℕ) → entry_at rows n ≡ None → all_options rows n ≡ Some any_text
all_options-none rows n none = no_options rows (length rows) n none

one_more : (rows : List Row) (steps n : ℕ) (e : Entry) → entry_at rows n ≡ Some e
    → options_within rows (suc steps) n ≡ shape_options (options_within rows steps) e.shape
unfolding options_within
one_more rows steps n e at = rw at refl

-- the options of a row are those of its shape
pub all_options-shape : (rows : List Row) → IsChecked rows → (n : ℕ) (e : Entry) → entry_at rows n ≡ Some e
    → all_options rows n ≡ shape_options (all_options rows) e.shape
all_options-shape rows checked n e at =
    sym (enough_steps rows checked n (suc (length rows)) (entry_low rows n e at) (omega arith)) ∙ one_more rows (length rows) n e at

-- ---- further rows

pub entry_at-take : (k : ℕ) (rows : List Row) (n : ℕ) → n < k → entry_at (take k rows) n ≡ entry_at rows n
entry_at-take zero rows n low = absurd (omega arith)
entry_at-take (suc k) [] n low = refl
entry_at-take (suc k) (r ∷ rows) zero low = refl
entry_at-take (suc k) (r ∷ rows) (suc n) low = entry_at-take k rows n (omega arith)

pub length-take : (k : ℕ) (rows : List Row) → length (take k rows) ≤ length rows
length-take zero rows = omega arith
length-take (suc k) [] = omega arith
length-take (suc k) (r ∷ rows) = omega (arith, length-take k rows)

further_within : (rows more : List Row) → RefersWithin rows → take (length rows) more ≡ rows → (steps n : ℕ) → n < length rows
    → options_within more steps n ≡ options_within rows steps n
unfolding options_within
further_within rows more within first zero n known = refl
further_within rows more within first (suc steps) n known = by (entry_at rows n) refl (further_within rows more within first steps)
  where
    same : entry_at more n ≡ entry_at rows n
    same = sym (entry_at-take (length rows) more n known) ∙ ap (λ rs. entry_at rs n) first

    by : (o : Option Entry) → entry_at rows n ≡ o
        → ((m : ℕ) → m < length rows → options_within more steps m ≡ options_within rows steps m)
        → option_map_or (λ e. shape_options (options_within more steps) e.shape) (entry_at more n) (Some any_text)
        ≡ option_map_or (λ e. shape_options (options_within rows steps) e.shape) (entry_at rows n) (Some any_text)
    by None at rest = rw (same, at) refl
    by (Some e) at rest = rw (same, at) (shape_alike (options_within more steps) (options_within rows steps) e.shape
        (λ m c. rest m (asked rows within n e at m c).1))

-- what a row allows stays as rows join
pub further_rows : (rows more : List Row) → IsChecked rows → take (length rows) more ≡ rows → (n : ℕ) → n < length rows
    → key_options more n ≡ key_options rows n
further_rows rows more checked first n known =
    let longer : length rows ≤ length more =
    subst (λ (rs : List Row). length rs ≤ length more) first (length-take (length rows) more) in
    ap (λ o. distinct_options (or_any_text o)) (further_within rows more checked.within first (length more) n known
    ∙ enough_steps rows checked n (length more) known longer)
