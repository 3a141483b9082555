-- Borrowed texts, joined.
use Rattle.std.proofs.Common.{◌≡◌, ◌≤◌, ℕ, Bor, List, [], ◌∷◌, ◌++◌, map, drop, length, refl, sym, ap, ◌∙◌, append-nil}
use Rattle.schemars_types.proofs.Words.{drop_all, join_by, flat_map, Text}

behind_same : (sep : Text) (xs : List (Bor (List ℕ))) → flat_map (λ t. sep ++ t.now) xs ≡ flat_map (λ t. sep ++ t) (map (λ t. t.now) xs)
behind_same sep [] = refl
behind_same sep (x ∷ xs) = ap (λ t. (sep ++ x.now) ++ t) (behind_same sep xs)

join_same : (sep : Text) (xs : List (Bor (List ℕ))) → join_by (λ t. t.now) sep xs ≡ join_by (λ t. t) sep (map (λ t. t.now) xs)
join_same sep [] = refl
join_same sep (x ∷ xs) = ap (λ t. x.now ++ t) (behind_same sep xs)

-- the texts of all numbers, after a loop over them
pub all_joined : (sep : Text) (at : ℕ → Text) (numbers : List ℕ) (i : ℕ) (xs : List (Bor (List ℕ))) → length numbers ≤ i
    → map (λ t. t.now) xs ++ map at (drop i numbers) ≡ map at numbers
    → join_by (λ t. t.now) sep xs ≡ join_by (λ t. t) sep (map at numbers)
all_joined sep at numbers i xs end so_far =
    let texts = map (λ t. t.now) xs in
    let all : texts ≡ map at numbers =
    sym (append-nil texts) ∙ (ap (λ ns. texts ++ map at ns) (sym (drop_all i numbers end)) ∙ so_far) in
    join_same sep xs ∙ ap (join_by (λ t. t) sep) all
