-- Paths without what is stripped.
use Rattle.std.proofs.Common.{◌≡◌, ◌≢◌, ◌++◌, [], ◌∷◌, Bool, true, false, refl, ap}
use Rattle.schemars_headline.proofs.Words.{◌==◌, if◌then◌else◌, Text, eqb-true, without_hash, without_slash}

pub hash_gone : (path rest : Text) → path ≡ 35 ∷ rest → without_hash path ≡ rest
hash_gone path rest is = ap without_hash is

pub no_hash : (path : Text) → ((rest : Text) → path ≢ 35 ∷ rest) → without_hash path ≡ path
no_hash [] none = refl
no_hash (x ∷ xs) none = go (x == 35) refl
  where
    go : (b : Bool) → (x == 35) ≡ b → (if b then xs else x ∷ xs) ≡ x ∷ xs
    go true is = absurd (none xs (ap (λ y. y ∷ xs) (eqb-true x 35 is)))
    go false is = refl

pub slash_gone : (front : Text) → without_slash (front ++ 47 ∷ []) ≡ front
slash_gone [] = refl
slash_gone (x ∷ []) = refl
slash_gone (x ∷ y ∷ front) = ap (λ t. x ∷ t) (slash_gone (y ∷ front))

pub no_slash : (path : Text) → ((front : Text) → path ≢ front ++ 47 ∷ []) → without_slash path ≡ path
no_slash [] none = refl
no_slash (x ∷ []) none = go (x == 47) refl
  where
    go : (b : Bool) → (x == 47) ≡ b → (if b then [] else x ∷ []) ≡ x ∷ []
    go true is = absurd (none [] (ap (λ y. y ∷ []) (eqb-true x 47 is)))
    go false is = refl
no_slash (x ∷ y ∷ path) none = ap (λ t. x ∷ t) (no_slash (y ∷ path) (λ front is. none (x ∷ front) (ap (λ t. x ∷ t) is)))
