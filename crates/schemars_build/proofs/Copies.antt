-- Names and rows that are copied one by one say the same.
use Rattle.std.proofs.Common.{◌≡◌, List, [], ◌∷◌, length, suc, String, Global, string_bytes, refl}
use Rattle.schemars_build.proofs.Words.{AllZip, naming_of}
use Rattle.schemars_build.specs.declared.names.Owner.{Owner}

pub as_long : {A : Type 0} (Q : A → A → Type 0) (xs ys : List A) → AllZip Q xs ys → length ys ≡ length xs
as_long Q [] [] h = refl
as_long Q (x ∷ xs) (y ∷ ys) h = λ i. suc (as_long Q xs ys h.1 i)
as_long Q [] (y ∷ ys) h = absurd h
as_long Q (x ∷ xs) [] h = absurd h

pub equal_copied : {A : Type 0} (xs ys : List A) → AllZip (λ x y. y ≡ x) xs ys → ys ≡ xs
equal_copied [] [] h = refl
equal_copied (x ∷ xs) (y ∷ ys) h = λ i. h.0 i ∷ equal_copied xs ys h.1 i
equal_copied [] (y ∷ ys) h = absurd h
equal_copied (x ∷ xs) [] h = absurd h

pub names_copied : (owners copies : List Owner) (given texts : List (String Global)) → AllZip (λ x y. y ≡ x) owners copies
    → AllZip (λ s t. string_bytes t ≡ string_bytes s) given texts → naming_of copies texts ≡ naming_of owners given
names_copied [] [] given texts h g = refl
names_copied (o ∷ owners) (p ∷ copies) [] [] h g = refl
names_copied (o ∷ owners) (p ∷ copies) (s ∷ given) (t ∷ texts) h g =
    λ i. (record { row = (h.0 i).row; contract = (h.0 i).contract; name = g.0 i }) ∷ names_copied owners copies given texts h.1 g.1 i
names_copied (o ∷ owners) (p ∷ copies) [] (t ∷ texts) h g = absurd g
names_copied (o ∷ owners) (p ∷ copies) (s ∷ given) [] h g = absurd g
names_copied [] (p ∷ copies) given texts h g = absurd h
names_copied (o ∷ owners) [] given texts h g = absurd h
