-- More references leave a verdict that is not open as it is.
use Rattle.std.proofs.Common.{◌≡◌, List, [], ◌∷◌, refl}
use Rattle.schemars_schema.specs.Verdict.{Verdict, Yes, No, Open, both, opposite, all_of, none_of, any_of, one_of}

-- the second is the first, unless that is open
abbrev pub Kept : Verdict → Verdict → Type 0
Kept Open y = Unit {0}
Kept Yes y = y ≡ Yes
Kept No y = y ≡ No

pub kept-same : (x : Verdict) → Kept x x
kept-same Yes = refl
kept-same No = refl
kept-same Open = tt

pub kept-both : (a x b y : Verdict) → Kept a x → Kept b y → Kept (both a b) (both x y)
kept-both Open x b y h i = tt
kept-both Yes x Yes y h i = rw (h, i) refl
kept-both Yes x No y h i = rw (h, i) refl
kept-both Yes x Open y h i = tt
kept-both No x Yes y h i = rw (h, i) refl
kept-both No x No y h i = rw (h, i) refl
kept-both No x Open y h i = tt

pub kept-opposite : (a x : Verdict) → Kept a x → Kept (opposite a) (opposite x)
kept-opposite Open x h = tt
kept-opposite Yes x h = rw h refl
kept-opposite No x h = rw h refl

abbrev pub AllKept : List Verdict → List Verdict → Type 0
AllKept [] [] = Unit {0}
AllKept [] (y ∷ ys) = ⊥
AllKept (x ∷ xs) [] = ⊥
AllKept (x ∷ xs) (y ∷ ys) = Kept x y × AllKept xs ys

pub kept-all_of : (xs ys : List Verdict) → AllKept xs ys → Kept (all_of xs) (all_of ys)
kept-all_of [] [] h = refl
kept-all_of [] (y ∷ ys) h = absurd h
kept-all_of (x ∷ xs) [] h = absurd h
kept-all_of (x ∷ xs) (y ∷ ys) h = kept-both x y (all_of xs) (all_of ys) h.0 (kept-all_of xs ys h.1)

pub kept-none_of : (xs ys : List Verdict) → AllKept xs ys → Kept (none_of xs) (none_of ys)
kept-none_of [] [] h = refl
kept-none_of [] (y ∷ ys) h = absurd h
kept-none_of (x ∷ xs) [] h = absurd h
kept-none_of (x ∷ xs) (y ∷ ys) h =
    kept-both (opposite x) (opposite y) (none_of xs) (none_of ys) (kept-opposite x y h.0) (kept-none_of xs ys h.1)

pub kept-any_of : (xs ys : List Verdict) → AllKept xs ys → Kept (any_of xs) (any_of ys)
kept-any_of xs ys h = kept-opposite (none_of xs) (none_of ys) (kept-none_of xs ys h)

pub kept-one_of : (xs ys : List Verdict) → AllKept xs ys → Kept (one_of xs) (one_of ys)
kept-one_of [] [] h = refl
kept-one_of [] (y ∷ ys) h = absurd h
kept-one_of (x ∷ xs) [] h = absurd h
kept-one_of (Yes ∷ xs) (y ∷ ys) h = rw (h.0) (kept-none_of xs ys h.1)
kept-one_of (No ∷ xs) (y ∷ ys) h = rw (h.0) (kept-one_of xs ys h.1)
kept-one_of (Open ∷ xs) (y ∷ ys) h = tt
