-- Lists whose first element to read is the last.
use Rattle.std.proofs.Common.{◌≡◌, ◌-◌, ℕ, List, [], ◌∷◌, ◌++◌, length, reverse, ap, sym, ◌∙◌, arith, slice_set, slice_index_or}
use Rattle.std.proofs.lemmas.List.{reverse-append, reverse-reverse, length-append, length-reverse}
use Rattle.std.proofs.Math.Seq.{set-append_seam, get_or-append_seam}

pub reverse_added : {A : Type 0} (xs : List A) (x : A) → reverse (xs ++ x ∷ []) ≡ x ∷ reverse xs
reverse_added xs x = reverse-append xs (x ∷ [])

last_stands : {A : Type 0} (xs ds : List A) (d : A) → reverse xs ≡ d ∷ ds → xs ≡ reverse ds ++ d ∷ []
last_stands xs ds d is = sym (reverse-reverse xs) ∙ (ap reverse is ∙ reverse-append (d ∷ []) ds)

counted : {A : Type 0} (xs : List A) (x : A) → length (xs ++ x ∷ []) - 1 ≡ length xs
counted xs x = let e = length-append xs (x ∷ []) in omega (arith, e)

pub last_got : {A : Type 0} (xs ds : List A) (d z : A) (n : ℕ) → n ≡ length xs → reverse xs ≡ d ∷ ds → slice_index_or xs (n - 1) z ≡ d
last_got {A} xs ds d z n long is =
    let front = reverse ds in
    ap (λ k. slice_index_or xs (k - 1) z) long ∙ (ap (λ ys. slice_index_or ys (length ys - 1) z) (last_stands xs ds d is)
    ∙ (ap (λ k. slice_index_or (front ++ d ∷ []) k z) (counted front d) ∙ get_or-append_seam front d [] z))

pub last_set : {A : Type 0} (xs ds : List A) (d a : A) (n : ℕ) → n ≡ length xs → reverse xs ≡ d ∷ ds
    → reverse (slice_set xs (n - 1) a) ≡ a ∷ ds
last_set {A} xs ds d a n long is =
    let front = reverse ds in
    let there : slice_set (front ++ d ∷ []) (length (front ++ d ∷ []) - 1) a ≡ front ++ a ∷ [] =
    ap (λ k. slice_set (front ++ d ∷ []) k a) (counted front d) ∙ set-append_seam front d [] a in
    ap (λ k. reverse (slice_set xs (k - 1) a)) long ∙ (ap (λ ys. reverse (slice_set ys (length ys - 1) a)) (last_stands xs ds d is)
    ∙ (ap reverse there ∙ (reverse_added front a ∙ ap (λ ys. a ∷ ys) (reverse-reverse ds))))

pub none_reversed : {A : Type 0} (xs : List A) → reverse xs ≡ [] → length xs ≡ 0
none_reversed xs is = sym (length-reverse xs) ∙ ap length is
