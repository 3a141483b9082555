-- Each keyword that is not read is told once.
use Rattle.std.proofs.Common.{◌≡◌, List, [], ◌∷◌, ◌++◌, true, false, refl, ap, ◌∙◌}
use Rattle.schemars_readable.proofs.Words.{◌||◌, ◌&&◌, if◌then◌else◌, bytes_eq, string_bytes, Text, told, is_told, has_pair, with_new}
use Rattle.schemars_readable.specs.declared.refusal.Unread.{Unread}

abbrev Pair : Type 0
Pair = Text × Text

pub told_more : (ps xs ys : List Pair) → with_new ps (xs ++ ys) ≡ with_new (with_new ps xs) ys
told_more ps [] ys = refl
told_more ps (x ∷ xs) ys = told_more (if has_pair ps x then ps else ps ++ x ∷ []) xs ys

pub told_pairs : (us : List Unread) (place k : Text) → is_told us place k ≡ has_pair (told us) (place, k)
told_pairs [] place k = refl
told_pairs (u ∷ us) place k =
    ap (λ b. (bytes_eq (string_bytes u.place) place && bytes_eq (string_bytes u.keyword) k) || b) (told_pairs us place k)

-- a keyword that was told, and a new one
pub told_again : (us : List Unread) (place k : Text) → is_told us place k ≡ true → told us ≡ with_new (told us) ((place, k) ∷ [])
told_again us place k h = rw (← told_pairs us place k, h) refl

told_added : (us : List Unread) (u : Unread) → told (us ++ u ∷ []) ≡ told us ++ (string_bytes u.place, string_bytes u.keyword) ∷ []
told_added [] u = refl
told_added (v ∷ us) u = ap (λ ps. (string_bytes v.place, string_bytes v.keyword) ∷ ps) (told_added us u)

pub told_new : (us : List Unread) (u : Unread) (place k : Text) → string_bytes u.place ≡ place → string_bytes u.keyword ≡ k
    → is_told us place k ≡ false → told (us ++ u ∷ []) ≡ with_new (told us) ((place, k) ∷ [])
told_new us u place k at of h =
    told_added us u
    ∙ ap (λ p. told us ++ (p, string_bytes u.keyword) ∷ []) at
    ∙ ap (λ w. told us ++ (place, w) ∷ []) of
    ∙ rw (← told_pairs us place k, h) refl
