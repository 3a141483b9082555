-- What is flattened.
use Rattle.std.proofs.Common.{◌≡◌, List, [], ◌∷◌, ◌++◌, Some, Bool, true, false, true≢false, refl, sym, ap, ◌∙◌}
use Rattle.schemars_plain.proofs.Words.{◌↔◌, IsTrue, not, AllByRecursion, Fields, Entry, struct, IsOpenStruct}

pub open_struct : (x : Fields) (e : Entry) → e.shape ≡ struct x → IsTrue (not x.closed) ↔ IsOpenStruct (Some e)
open_struct x e is = go x.closed refl
  where
    go : (b : Bool) → x.closed ≡ b → IsTrue (not b) ↔ IsOpenStruct (Some e)
    go true closed = (
      λ t. cc,
      λ p. let same : struct x ≡ struct p.0 = sym is ∙ p.1 in
          let fields : x ≡ p.0 = cc in
          absurd (true≢false (sym closed ∙ (ap (λ y. y.closed) fields ∙ p.2))),
    )
    go false closed = (λ t. (x, is, closed), λ p. refl)

-- what holds of each of two lists
pub all_append : {X : Type 0} (P : X → Type 0) (xs ys : List X)
    → AllByRecursion P xs → AllByRecursion P ys → AllByRecursion P (xs ++ ys)
all_append P [] ys first rest = rest
all_append P (x ∷ xs) ys first rest = (first.0, all_append P xs ys first.1 rest)

pub all_first : {X : Type 0} (P : X → Type 0) (xs ys : List X) → AllByRecursion P (xs ++ ys) → AllByRecursion P xs
all_first P [] ys h = tt
all_first P (x ∷ xs) ys h = (h.0, all_first P xs ys h.1)

pub all_rest : {X : Type 0} (P : X → Type 0) (xs ys : List X) → AllByRecursion P (xs ++ ys) → AllByRecursion P ys
all_rest P [] ys h = h
all_rest P (x ∷ xs) ys h = all_rest P xs ys h.1
