-- The last of several fields or variants is annotated: what they are then, and that their numbers are the same.
use Rattle.std.proofs.Common.{◌≡◌, ◌+◌, ℕ, zero, suc, List, [], ◌∷◌, ◌++◌, length, map, find, nat_le, None, refl, ap, sym, subst, ◌∙◌, arith, slice_set, slice_index_or, Result, Ok, Err, OnOk, OnErr}
use Rattle.schemars_impls.proofs.Words.{Data, Text, Field, Variant, payload_numbers, variant_numbers, Row, FieldsAreKnown, VariantsAreKnown, at_last, noted_field, noted_variant}

-- The last element is replaced by one that shows as its change.
pub last-changed : {A B : Type 0} (show : A → B) (change : B → B) (xs : List A) (i : ℕ) (x e : A) → i + 1 ≡ length xs
    → x ≡ slice_index_or xs i x → show e ≡ change (show x) → map show (slice_set xs i e) ≡ at_last change (map show xs)
last-changed show change [] i x e long at is = absurd (omega (arith, long))
last-changed show change (y ∷ []) zero x e long at is = ap (λ b. b ∷ []) (is ∙ ap (λ a. change (show a)) at)
last-changed show change (y ∷ []) (suc i) x e long at is = absurd (omega (arith, long))
last-changed show change (y ∷ z ∷ zs) zero x e long at is = absurd (omega (arith, long))
last-changed show change (y ∷ z ∷ zs) (suc i) x e long at is =
    ap (λ bs. show y ∷ bs) (last-changed show change (z ∷ zs) i x e (omega (arith, long)) at is)

-- An element is replaced by one that shows as itself.
pub same-shown : {A B : Type 0} (show : A → B) (xs : List A) (i : ℕ) (x e : A) → x ≡ slice_index_or xs i x → show e ≡ show x
    → map show (slice_set xs i e) ≡ map show xs
same-shown show [] i x e at is = refl
same-shown show (y ∷ ys) zero x e at is = ap (λ b. b ∷ map show ys) (is ∙ ap show at)
same-shown show (y ∷ ys) (suc i) x e at is = ap (λ bs. show y ∷ bs) (same-shown show ys i x e at is)

-- What follows from what a call answers where it succeeds, and where it does not.
pub if-ok : {A E : Type 0} (r : Result A E) {P Q : Type 0} → (P → Q) → OnOk r P → OnOk r Q
if-ok (Ok a) f h = f h
if-ok (Err e) f h = tt

pub if-err : {A E : Type 0} (r : Result A E) {P Q : Type 0} → (P → Q) → OnErr r P → OnErr r Q
if-err (Ok a) f h = tt
if-err (Err e) f h = f h

types-noted : (key : Text) (value : Data) (fields : List Field) → map (λ f. f.ty) (at_last (noted_field key value) fields)
    ≡ map (λ f. f.ty) fields
types-noted key value [] = refl
types-noted key value (f ∷ []) = refl
types-noted key value (f ∷ g ∷ fs) = ap (λ ns. f.ty ∷ ns) (types-noted key value (g ∷ fs))

numbers-noted : (key : Text) (value : Data) (xs : List Variant) → variant_numbers (at_last (noted_variant key value) xs) ≡ variant_numbers xs
numbers-noted key value [] = refl
numbers-noted key value (x ∷ []) = refl
numbers-noted key value (x ∷ y ∷ xs) = ap (λ ns. payload_numbers x.payload ++ ns) (numbers-noted key value (y ∷ xs))

pub fields_noted : (key : Text) (value : Data) (before after : List Field) → after ≡ at_last (noted_field key value) before → (rows : List Row)
    → FieldsAreKnown rows before → FieldsAreKnown rows after
fields_noted key value before after is rows h = record {
  known = subst (λ ns. find (λ m. nat_le (length rows) m) ns ≡ None) (sym (ap (map (λ f. f.ty)) is ∙ types-noted key value before)) h.known;
}

pub variants_noted : (key : Text) (value : Data) (before after : List Variant) → after ≡ at_last (noted_variant key value) before
    → (rows : List Row) → VariantsAreKnown rows before → VariantsAreKnown rows after
variants_noted key value before after is rows h = record {
  known = subst (λ ns. find (λ m. nat_le (length rows) m) ns ≡ None) (sym (ap variant_numbers is ∙ numbers-noted key value before)) h.known;
}
