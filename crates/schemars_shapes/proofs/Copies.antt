-- Lists whose elements are copied one by one say the same.
use Rattle.std.proofs.Common.{◌≡◌, List, [], ◌∷◌, map, string_bytes, refl}
use Rattle.schemars_shapes.proofs.Words.{AllZip, member, view, members_view, Entry, field_of, flattened_of, variant_of, internal_variant_of}
use Rattle.schemars_shapes.specs.declared.shape.Field as src-field
use Rattle.schemars_shapes.specs.declared.shape.Flattened as src-flattened
use Rattle.schemars_shapes.specs.declared.variant.Variant as src-variant
use Rattle.schemars_shapes.specs.declared.variant.InternalVariant as src-internal_variant

pub members_view-copied : (es fs : List Entry) → AllZip (λ p q. (string_bytes q.0 ≡ string_bytes p.0) × (view q.1 ≡ view p.1)) es fs
    → members_view fs ≡ members_view es
members_view-copied [] [] h = refl
members_view-copied (e ∷ es) (f ∷ fs) h = λ i. member (h.0.0 i) (h.0.1 i) (members_view-copied es fs h.1 i)
members_view-copied [] (f ∷ fs) h = absurd h
members_view-copied (e ∷ es) [] h = absurd h

pub map_copied : {A B : Type 0} (f : A → B) (xs ys : List A) → AllZip (λ x y. f y ≡ f x) xs ys → map f ys ≡ map f xs
map_copied f [] [] h = refl
map_copied f (x ∷ xs) (y ∷ ys) h = λ i. h.0 i ∷ map_copied f xs ys h.1 i
map_copied f [] (y ∷ ys) h = absurd h
map_copied f (x ∷ xs) [] h = absurd h

pub map-field_of-copied : (fs gs : List src-field.Field) → AllZip (λ f g. field_of g ≡ field_of f) fs gs → map field_of gs ≡ map field_of fs
map-field_of-copied fs gs h = map_copied field_of fs gs h

pub map_variant_of_copied : (xs ys : List src-variant.Variant) → AllZip (λ x y. variant_of y ≡ variant_of x) xs ys
    → map variant_of ys ≡ map variant_of xs
map_variant_of_copied xs ys h = map_copied variant_of xs ys h

pub map_internal_variant_of_copied : (xs ys : List src-internal_variant.InternalVariant)
    → AllZip (λ x y. internal_variant_of y ≡ internal_variant_of x) xs ys → map internal_variant_of ys ≡ map internal_variant_of xs
map_internal_variant_of_copied xs ys h = map_copied internal_variant_of xs ys h

pub map_flattened_of_copied : (ps qs : List src-flattened.Flattened) → AllZip (λ p q. q ≡ p) ps qs
    → map flattened_of qs ≡ map flattened_of ps
map_flattened_of_copied [] [] h = refl
map_flattened_of_copied (p ∷ ps) (q ∷ qs) h = λ i. flattened_of (h.0 i) ∷ map_flattened_of_copied ps qs h.1 i
map_flattened_of_copied [] (q ∷ qs) h = absurd h
map_flattened_of_copied (p ∷ ps) [] h = absurd h
