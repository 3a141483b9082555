-- A loop over the entries of a map, and what calls give.
use Rattle.std.proofs.Common.{◌≡◌, ℕ, zero, suc, ◌<◌, ◌≤◌, get_or, drop, List, [], ◌∷◌, ◌++◌, length, Bool, true, false, Option, Some, None, Result, Ok, Err, IfOk, inl, inr, refl, sym, ap, ◌∙◌, subst, append_assoc, append-nil, arith}
use Rattle.schemars_written.proofs.Words.{All, IfSome, map, string_bytes, String, slice_index_or, All-push, All-head, All-tail, tokens, Log, read, AreTokensOf, IsTextOf, view, Text, Patterns, Field, fields_of, field_of, flattened_of, required_of, Payload, Tagging, struct_payload, by_tag, by_tag_and_content, shape_of, payload_of, variant_of, internal_payload_of, internal_variant_of, Row, IsChecked, Gives, MeansUnder, HasShape, HasList, HasPart, HasFields, NextField, NextOptional, LastField, HasOwnFields, HasStruct, HasVariant, HasVariantAt, BelongsUnder, BelongsAsReadUnder}
use Rattle.std.specs.declared.alloc.Global.{Global}
use Rattle.serde_json.specs.declared.value.Value.{Value}
use Rattle.schemars_shapes.specs.Shape as shape
use Rattle.schemars_shapes.specs.declared.variant.Variant as src-variant
use Rattle.schemars_shapes.specs.declared.variant.InternalVariant as src-internal
use Rattle.schemars_shapes.specs.declared.variant.Internal as src-inside
use Rattle.schemars_shapes.specs.declared.variant.Adjacent as src-beside
use Rattle.schemars_shapes.specs.declared.shape.Shape.TheVariants as src-shape
use Rattle.schemars_shapes.specs.declared.shape.Field as src-field
use Rattle.schemars_shapes.specs.declared.shape.Fields as src-fields
use Rattle.schemars_shapes.specs.declared.shape.Flattened as src-flattened
use Rattle.schemars_written.proofs.Final.{as_read}

-- of all, P holds of those before the rest
abbrev pub AllUpTo : {A : Type 0} → (A → Type 0) → List A → List A → Type 0
AllUpTo {A} P all rest = (done : List A) × (all ≡ done ++ rest) × All P done

pub AllUpTo-start : {A : Type 0} (P : A → Type 0) (all rest : List A) → rest ≡ all → AllUpTo P all rest
AllUpTo-start P all rest same = ([], sym same, λ k d low. absurd (omega arith))

pub AllUpTo-more : {A : Type 0} (P : A → Type 0) (all rest left : List A) (x : A) → AllUpTo P all rest → rest ≡ x ∷ left → P x
    → AllUpTo P all left
AllUpTo-more P all rest left x h step p =
    (h.0 ++ x ∷ [], h.1 ∙ ap (λ ys. h.0 ++ ys) step ∙ sym (append_assoc h.0 (x ∷ []) left), All-push P h.0 x h.2 p)

pub AllUpTo-all : {A : Type 0} (P : A → Type 0) (all rest : List A) → AllUpTo P all rest → rest ≡ [] → All P all
AllUpTo-all P all rest h none = subst (λ ys. All P ys) (sym (h.1 ∙ ap (λ ys. h.0 ++ ys) none ∙ append-nil h.0)) h.2

-- one that is left is among all
pub AllUpTo-next : {A : Type 0} (P : A → Type 0) (all rest left : List A) (x : A) → AllUpTo P all rest → rest ≡ x ∷ left → All P all → P x
AllUpTo-next P all rest left x h step whole = All-head P x left (later h.0 (subst (λ ys. All P ys) (h.1 ∙ ap (λ ys. h.0 ++ ys) step) whole))
  where
    later : (done : List _) → All P (done ++ x ∷ left) → All P (x ∷ left)
    later [] is = is
    later (y ∷ done) is = later done (All-tail P y (done ++ x ∷ left) is)

-- ---- rows

no_rows : (ps : List src-flattened.Flattened) → length ps ≡ 0 → map flattened_of ps ≡ []
no_rows [] h = refl
no_rows (p ∷ ps) h = absurd (omega arith)

pub has_list : (rows : List Row) (n : ℕ) (x : src-fields.Fields) → HasShape rows n (shape.struct (fields_of x)) → length x.flatten.items ≡ 0
    → (list : List src-field.Field) → list ≡ x.list.items → HasList rows n (map field_of list)
has_list rows n x is none list same = (
  x.closed,
  (
    is.0,
    is.1,
    is.2 ∙ ap (λ ps. shape.struct (record { list = map field_of x.list.items; flatten = ps; closed = x.closed }))
        (no_rows x.flatten.items none)
        ∙ ap (λ fs. shape.struct (record { list = map field_of fs; flatten = []; closed = x.closed })) (sym same),
  ),
)

-- one row is flattened
pub has_part : (rows : List Row) (n : ℕ) (x : src-fields.Fields) → HasShape rows n (shape.struct (fields_of x))
    → (parts : List src-flattened.Flattened) → parts ≡ x.flatten.items → length parts ≡ 1 → (list : List src-field.Field)
    → list ≡ x.list.items
    → (d : src-flattened.Flattened) → HasPart rows n (map field_of list) (slice_index_or parts 0 d).ty
has_part rows n x is [] same one list listed d = absurd (omega arith)
has_part rows n x is (p ∷ q ∷ ps) same one list listed d = absurd (omega arith)
has_part rows n x is (p ∷ []) same one list listed d = (
  x.closed,
  required_of p.required,
  (
    is.0,
    is.1,
    is.2 ∙ ap (λ ps. shape.struct (record { list = map field_of x.list.items; flatten = map flattened_of ps; closed = x.closed }))
        (sym same)
        ∙ ap (λ fs. shape.struct (record { list = map field_of fs; flatten = flattened_of p ∷ []; closed = x.closed })) (sym listed),
  ),
)

-- ---- results

pub value_belongs : {E : Type 0} {reading : Patterns → Type 0} (rows : List Row) → IsChecked rows → (n : ℕ) → n < length rows
    → (sends : Log → Log → Type 0) → Gives sends (MeansUnder reading rows n)
    → (r : Result Value E)
    → IfOk r (λ v. (log : Log) × (text : List ℕ) × sends (Some []) log × AreTokensOf true log (tokens text) × (read text ≡ Some (view v)))
    → IfOk r (λ v. BelongsUnder reading rows n (view v))
value_belongs rows checked n low sends given (Ok v) h = as_read true rows checked n low sends given h.0 h.1 h.2 h.3 (view v) h.4
value_belongs rows checked n low sends given (Err e) h = h

pub text_belongs : {E : Type 0} {reading : Patterns → Type 0} (rows : List Row) → IsChecked rows → (n : ℕ) → n < length rows
    → (sends : Log → Log → Type 0) → Gives sends (MeansUnder reading rows n)
    → (r : Result (String Global) E) → IfOk r (λ s. (log : Log) × sends (Some []) log × IsTextOf log (string_bytes s))
    → IfOk r (λ s. BelongsAsReadUnder reading rows n (string_bytes s))
text_belongs rows checked n low sends given (Ok s) h = as_read false rows checked n low sends given h.0 (string_bytes s) h.1 h.2.0
text_belongs rows checked n low sends given (Err e) h = h

-- ---- the fields of a row, by their places

drop_at : {A : Type 0} (xs : List A) (i : ℕ) (a : A) → i < length xs → a ≡ get_or xs i a → drop i xs ≡ a ∷ drop (suc i) xs
drop_at [] i a low is = absurd (omega arith)
drop_at (x ∷ xs) zero a low is = ap (λ y. y ∷ xs) (sym is)
drop_at (x ∷ xs) (suc i) a low is = drop_at xs i a (omega arith) is

none_left : {A : Type 0} (xs : List A) (i : ℕ) → length xs ≤ i → drop i xs ≡ []
none_left [] zero all = refl
none_left [] (suc i) all = refl
none_left (x ∷ xs) zero all = absurd (omega arith)
none_left (x ∷ xs) (suc i) all = none_left xs i (omega arith)

-- the field at place i, and those after it
pub field_at : (name : Text) (R : ℕ → Type 0) (others : List Field → Type 0) (xs : List src-field.Field) (i : ℕ) (a : src-field.Field)
    → a ≡ get_or xs i a → i < length xs → string_bytes a.name ≡ name → R a.ty → others (map field_of (drop (suc i) xs))
    → NextField name R others (map field_of (drop i xs))
field_at name R others xs i a is low named row more =
    subst (λ (ys : List src-field.Field). NextField name R others (map field_of ys)) (sym (drop_at xs i a low is)) (named, row, more)

-- the field at place i, which may be left out, and those after it
pub optional_at : (name : Text) (R : ℕ → Type 0) (others : List Field → Type 0) (xs : List src-field.Field) (i : ℕ) (a : src-field.Field)
    → a ≡ get_or xs i a → i < length xs → string_bytes a.name ≡ name → R a.ty → a.required.serialize ≡ false
    → others (map field_of (drop (suc i) xs)) → NextOptional name R others (map field_of (drop i xs))
optional_at name R others xs i a is low named row free more =
    subst (λ (ys : List src-field.Field). NextOptional name R others (map field_of ys)) (sym (drop_at xs i a low is))
    (named, row, free, more)

pub last_at : (xs : List src-field.Field) (i : ℕ) → length xs ≤ i → LastField (map field_of (drop i xs))
last_at xs i all = subst (λ (ys : List src-field.Field). LastField (map field_of ys)) (sym (none_left xs i all)) tt

pub to_fields : (rows : List Row) (n : ℕ) (P : List Field → Type 0) (xs : List src-field.Field) → HasList rows n (map field_of xs)
    → P (map field_of (drop 0 xs)) → HasFields rows n P
to_fields rows n P xs is p = (map field_of xs, is.0, is.1, p)

-- the fields of a variant
pub to_struct : (rows : List Row) (n : ℕ) (tagging : Tagging) (name : Text) (x : src-fields.Fields)
    → HasVariantAt rows n tagging name (struct_payload (fields_of x))
    → (xs : List src-field.Field) → HasOwnFields x (map field_of xs) → (P : List Field → Type 0) → P (map field_of (drop 0 xs))
    → HasStruct rows n tagging name P
to_struct rows n tagging name x row xs own P p =
    (map field_of xs, x.closed, (row.0, row.1, subst (λ y. HasVariant name (struct_payload y) row.0) own row.2), p)

-- ---- variants by their places

pub variant_at : (name : Text) (xs : List src-variant.Variant) (i : ℕ) (x : src-variant.Variant) → x ≡ get_or xs i x → i < length xs
    → string_bytes x.name ≡ name → HasVariant name (payload_of x.payload) (map variant_of xs)
variant_at name [] i x is low named = absurd (omega arith)
variant_at name (y ∷ ys) zero x is low named =
    inl (
      ap (λ (z : src-variant.Variant). string_bytes z.name) (sym is) ∙ named,
      ap (λ (z : src-variant.Variant). payload_of z.payload)
          (sym is),
    )
variant_at name (y ∷ ys) (suc i) x is low named = inr (variant_at name ys i x is (omega arith) named)

pub inside_at : (name : Text) (xs : List src-internal.InternalVariant) (i : ℕ) (x : src-internal.InternalVariant) → x ≡ get_or xs i x
    → i < length xs
    → string_bytes x.name ≡ name → HasVariant name (internal_payload_of x.payload) (map internal_variant_of xs)
inside_at name [] i x is low named = absurd (omega arith)
inside_at name (y ∷ ys) zero x is low named = inl (
  ap (λ (z : src-internal.InternalVariant). string_bytes z.name) (sym is) ∙ named,
  ap (λ (z : src-internal.InternalVariant). internal_payload_of z.payload) (sym is),
)
inside_at name (y ∷ ys) (suc i) x is low named = inr (inside_at name ys i x is (omega arith) named)

-- ---- variants of enums that are tagged by keys

pub inside_named : {B : Type 0} (rows : List Row) (n : ℕ) (x : src-inside.Internal) → HasShape rows n (shape_of (src-shape.Internal x))
    → (tag name : Text) → string_bytes x.tag ≡ tag → (xs : List src-internal.InternalVariant) → xs ≡ x.variants.items
    → (o : Option B) (f : B → Payload)
    → IfSome o (λ p. HasVariant name (f p) (map internal_variant_of xs))
    → IfSome o (λ p. (closed : Bool) × HasVariantAt rows n (by_tag tag closed) name (f p))
inside_named rows n x is tag name tagged xs same None f has = has
inside_named rows n x is tag name tagged xs same (Some p) f has = (
  x.closed,
  (
    map internal_variant_of x.variants.items,
    subst (λ (t : Text). HasShape rows n (shape.enum (by_tag t x.closed) (map internal_variant_of x.variants.items))) tagged is,
    subst (λ ys. HasVariant name (f p) (map internal_variant_of ys)) same has,
  ),
)

pub beside_named : {B : Type 0} (rows : List Row) (n : ℕ) (x : src-beside.Adjacent) → HasShape rows n (shape_of (src-shape.Adjacent x))
    → (tag content name : Text) → string_bytes x.tag ≡ tag → string_bytes x.content ≡ content
    → (xs : List src-variant.Variant) → xs ≡ x.variants.items → (o : Option B) (f : B → Payload)
    → IfSome o (λ p. HasVariant name (f p) (map variant_of xs))
    → IfSome o (λ p. (closed : Bool) × HasVariantAt rows n (by_tag_and_content tag content closed) name (f p))
beside_named rows n x is tag content name tagged keyed xs same None f has = has
beside_named rows n x is tag content name tagged keyed xs same (Some p) f has = (
  x.closed,
  (
    map variant_of x.variants.items,
    subst (λ (k : Text). HasShape rows n (shape.enum (by_tag_and_content tag k x.closed) (map variant_of x.variants.items))) keyed
        (subst (λ (t : Text). HasShape rows n
        (shape.enum (by_tag_and_content t (string_bytes x.content) x.closed) (map variant_of x.variants.items))) tagged is),
    subst (λ ys. HasVariant name (f p) (map variant_of ys)) same has,
  ),
)
