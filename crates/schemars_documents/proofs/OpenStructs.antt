-- In a plain table only structs that must be present are flattened: no row has another meaning, and the table is plain under each
-- contract.
use Rattle.std.proofs.Common.{◌≡◌, ℕ, zero, suc, List, [], ◌∷◌, ◌++◌, map, Option, Some, None, Bool, false, refl, sym, ap, ◌∙◌, subst, true≢false, length}
use Rattle.schemars_documents.proofs.Words.{fun_ext, if◌then◌else◌, is_some, option_and_then, ◌&&◌, ◌||◌, not, ◌+◌, ◌*◌, list_any, option_map_or, Data, Members, depth, Text, Patterns, Shape, Field, Flattened, Fields, Tagging, Payload, Variant, option_of, no_payload, newtype_payload, tuple_payload, struct_payload, KeyOptions, key_options, Row, entry_at, option_at, without_options_within, without_options, flattened_fields, required_only_if, part_fields, shape_fields, fields_within, row_fields, flattened_enums, shape_enums, enums_within, part_enums, enum_at, expanded_fields, expanded_payload, expanded_variant, expanded_shape_in, VariantMatch, is_required, has_payload, has_variant, has_shape, belongs_within, choices_within, belongs, joined_fields, joined_payload, joined_variant, joined_shape, struct_fields_within, joined_in, no_choices, belongs_plainly_within, belongs_plainly, IsTagged, AreTagged, HasContent, HaveContents, ShapeHasContents, IsNoContent, IsPlainContent, IsPlainShape, IsOpenStruct, IsPlainPart, ArePlainParts, IsPlainEntry, IsPlainTable, parts_in, payload_parts, variant_parts, PayloadHasNamesApart, VariantsHaveNamesApart, ShapeHasNamesApart, enum_names_at, may_miss, IsPartShape, IsPartEntry, IsPartUnder, ArePartsUnder, IsEntryUnder, IsPlainUnder}
use Rattle.schemars_shapes.specs.Shape as shape
use Rattle.schemars_shapes.specs.Shape.{Entry}
use Rattle.schemars_types.specs.declared.contract.Contract.{Contract}

-- ---- what is flattened stands for itself

pub no_option : (o : Option Entry) → IsOpenStruct o → option_and_then (λ e. option_of e.shape) o ≡ None
no_option None is = absurd is
no_option (Some e) is = ap option_of is.1

-- a row that is no Option stands for itself
pub stands : (rows : List Row) (n steps : ℕ) → option_at rows n ≡ None → without_options_within rows steps n ≡ n
stands rows n zero none = refl
stands rows n (suc steps) none = ap (λ o. elim o [ None ↦ n | Some m ↦ without_options_within rows steps m ]) none

pub parts_apart : (rows : List Row) (ps qs : List Flattened) → ArePlainParts rows (ps ++ qs)
    → ArePlainParts rows ps × ArePlainParts rows qs
parts_apart rows [] qs h = (tt, h)
parts_apart rows (p ∷ ps) qs h = let later = parts_apart rows ps qs h.1 in ((h.0, later.0), later.1)

module _ (rows : List Row) where
  pub bare : (p : Flattened) → IsPlainPart rows p → (option_at rows p.ty ≡ None) × (without_options rows p.ty ≡ p.ty)
  bare p h =
      let none : option_at rows p.ty ≡ None = no_option (entry_at rows p.ty) h.0 in
      (none, stands rows p.ty (length rows) none)

  pub part_same : (own : ℕ → List Field) (p : Flattened) → IsPlainPart rows p → part_fields rows own p ≡ own p.ty
  part_same own p h =
      let b = bare p h in
      ap (λ o. if is_some o then map (required_only_if p.required) (own (without_options rows p.ty)) else own (without_options rows p.ty)) b.0
      ∙ ap own b.1

  flattened_same : (f g : ℕ → List Field) → ((n : ℕ) → f n ≡ g n) → (ps : List Flattened) → ArePlainParts rows ps
      → flattened_fields (part_fields rows f) ps ≡ flattened_fields (λ p. g p.ty) ps
  flattened_same f g same [] h = refl
  flattened_same f g same (p ∷ ps) h = λ i. (part_same f p h.0 ∙ same p.ty) i ++ flattened_same f g same ps h.1 i

  shape_same : (f g : ℕ → List Field) → ((n : ℕ) → f n ≡ g n) → (s : Shape) → ArePlainParts rows (parts_in s)
      → shape_fields (part_fields rows f) s ≡ shape_fields (λ p. g p.ty) s
  shape_same f g same (shape.struct x) h = ap (λ ys. x.list ++ ys) (flattened_same f g same x.flatten h)
  shape_same f g same s h = refl

  -- no enum is flattened
  no_enums_in : (part : Flattened → List ℕ) (ps : List Flattened) → ArePlainParts rows ps
      → ((p : Flattened) → IsPlainPart rows p → part p ≡ []) → flattened_enums part ps ≡ []
  no_enums_in part [] h none = refl
  no_enums_in part (p ∷ ps) h none = λ i. none p h.0 i ++ no_enums_in part ps h.1 none i

  module _ (plain : IsPlainTable rows) where
    fields_same : (steps n : ℕ) → fields_within rows steps n ≡ struct_fields_within rows steps n
    unfolding fields_within struct_fields_within
    fields_same zero n = refl
    fields_same (suc steps) n = go (entry_at rows n) (plain n) (fields_same steps)
      where
        go : (o : Option Entry) → IsPlainEntry rows o → ((m : ℕ) → fields_within rows steps m ≡ struct_fields_within rows steps m)
            → option_map_or (λ e. shape_fields (part_fields rows (fields_within rows steps)) e.shape) o []
            ≡ option_map_or (λ e. shape_fields (λ p. struct_fields_within rows steps p.ty) e.shape) o []
        go None h same = refl
        go (Some e) h same = shape_same (fields_within rows steps) (struct_fields_within rows steps) same e.shape h.2

    open_no_enums : (steps n : ℕ) → IsOpenStruct (entry_at rows n) → enums_within rows steps n ≡ []
    unfolding enums_within
    open_no_enums zero n is = refl
    open_no_enums (suc steps) n is = go (entry_at rows n) is (plain n)
        (λ p h. ap (enums_within rows steps) (bare p h).1 ∙ open_no_enums steps p.ty h.0)
      where
        go : (o : Option Entry) → IsOpenStruct o → IsPlainEntry rows o
            → ((p : Flattened) → IsPlainPart rows p → enums_within rows steps (without_options rows p.ty) ≡ [])
            → option_map_or (λ e. shape_enums (λ p. enums_within rows steps (without_options rows p.ty)) n e.shape) o [] ≡ []
        go None is h none = absurd is
        go (Some e) is h none =
            ap (shape_enums (λ p. enums_within rows steps (without_options rows p.ty)) n) is.1
            ∙ no_enums_in (λ p. enums_within rows steps (without_options rows p.ty)) is.0.flatten
            (subst (λ k. ArePlainParts rows (parts_in k)) is.1 h.2) none

    pub part_no_enums : (p : Flattened) → IsPlainPart rows p → part_enums rows p ≡ []
    part_no_enums p h = ap (enums_within rows (length rows)) (bare p h).1 ∙ open_no_enums (length rows) p.ty h.0

    -- ---- shapes

    abbrev F : Flattened → List Field
    F = part_fields rows (row_fields rows)

    fields_join : (x : Fields) → ArePlainParts rows x.flatten → expanded_fields F (part_enums rows) x ≡ joined_fields F x
    fields_join x h =
        ap (λ ns. record { list = x.list ++ flattened_fields F x.flatten; flatten = map enum_at ns; closed = x.closed })
        (no_enums_in (part_enums rows) x.flatten h part_no_enums)

    payload_join : (p : Payload) → ArePlainParts rows (payload_parts p) → expanded_payload F (part_enums rows) p ≡ joined_payload F p
    payload_join (struct_payload x) h = ap struct_payload (fields_join x h)
    payload_join _ h = refl

    variants_join : (xs : List Variant) → ArePlainParts rows (variant_parts xs)
        → map (expanded_variant F (part_enums rows)) xs ≡ map (joined_variant F) xs
    variants_join [] h = refl
    variants_join (x ∷ xs) h =
        let each = parts_apart rows (payload_parts x.payload) (variant_parts xs) h in
        λ i. record { name = x.name; payload = payload_join x.payload each.0 i; notes = x.notes } ∷ variants_join xs each.1 i

    -- nothing is left to flatten
    pub expanded_joins : (s : Shape) → ArePlainParts rows (parts_in s) → expanded_shape_in rows s ≡ joined_shape F s
    expanded_joins (shape.struct x) h = ap shape.struct (fields_join x h)
    expanded_joins (shape.enum tagging xs) h = ap (shape.enum tagging) (variants_join xs h)
    expanded_joins s h = refl

    abbrev G : Flattened → List Field
    G p = struct_fields_within rows (length rows) p.ty

    fields_plainly : (x : Fields) → ArePlainParts rows x.flatten → joined_fields F x ≡ joined_fields G x
    fields_plainly x h =
        ap (λ ys. record { list = x.list ++ ys; flatten = []; closed = x.closed })
        (flattened_same (row_fields rows) (struct_fields_within rows (length rows)) (fields_same (length rows)) x.flatten h)

    payload_plainly : (p : Payload) → ArePlainParts rows (payload_parts p) → joined_payload F p ≡ joined_payload G p
    payload_plainly (struct_payload x) h = ap struct_payload (fields_plainly x h)
    payload_plainly _ h = refl

    variants_plainly : (xs : List Variant) → ArePlainParts rows (variant_parts xs) → map (joined_variant F) xs ≡ map (joined_variant G) xs
    variants_plainly [] h = refl
    variants_plainly (x ∷ xs) h =
        let each = parts_apart rows (payload_parts x.payload) (variant_parts xs) h in
        λ i. record { name = x.name; payload = payload_plainly x.payload each.0 i; notes = x.notes } ∷ variants_plainly xs each.1 i

    shape_plainly : (s : Shape) → ArePlainParts rows (parts_in s) → joined_shape F s ≡ joined_in rows s
    shape_plainly (shape.struct x) h = ap shape.struct (fields_plainly x h)
    shape_plainly (shape.enum tagging xs) h = ap (shape.enum tagging) (variants_plainly xs h)
    shape_plainly s h = refl

-- ---- the meaning of a shape into which nothing is flattened

module _ (contract : Contract) (C : ℕ → Data → List VariantMatch) (P : ℕ → Data → Bool) (part : Flattened → List Field) where
  payload_means : (p : Payload) (v : Data) → has_payload contract P C (joined_payload part p) v
      ≡ has_payload contract P no_choices (joined_payload part p) v
  payload_means no_payload v = refl
  payload_means _ v = refl

  variant_means : (tagging : Tagging) (name : Text) (p : Payload) (notes : Members) (v : Data)
      → has_variant contract P C tagging v (record { name = name; payload = joined_payload part p; notes = notes })
      ≡ has_variant contract P no_choices tagging v (record { name = name; payload = joined_payload part p; notes = notes })
  variant_means shape.by_name name no_payload notes v = refl
  variant_means shape.by_name name _ notes v = refl
  variant_means shape.by_nothing name p notes v = payload_means p v
  variant_means (shape.by_tag tag closed) name no_payload notes v = refl
  variant_means (shape.by_tag tag closed) name _ notes v = refl
  variant_means (shape.by_tag_and_content tag key closed) name no_payload notes v = refl
  variant_means (shape.by_tag_and_content tag key closed) name _ notes v = refl

  any_variant : (tagging : Tagging) (xs : List Variant) (v : Data)
      → list_any (has_variant contract P C tagging v) (map (joined_variant part) xs)
      ≡ list_any (has_variant contract P no_choices tagging v) (map (joined_variant part) xs)
  any_variant tagging [] v = refl
  any_variant tagging (x ∷ xs) v = λ i. variant_means tagging x.name x.payload x.notes v i || any_variant tagging xs v i

  pub shape_means : (patterns : Patterns) (keys : ℕ → KeyOptions) (s : Shape) (v : Data)
      → has_shape contract patterns keys C P (joined_shape part s) v ≡ has_shape contract patterns keys no_choices P (joined_shape part s) v
  shape_means patterns keys (shape.enum tagging xs) v = any_variant tagging xs v
  shape_means patterns keys s v = refl

-- ---- the meaning of a row

belongs_same : (rows : List Row) → IsPlainTable rows → (contract : Contract) (patterns : Patterns) (steps n : ℕ) (v : Data)
    → belongs_within rows contract patterns steps n v ≡ belongs_plainly_within rows contract patterns steps n v
unfolding belongs_within belongs_plainly_within
belongs_same rows plain contract patterns zero n v = refl
belongs_same rows plain contract patterns (suc steps) n v =
    go (entry_at rows n) (plain n) (fun_ext (λ m. fun_ext (λ w. belongs_same rows plain contract patterns steps m w)))
  where
    C : ℕ → Data → List VariantMatch
    C = choices_within rows contract patterns steps

    go : (o : Option Entry) → IsPlainEntry rows o
        → belongs_within rows contract patterns steps ≡ belongs_plainly_within rows contract patterns steps
        → elim o as (λ z. Bool) [
          | None ↦ false
          | Some entry ↦ has_shape contract patterns (key_options rows) (choices_within rows contract patterns steps)
              (belongs_within rows contract patterns steps) (expanded_shape_in rows entry.shape) v
        ] ≡ elim o as (λ z. Bool) [
          | None ↦ false
          | Some entry ↦ has_shape contract patterns (key_options rows) no_choices
              (belongs_plainly_within rows contract patterns steps) (joined_in rows entry.shape) v
        ]
    go None h same = refl
    go (Some e) h same =
        (λ i. has_shape contract patterns (key_options rows) C (same i)
        ((expanded_joins rows plain e.shape h.2 ∙ shape_plainly rows plain e.shape h.2) i) v)
        ∙ shape_means contract C (belongs_plainly_within rows contract patterns steps) (G rows plain) patterns (key_options rows) e.shape v

-- in a plain table nothing is flattened but structs that have to be there, and a row means just that
pub meaning_same : (rows : List Row) → IsPlainTable rows → (contract : Contract) (patterns : Patterns) (n : ℕ) (v : Data)
    → belongs rows contract patterns n v ≡ belongs_plainly rows contract patterns n v
meaning_same rows plain contract patterns n v = belongs_same rows plain contract patterns ((depth v + 1) * length rows) n v

-- ---- the table is plain under each contract

module _ (names : ℕ → List Text) (part : Flattened → List Field) where
  payload_apart : (p : Payload) → PayloadHasNamesApart names [] (joined_payload part p)
  payload_apart no_payload = tt
  payload_apart _ = tt

  variants_apart : (xs : List Variant) → VariantsHaveNamesApart names [] (map (joined_variant part) xs)
  variants_apart [] = tt
  variants_apart (x ∷ xs) = (payload_apart x.payload, variants_apart xs)

  tag_apart : (tag : Text) (p : Payload) → IsTagged tag (joined_payload part p)
      → PayloadHasNamesApart names ((tag ∷ []) ∷ []) (joined_payload part p)
  tag_apart tag no_payload h = tt
  tag_apart tag (newtype_payload n) h = tt
  tag_apart tag (tuple_payload ns) h = absurd h
  tag_apart tag (struct_payload x) h = ((h, tt), tt, tt)

  tags_apart : (tag : Text) (xs : List Variant) → AreTagged tag (map (joined_variant part) xs)
      → VariantsHaveNamesApart names ((tag ∷ []) ∷ []) (map (joined_variant part) xs)
  tags_apart tag [] h = tt
  tags_apart tag (x ∷ xs) h = (tag_apart tag x.payload h.0, tags_apart tag xs h.1)

  shape_apart : (s : Shape) → IsPlainShape (joined_shape part s) → ShapeHasNamesApart names (joined_shape part s)
  shape_apart (shape.struct x) h = tt
  shape_apart (shape.enum shape.by_name xs) h = variants_apart xs
  shape_apart (shape.enum shape.by_nothing xs) h = variants_apart xs
  shape_apart (shape.enum (shape.by_tag tag closed) xs) h = tags_apart tag xs h.2
  shape_apart (shape.enum (shape.by_tag_and_content tag key closed) xs) h = variants_apart xs
  shape_apart s h = tt

-- what fits in the one sense fits in the other
contents_map : (F G : Text → ℕ → Type 0) → ((tag : Text) (n : ℕ) → F tag n → G tag n) → (s : Shape) → ShapeHasContents F s → ShapeHasContents G s
contents_map F G f (shape.enum (shape.by_tag tag closed) xs) h = each xs h
  where
    one : (p : Payload) → HasContent F tag p → HasContent G tag p
    one (newtype_payload n) fits = f tag n fits
    one _ fits = tt

    each : (ys : List Variant) → HaveContents F tag ys → HaveContents G tag ys
    each [] fit = tt
    each (y ∷ ys) fit = (one y.payload fit.0, each ys fit.1)
contents_map F G f s h = tt

module _ (rows : List Row) (contract : Contract) where
  part_under : (p : Flattened) → IsPlainPart rows p → IsPartUnder contract rows p
  part_under p h =
      let b = bare rows p h in
      subst (λ n. IsPartEntry rows (may_miss rows contract p) (entry_at rows n)) (sym b.1)
      (go (entry_at rows p.ty) h.0 (ap (λ o. is_some o && not (is_required contract p.required)) b.0))
    where
      go : (o : Option Entry) → IsOpenStruct o → may_miss rows contract p ≡ false → IsPartEntry rows (may_miss rows contract p) o
      go None is no_miss = absurd is
      go (Some e) is no_miss =
          subst (IsPartShape rows (may_miss rows contract p)) (sym is.1)
          (is.2, λ misses. absurd (true≢false (sym misses ∙ no_miss)))

  parts_under : (ps : List Flattened) → ArePlainParts rows ps → ArePartsUnder contract rows ps
  parts_under [] h = tt
  parts_under (p ∷ ps) h = (part_under p h.0, parts_under ps h.1)

  pub plain_under : IsPlainTable rows → IsPlainUnder contract rows
  plain_under plain n = go (entry_at rows n) (plain n)
    where
      go : (o : Option Entry) → IsPlainEntry rows o → IsEntryUnder contract rows o
      go None h = tt
      go (Some e) h =
          let same = expanded_joins rows plain e.shape h.2 in (
            h.0,
            h.1,
            subst (ShapeHasNamesApart (enum_names_at rows)) (sym same)
                (shape_apart (enum_names_at rows) (F rows plain) e.shape (subst IsPlainShape same h.1)),
            parts_under (parts_in e.shape) h.2,
            contents_map IsNoContent (IsPlainContent rows) (λ tag n fits. absurd fits) e.shape h.3,
          )
