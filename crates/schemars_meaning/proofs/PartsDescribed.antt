-- What rows of a table that is plain under the contract answer where they are flattened, as far as the documents go down.
use Rattle.std.proofs.Common.{◌≡◌, ℕ, zero, suc, ◌<◌, List, [], ◌∷◌, ◌++◌, Option, Some, None, Bool, true, false, map, refl, sym, ap, ◌∙◌, subst, length, arith}
use Rattle.schemars_meaning.proofs.Words.{is_some, ◌&&◌, not, if◌then◌else◌, map-append, Data, Members, depth, Text, IsJson, IsSchema, AreNotes, verdict, Context, judge, is_null, Patterns, null_schema, unit_variant, Field, Flattened, Fields, Shape, Entry, Payload, Variant, no_payload, newtype_payload, tuple_payload, struct_payload, Row, entry_at, is_required, VariantMatch, member_choice, matches_of, has_payload, belongs_within, parts_in, payload_parts, variant_parts, ArePartsUnder, IsEntryUnder, IsPlainShape, IsPlainPayload, ArePlainVariants, IsTagged, AreTagged, HasContent, HaveContents, IsNoContent, annotated, required_names, flattened_part, Basis, Ask, members_of, noted, asks_of, filled, struct_template, external_template, internal_template, payload_template, template_of, Fills, IsOwnDocument, IsAnswered, IsWritten, effective, flattened_in, shape_fields, flattened_enums, part_enums, enums_within, enum_at, expanded_payload, expanded_variant, expanded_shape_in, Required, option_at, external_choice, internal_choice, shape_choices, IsPartUnder, IsPartEntry, IsPartShape, may_miss, HasNoEnums, IsBare, HasBareUnits, VariantsHaveNoEnums, without_options, are_optional, required_only_if, row_fields, shape_enums, choices_within, Describes}
use Rattle.schemars_shapes.specs.Shape as shape
use Rattle.schemars_types.specs.declared.contract.Contract.{Contract}
use Rattle.schemars_types.specs.declared.contract.Contract.TheVariants.{Deserialize, Serialize}
use Rattle.schemars_types.specs.Meaning.{is_text}
use Rattle.schemars_meaning.proofs.Schemas.{written_schema}
use Rattle.schemars_meaning.proofs.Filling.{Fit}
use Rattle.schemars_meaning.proofs.Spread.{field_keywords, AreWritten}
use Rattle.schemars_meaning.proofs.Uniting.{IsForm, part_keywords}
use Rattle.schemars_meaning.proofs.Mapping.{written_map, describes-wider}
use Rattle.schemars_meaning.proofs.StructDocuments.{IsStruct, IsPart, noted_struct}
use Rattle.schemars_meaning.proofs.PartDocuments.{struct_part, optional_part, enum_part}
use Rattle.schemars_meaning.proofs.StructFilled.{AllKnown, struct_fills, all_offers}
use Rattle.schemars_meaning.proofs.Offers.{one_object}
use Rattle.schemars_meaning.proofs.InternalParts.{IsInside, offer, internal_filled}
use Rattle.schemars_meaning.proofs.OneOf.{AreTold}
use Rattle.schemars_meaning.proofs.ExternalParts.{IsKnown, AreKnown, external_part}
use Rattle.schemars_meaning.proofs.SettledTables.{IsSettled}

-- ---- fields that need not be there

module _ (W : ℕ → Data → Type 0) (r : Required) where
  weakened_written : (xs : List Field) (ts : List Data) → AreWritten W xs ts → AreWritten W (map (required_only_if r) xs) ts
  weakened_written [] ts h = h
  weakened_written (x ∷ xs) [] h = absurd h
  weakened_written (x ∷ xs) (t ∷ ts) h = (h.0, weakened_written xs ts h.1)

weakened_keywords : (r : Required) (xs : List Field) (ts : List Data) → field_keywords (map (required_only_if r) xs) ts ≡ field_keywords xs ts
weakened_keywords r [] ts = refl
weakened_keywords r (x ∷ xs) [] = refl
weakened_keywords r (x ∷ xs) (t ∷ ts) = ap (λ es. (x.name, annotated x.notes t) ∷ es) (weakened_keywords r xs ts)

weakened_required : (contract : Contract) (r : Required) (x : Field)
    → is_required contract (required_only_if r x).required ≡ is_required contract r && is_required contract x.required
weakened_required Deserialize r x = refl
weakened_required Serialize r x = refl

weakened_names : (contract : Contract) (r : Required) (xs : List Field) → is_required contract r ≡ true
    → required_names contract (map (required_only_if r) xs) ≡ required_names contract xs
weakened_names contract r [] is = refl
weakened_names contract r (x ∷ xs) is =
    λ i. if (weakened_required contract r x ∙ ap (λ b. b && is_required contract x.required) is) i
    then x.name ∷ weakened_names contract r xs is i else weakened_names contract r xs is i

no_names : (contract : Contract) (r : Required) (xs : List Field) → is_required contract r ≡ false
    → required_names contract (map (required_only_if r) xs) ≡ []
no_names contract r [] is = refl
no_names contract r (x ∷ xs) is =
    ap (λ b. if b then x.name ∷ required_names contract (map (required_only_if r) xs) else required_names contract (map (required_only_if r) xs))
    (weakened_required contract r x ∙ ap (λ b. b && is_required contract x.required) is)
    ∙ no_names contract r xs is

module _ (c : Context) (on : c.dialect.reads_unevaluated ≡ true) (contract : Contract) (v : Data) where
  -- the same fields, of which the same have to be there
  weakened_part : (W : ℕ → Data → Type 0) (r : Required) (xs : List Field) (os : List (List VariantMatch)) (s : Data)
      → is_required contract r ≡ true → IsPart c on contract W v xs os s → IsPart c on contract W v (map (required_only_if r) xs) os s
  weakened_part W r xs os s is a = record {
    type = a.type;
    written = a.written;
    are_written = weakened_written W r xs a.written a.are_written;
    parts = a.parts;
    members = a.members;
    is = a.is;
    form = subst (λ es. IsForm (part_keywords a.type es (required_names contract (map (required_only_if r) xs)) a.parts) a.members)
        (sym (weakened_keywords r xs a.written))
        (subst (λ ns. IsForm (part_keywords a.type (field_keywords xs a.written) ns a.parts) a.members)
        (sym (weakened_names contract r xs is)) a.form);
    every = a.every;
    claimed = a.claimed;
    choices = a.choices;
    bare = a.bare;
  }

  written_wider : (W V : ℕ → Data → Type 0) → ((j : ℕ) (t : Data) → W j t → V j t) → (xs : List Field) (ts : List Data)
      → AreWritten W xs ts → AreWritten V xs ts
  written_wider W V f [] ts h = h
  written_wider W V f (x ∷ xs) [] h = absurd h
  written_wider W V f (x ∷ xs) (t ∷ ts) h = (f x.ty t h.0, written_wider W V f xs ts h.1)

  part_wider : (W V : ℕ → Data → Type 0) → ((j : ℕ) (t : Data) → W j t → V j t) → (xs : List Field) (os : List (List VariantMatch)) (s : Data)
      → IsPart c on contract W v xs os s → IsPart c on contract V v xs os s
  part_wider W V f xs os s a = record {
    type = a.type;
    written = a.written;
    are_written = written_wider W V f xs a.written a.are_written;
    parts = a.parts;
    members = a.members;
    is = a.is;
    form = a.form;
    every = a.every;
    claimed = a.claimed;
    choices = a.choices;
    bare = a.bare;
  }

-- ---- in a table

pub under_apart : (contract : Contract) (rows : List Row) (ps qs : List Flattened) → ArePartsUnder contract rows (ps ++ qs)
    → ArePartsUnder contract rows ps × ArePartsUnder contract rows qs
under_apart contract rows [] qs h = (tt, h)
under_apart contract rows (p ∷ ps) qs h = let later = under_apart contract rows ps qs h.1 in ((h.0, later.0), later.1)

module _ (c : Context) (on : c.dialect.reads_unevaluated ≡ true) (basis : Basis) (Refers : ℕ → Text → Type 0)
    (settled : IsSettled basis) (v : Data) (N : ℕ → Data → List VariantMatch) where
  abbrev rows : List Row
  rows = basis.rows

  abbrev contract : Contract
  contract = basis.contract

  abbrev D : ℕ → ℕ → Data → Type 0
  D = Describes basis Refers

  abbrev In : ℕ → ℕ → Data → Type 0
  In d = IsWritten Refers (D d)

  abbrev Answer : ℕ → Ask → Data → Type 0
  Answer d = IsAnswered rows (λ m b. Unit {0}) (In d) (D d)

  abbrev pub has : Flattened → List Field
  has = flattened_in rows

  abbrev pub offered : Flattened → List (List VariantMatch)
  offered p = matches_of N (map enum_at (part_enums rows p)) v

  abbrev pub PartsAnswer : ℕ → Type 0
  PartsAnswer d = (p : Flattened) (t : Data) → IsPartUnder contract rows p → Answer d (members_of p.ty (is_required contract p.required)) t
      → IsPart c on contract (In d) v (has p) (offered p) t

  pub known_all : (d : ℕ) (answers : PartsAnswer d) (ps : List Flattened) → ArePartsUnder contract rows ps
      → AllKnown (Answer d) c on contract v has offered (IsPartUnder contract rows) answers ps
  known_all d answers [] h = tt
  known_all d answers (p ∷ ps) h = (h.0, known_all d answers ps h.1)

  pub offered_all : (ps : List Flattened) → all_offers offered ps ≡ matches_of N (map enum_at (flattened_enums (part_enums rows) ps)) v
  offered_all [] = refl
  offered_all (p ∷ ps) =
      ap (λ os. offered p ++ os) (offered_all ps)
      ∙ (sym (map-append (λ (q : Flattened). N q.ty v) (map enum_at (part_enums rows p))
      (map enum_at (flattened_enums (part_enums rows) ps)))
      ∙ ap (λ qs. matches_of N qs v) (sym (map-append enum_at (part_enums rows p) (flattened_enums (part_enums rows) ps))))

  -- the document of a struct
  pub struct_at : (d : ℕ) → PartsAnswer d → (e : Entry) (x : Fields) → e.shape ≡ shape.struct x → AreNotes e.notes
      → ArePartsUnder contract rows x.flatten → (s : Data) → IsOwnDocument (Answer d) basis (Some e) s
      → IsStruct c on contract (In d) v (effective has x)
      (matches_of N (map enum_at (flattened_enums (part_enums rows) x.flatten)) v) x.closed s
  struct_at d answers e x is notes under s own =
      let g : Fills (Answer d) (noted e.notes (struct_template contract x)) s =
      subst (λ k. Fills (Answer d) (noted e.notes (template_of basis k)) s) is own in
      let bare = struct_fills (Answer d) c on contract v has offered (IsPartUnder contract rows) answers x
      (known_all d answers x.flatten under)
      g.parts g.answered in
      subst (IsStruct c on contract (In d) v (effective has x)
      (matches_of N (map enum_at (flattened_enums (part_enums rows) x.flatten)) v) x.closed)
      (sym g.is)
      (noted_struct c on contract (In d) v e.notes (effective has x) _ x.closed (filled (struct_template contract x) g.parts) notes
      (subst (λ os. IsStruct c on contract (In d) v (effective has x) os x.closed (filled (struct_template contract x) g.parts))
      (offered_all x.flatten) bare))

  -- where it is flattened
  struct_answer : (W : ℕ → Data → Type 0) (xs : List Field) (os : List (List VariantMatch)) (r : Required) (optional : Bool) (s : Data)
      → (optional && not (is_required contract r) ≡ true → os ≡ []) → IsStruct c on contract W v xs os false s
      → IsPart c on contract W v (if optional then map (required_only_if r) xs else xs) os
      (flattened_part (optional && not (is_required contract r)) s)
  struct_answer W xs os r optional s none a = go optional (is_required contract r) refl none
    where
      go : (b k : Bool) → is_required contract r ≡ k → (b && not k ≡ true → os ≡ [])
          → IsPart c on contract W v (if b then map (required_only_if r) xs else xs) os (flattened_part (b && not k) s)
      go false k is none = struct_part c on contract W v xs os s a
      go true true is none = weakened_part c on contract v W r xs os (flattened_part false s) is (struct_part c on contract W v xs os s a)
      go true false is none =
          subst (λ qs. IsPart c on contract W v (map (required_only_if r) xs) qs (flattened_part true s)) (sym (none refl))
          (optional_part c on contract W v xs s (subst (λ qs. IsStruct c on contract W v xs qs false s) (none refl) a) (map (required_only_if r) xs)
          (weakened_written W r xs) (weakened_keywords r xs) (no_names contract r xs is))

  -- ---- enums

  module _ (M : ℕ → Data → Bool) (O : ℕ → Data → List VariantMatch)
      (choices_at : (n : ℕ) (e : Entry) → entry_at rows n ≡ Some e → N n v ≡ shape_choices contract M O (expanded_shape_in rows e.shape) v)
      (json : IsJson v)
      (agree : (d j : ℕ) (t w : Data) → In d j t → IsJson w → depth w < depth v → (judge c t).fits w ≡ verdict (M j w))
      (null_says : (w : Data) → (judge c null_schema).fits w ≡ verdict (is_null w))
      (unit_says : (name : Text) (w : Data) → (judge c (unit_variant name)).fits w ≡ verdict (is_text name w)) where
    abbrev schemas : (d j : ℕ) (t : Data) → In d j t → IsSchema t
    schemas d j t is = written_schema basis Refers d j t is

    abbrev spreads : Payload → Payload
    spreads p = expanded_payload has (part_enums rows) p

    abbrev each_expanded : Variant → Variant
    each_expanded x = expanded_variant has (part_enums rows) x

    abbrev P : Payload → Data → Bool
    P p w = has_payload contract M O (spreads p) w

    abbrev Told : Payload → Type 0
    Told p = IsPlainPayload (spreads p) × ArePartsUnder contract rows (payload_parts p)

    -- payloads say what they mean of what is inside the value
    abbrev pub PayloadsTell : ℕ → Type 0
    PayloadsTell d = (p : Payload) → Told p → (us : List Data) → Fit (Answer d) (asks_of (payload_template contract p)) us
        → IsSchema (filled (payload_template contract p) us)
        × ((w : Data) → IsJson w → depth w < depth v → (judge c (filled (payload_template contract p) us)).fits w ≡ verdict (P p w))

    known_one : (name : Text) (p : Payload) (notes : Members) → IsBare (record { name = name; payload = p; notes = notes })
        → AreNotes notes → Told p
        → IsKnown Told p notes
    known_one name no_payload notes bare plain told = bare
    known_one name _ notes bare plain told = (told, plain)

    known_each : (xs : List Variant) → HasBareUnits xs → ArePlainVariants (map each_expanded xs)
        → ArePartsUnder contract rows (variant_parts xs) → AreKnown Told xs
    known_each [] bare plain flat = tt
    known_each (x ∷ xs) bare plain flat =
        let flats = under_apart contract rows (payload_parts x.payload) (variant_parts xs) flat in
        (known_one x.name x.payload x.notes bare.0 plain.0 (plain.1, flats.0), known_each xs bare.1 plain.2 flats.1)

    external_offers : (xs : List Variant) → map (λ (x : Variant). member_choice x.name (P x.payload) v) xs
        ≡ map (external_choice contract M O v) (map each_expanded xs)
    external_offers [] = refl
    external_offers (x ∷ xs) = ap (λ os. member_choice x.name (P x.payload) v ∷ os) (external_offers xs)

    pub external_at : (d : ℕ) → PayloadsTell d → (e : Entry) (x : Variant) (xs : List Variant) → e.shape ≡ shape.enum shape.by_name (x ∷ xs)
        → AreNotes e.notes
        → HasBareUnits (x ∷ xs) → ArePlainVariants (map each_expanded (x ∷ xs)) → ArePartsUnder contract rows (variant_parts (x ∷ xs))
        → (s : Data) → IsOwnDocument (Answer d) basis (Some e) s
        → IsPart c on contract (In d) v [] (shape_choices contract M O (expanded_shape_in rows (shape.enum shape.by_name (x ∷ xs))) v ∷ [])
        (flattened_part false s)
    external_at d tell e x xs is notes bare plain flat s own =
        let g : Fills (Answer d) (noted e.notes (external_template contract (x ∷ xs))) s =
        subst (λ k. Fills (Answer d) (noted e.notes (template_of basis k)) s) is own in
        subst (λ t. IsPart c on contract (In d) v [] (shape_choices contract M O (expanded_shape_in rows (shape.enum shape.by_name (x ∷ xs))) v ∷ [])
        (flattened_part false t))
        (sym g.is)
        (subst (λ os. IsPart c on contract (In d) v [] (os ∷ [])
        (flattened_part false (filled (noted e.notes (external_template contract (x ∷ xs))) g.parts)))
        (external_offers (x ∷ xs))
        (external_part c on contract (Answer d) (In d) P refl Told v json tell null_says e.notes notes x xs
        (known_each (x ∷ xs) bare plain flat)
        g.parts g.answered))

    -- ---- tagged inside

    abbrev Plain : Fields → Type 0
    Plain y = ArePartsUnder contract rows y.flatten × HasNoEnums rows y.flatten

    pub struct_filled : (d : ℕ) → PartsAnswer d → (y : Fields) → Plain y → (us : List Data)
        → Fit (Answer d) (asks_of (struct_template contract y)) us
        → IsStruct c on contract (In d) v (effective has y) [] y.closed (filled (struct_template contract y) us)
    struct_filled d answers y h us fit =
        subst (λ os. IsStruct c on contract (In d) v (effective has y) os y.closed (filled (struct_template contract y) us))
        (offered_all y.flatten ∙ ap (λ ns. matches_of N (map enum_at ns) v) h.1)
        (struct_fills (Answer d) c on contract v has offered (IsPartUnder contract rows) answers y
        (known_all d answers y.flatten h.0) us fit)

    module _ (d : ℕ) (answers : PartsAnswer d) where
      abbrev Inside : List Variant → Type 0
      Inside = AreTold (IsInside (effective has) Plain)

      inside_each : (tag : Text) (xs : List Variant) → ArePlainVariants (map each_expanded xs) → AreTagged tag (map each_expanded xs)
          → HaveContents IsNoContent tag xs → VariantsHaveNoEnums rows xs → ArePartsUnder contract rows (variant_parts xs) → Inside xs
      inside_each tag [] plain tags contents none flat = tt
      inside_each tag (x ∷ xs) plain tags contents none flat =
          let flats = under_apart contract rows (payload_parts x.payload) (variant_parts xs) flat in (
            (by x.payload plain.1 tags.0 contents.0 none.0 flats.0, plain.0),
            inside_each tag xs plain.2 tags.1 contents.1 none.1 flats.1,
          )
        where
          by : (p : Payload) → IsPlainPayload (spreads p) → IsTagged tag (spreads p) → HasContent IsNoContent tag p
              → HasNoEnums rows (payload_parts p) → ArePartsUnder contract rows (payload_parts p) → IsInside (effective has) Plain p
          by no_payload plain tagged content none flat = tt
          by (newtype_payload n) plain tagged content none flat = absurd content
          by (tuple_payload ns) plain tagged content none flat = absurd tagged
          by (struct_payload y) plain tagged content none flat = ((flat, none), plain.0, plain.1)

      abbrev inside_offer : Text → Variant → VariantMatch
      inside_offer = offer c on contract (Answer d) M (schemas d) v json (agree d) unit_says (effective has) Plain (struct_filled d answers)

      inside_one : (tag name : Text) (p : Payload) (notes : Members) → inside_offer tag (record { name = name; payload = p; notes = notes })
          ≡ internal_choice contract M tag v (each_expanded (record { name = name; payload = p; notes = notes }))
      inside_one tag name no_payload notes = refl
      inside_one tag name _ notes = refl

      inside_offers : (tag : Text) (xs : List Variant) → map (inside_offer tag) xs
          ≡ map (internal_choice contract M tag v) (map each_expanded xs)
      inside_offers tag [] = refl
      inside_offers tag (x ∷ xs) = λ i. inside_one tag x.name x.payload x.notes i ∷ inside_offers tag xs i

      pub internal_at : (e : Entry) (tag : Text) (closed : Bool) (x : Variant) (xs : List Variant) → e.shape
          ≡ shape.enum (shape.by_tag tag closed) (x ∷ xs)
          → AreNotes e.notes → Inside (x ∷ xs) → (s : Data) → IsOwnDocument (Answer d) basis (Some e) s
          → IsPart c on contract (In d) v [] (shape_choices contract M O (expanded_shape_in rows (shape.enum (shape.by_tag tag closed) (x ∷ xs))) v ∷ [])
          (flattened_part false s)
      internal_at e tag closed x xs is notes inside s own =
          let g : Fills (Answer d) (noted e.notes (internal_template contract tag closed (x ∷ xs))) s =
          subst (λ k. Fills (Answer d) (noted e.notes (template_of basis k)) s) is own in
          let all = internal_filled c on contract (Answer d) M (schemas d) v json (agree d) unit_says (effective has) Plain
          (struct_filled d answers)
          tag closed x xs inside g.parts g.answered in
          subst (λ t. IsPart c on contract (In d) v []
          (shape_choices contract M O (expanded_shape_in rows (shape.enum (shape.by_tag tag closed) (x ∷ xs))) v ∷ [])
          (flattened_part false t)) (sym (g.is ∙ ap (annotated e.notes) all.1))
          (subst (λ os. IsPart c on contract (In d) v [] (os ∷ []) (flattened_part false (annotated e.notes (one_object all.0))))
          (inside_offers tag (x ∷ xs))
          (enum_part c on contract (In d) v e.notes all.0 (map (inside_offer tag) (x ∷ xs)) notes all.2))

    -- ---- every row that may be flattened

    module _ (tell : (d : ℕ) → PayloadsTell d) where
      abbrev Goal : ℕ → Flattened → List Field → List ℕ → Bool → Data → Type 0
      Goal d p xs ns b s = IsPart c on contract (In d) v (if is_some (option_at rows p.ty) then map (required_only_if p.required) xs else xs)
          (matches_of N (map enum_at ns) v) (flattened_part b s)

      no_fields : (r : Required) (a : Bool) → (if a then map (required_only_if r) [] else []) ≡ []
      no_fields r true = refl
      no_fields r false = refl

      -- an enum has no fields, and is the one enum
      enum_goal : (d : ℕ) (p : Flattened) (n : ℕ) (e : Entry) → entry_at rows n ≡ Some e → (k : Shape) → e.shape ≡ k → (s : Data)
          → may_miss rows contract p ≡ false
          → IsPart c on contract (In d) v [] (shape_choices contract M O (expanded_shape_in rows k) v ∷ []) (flattened_part false s)
          → Goal d p [] (n ∷ []) (may_miss rows contract p) s
      enum_goal d p n e at k same s must h =
          subst (λ m. Goal d p [] (n ∷ []) m s) (sym must)
          (subst (λ xs. IsPart c on contract (In d) v xs (N n v ∷ []) (flattened_part false s))
          (sym (no_fields p.required (is_some (option_at rows p.ty))))
          (subst (λ os. IsPart c on contract (In d) v [] (os ∷ []) (flattened_part false s))
          (sym (choices_at n e at ∙ ap (λ q. shape_choices contract M O (expanded_shape_in rows q) v) same)) h))

      shape_goal : (d : ℕ) → PartsAnswer d → (p : Flattened) (n : ℕ) (e : Entry) → entry_at rows n ≡ Some e → (k : Shape) → e.shape ≡ k
          → AreNotes e.notes → IsPlainShape (expanded_shape_in rows k) → ArePartsUnder contract rows (parts_in k)
          → IsPartShape rows (may_miss rows contract p) k → (s : Data) → IsOwnDocument (Answer d) basis (Some e) s
          → Goal d p (shape_fields has k) (shape_enums (part_enums rows) n k) (may_miss rows contract p) s
      shape_goal d answers p n e at (shape.struct x) same notes fine under is s own =
          let os : List (List VariantMatch) = matches_of N (map enum_at (flattened_enums (part_enums rows) x.flatten)) v in
          struct_answer (In d) (effective has x) os p.required (is_some (option_at rows p.ty)) s
          (λ misses. ap (λ ns. matches_of N (map enum_at ns) v) (is.1 misses))
          (subst (λ b. IsStruct c on contract (In d) v (effective has x) os b s) is.0 (struct_at d answers e x same notes under s own))
      shape_goal d answers p n e at (shape.enum shape.by_name []) same notes fine under is s own = absurd is.1
      shape_goal d answers p n e at (shape.enum shape.by_name (x ∷ xs)) same notes fine under is s own =
          enum_goal d p n e at (shape.enum shape.by_name (x ∷ xs)) same s is.0 (external_at d (tell d) e x xs same notes is.2 fine.1 under s own)
      shape_goal d answers p n e at (shape.enum (shape.by_tag tag closed) []) same notes fine under is s own = absurd is.1
      shape_goal d answers p n e at (shape.enum (shape.by_tag tag closed) (x ∷ xs)) same notes fine under is s own =
          enum_goal d p n e at (shape.enum (shape.by_tag tag closed) (x ∷ xs)) same s is.0
          (internal_at d answers e tag closed x xs same notes (inside_each d answers tag (x ∷ xs) fine.1 fine.2 is.2 is.3 under) s own)
      shape_goal d answers p n e at k same notes fine under is s own = absurd is

      row_goal : (d : ℕ) → PartsAnswer d → (p : Flattened) (n : ℕ) (o : Option Entry) → entry_at rows n ≡ o → IsEntryUnder contract rows o
          → IsPartEntry rows (may_miss rows contract p) o → (s : Data) → IsOwnDocument (Answer d) basis o s
          → Goal d p (row_fields rows n) (enums_within rows (length rows) n) (may_miss rows contract p) s
      row_goal d answers p n None at under is s own = absurd own
      row_goal d answers p n (Some e) at under is s own =
          subst (λ xs. Goal d p xs (enums_within rows (length rows) n) (may_miss rows contract p) s) (sym (settled.fields n e at))
          (subst (λ ns. Goal d p (shape_fields has e.shape) ns (may_miss rows contract p) s) (sym (settled.enums n e at))
          (shape_goal d answers p n e at e.shape refl under.0 under.1 under.3 is s own))

      in_wider : (d j : ℕ) (t : Data) → In d j t → In (suc d) j t
      in_wider d =
          written_map Refers Refers (D d) (D (suc d)) (λ j r is. is)
          (describes-wider basis Refers Refers (λ j r is. is) d (suc d) (omega arith))

      -- whatever the depth of the document
      pub parts_answer : (d : ℕ) → PartsAnswer d
      unfolding Describes
      parts_answer zero p t under h = absurd h.1
      parts_answer (suc d) p t under h =
          part_wider c on contract v (In d) (In (suc d)) (in_wider d) (has p) (offered p) t
          (subst (IsPart c on contract (In d) v (has p) (offered p)) (sym h.2)
          (lifted (is_some (option_at rows p.ty))
          (row_goal d (parts_answer d) p (without_options rows p.ty) (entry_at rows (without_options rows p.ty)) refl
          (settled.plain (without_options rows p.ty)) under h.0 h.1)))
        where
          lifted : (b : Bool) → IsPart c on contract (In d) v
              (if b then map (required_only_if p.required) (row_fields rows (without_options rows p.ty)) else row_fields rows
              (without_options rows p.ty))
              (offered p) (flattened_part (are_optional rows p.ty (is_required contract p.required)) h.0)
              → IsPart c on contract (In d) v
              (if b then map (required_only_if p.required) (row_fields rows (without_options rows p.ty)) else row_fields rows
              (without_options rows p.ty))
              (offered p) (flattened_part (are_optional rows p.ty (is_required contract p.required)) h.0)
          lifted b x = x

-- ---- with steps counted down

-- what the variants of an enum offer after one step more is made of what the rows mean, and offer, after the steps before
pub choices_counted : (rows : List Row) (contract : Contract) (patterns : Patterns) (m n : ℕ) (e : Entry) (v : Data) → entry_at rows n
    ≡ Some e
    → choices_within rows contract patterns (suc m) n v
    ≡ shape_choices contract (belongs_within rows contract patterns m) (choices_within rows contract patterns m) (expanded_shape_in rows e.shape) v
unfolding choices_within
choices_counted rows contract patterns m n e v at = rw (at, choices_within) refl
