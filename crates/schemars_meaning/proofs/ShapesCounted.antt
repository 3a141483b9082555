-- In a table that is plain under its contract the documents of structs, payloads and shapes say under 2020-12 what they mean, with
-- steps counted down, where those of smaller values do.
use Rattle.std.proofs.Common.{◌≡◌, ◌⊎◌, inl, inr, ℕ, zero, suc, ◌+◌, ◌*◌, ◌<◌, ◌≤◌, List, [], ◌∷◌, Option, Some, None, Bool, true, false, map, refl, sym, ap, ◌∙◌, subst, arith, ◌++◌}
use Rattle.schemars_meaning.proofs.Words.{Entry, entry_at, HasNoEnums, IsNoName, IsEntryUnder, IsContentEntry, IsContentShape, IsPlainContent, HasContent, HaveContents, ShapeHasContents, IsOwnDocument, content, opened_inside, must_be_in_place, internally_tagged_variant, has_content, has_fields, reference, mul-le-mul_right, Data, depth, Text, IsJson, IsSchema, verdict, Context, Judge, Patterns, judge, context2020_12, ready-schema, IsReady, Field, Fields, Flattened, Payload, no_payload, newtype_payload, tuple_payload, struct_payload, Shape, Variant, Row, effective, flattened_in, flattened_enums, part_enums, enum_at, expanded_payload, expanded_variant, expanded_shape_in, VariantMatch, is_required, matches_of, has_payload, belongs_within, choices_within, has_shape, key_options, IsPlainPayload, ArePartsUnder, payload_parts, ArePlainVariants, IsTagged, AreTagged, IsPlainShape, parts_in, variant_parts, Basis, Ask, Template, members_of, asked, asks_of, filled, first, left, struct_template, payload_template, fields_template, with_flattened, template_of, IsAnswered, IsWritten, Describes, Fills, flattened-schema, IsPartUnder, with_keywords}
use Rattle.schemars_shapes.specs.Shape as shape
use Rattle.std.proofs.Math.Path.{fun_ext}
use Rattle.schemars_types.specs.declared.contract.Contract.{Contract}
use Rattle.schemars_meaning.proofs.Filling.{Fit}
use Rattle.schemars_meaning.proofs.ByShape.{tuple_fills, tuple_document, others_fill}
use Rattle.schemars_meaning.proofs.EachShape.{null_says, tuple_says}
use Rattle.schemars_meaning.proofs.Choices.{unit_says}
use Rattle.schemars_meaning.proofs.Ready.{tuple_ready}
use Rattle.schemars_meaning.proofs.Schemas.{written_schema}
use Rattle.schemars_meaning.proofs.StructDocuments.{IsStruct, means, both_empty}
use Rattle.schemars_meaning.proofs.StructFilled.{struct_fills}
use Rattle.schemars_meaning.proofs.PartsDescribed.{struct_at, parts_answer, known_all, offered_all, choices_counted, under_apart}
use Rattle.schemars_meaning.proofs.SettledTables.{IsSettled}
use Rattle.schemars_meaning.proofs.OneOf.{AreTold, TellsInside}
use Rattle.schemars_meaning.proofs.Enums.{IsNewtypeIn, PayloadTells, untagged_says}
use Rattle.schemars_meaning.proofs.Meanings.{IsSame, Inside, simple_says}
use Rattle.schemars_meaning.proofs.ExternalSays.{external_says}
use Rattle.schemars_meaning.proofs.InternalParts.{IsHeld}
use Rattle.schemars_meaning.proofs.InternalSays.{internal_says}
use Rattle.schemars_meaning.proofs.Contents.{struct_stays, struct_open, struct_beside, reference_beside}
use Rattle.schemars_meaning.proofs.AdjacentSays.{adjacent_says}

closer : (a b h m : ℕ) → a < b → b * h ≤ m → a * h + h ≤ m
closer a b h m less enough = grind (arith, mul-le-mul_right)

-- nothing is flattened, or a step is left for what is
abbrev pub HasRoom : ℕ → Data → ℕ → List Flattened → Type 0
HasRoom ranks w m ps = (ps ≡ []) ⊎ (depth w * ranks < m)

-- a plain payload, into which parts are flattened
abbrev pub Told : Contract → List Row → Payload → Type 0
Told contract rows p =
    IsPlainPayload (expanded_payload (flattened_in rows) (part_enums rows) p) × ArePartsUnder contract rows (payload_parts p)

room_apart : (ranks : ℕ) (v : Data) (m : ℕ) (ps qs : List Flattened) → HasRoom ranks v m (ps ++ qs)
    → HasRoom ranks v m ps × HasRoom ranks v m qs
room_apart ranks v m ps qs (inl none) = let each = both_empty ps qs none in (inl each.0, inl each.1)
room_apart ranks v m ps qs (inr room) = (inr room, inr room)

-- ---- what fills the template of a struct is a schema

with_flattened_schema : (contract : Contract) (ps : List Flattened) (t : Template) → ((us : List Data) → IsSchema (filled t us))
    → (us : List Data) → IsSchema (filled (with_flattened contract ps t) us)
with_flattened_schema contract [] t is us = is us
with_flattened_schema contract (p ∷ ps) t is us =
    with_flattened_schema contract ps (with_keywords t (asked (members_of p.ty (is_required contract p.required))))
    (λ ws. flattened-schema (filled t ws) (first (left t ws)) (is ws)) us

struct_schema : (contract : Contract) (y : Fields) (us : List Data) → IsSchema (filled (struct_template contract y) us)
struct_schema contract y us = with_flattened_schema contract y.flatten (fields_template contract y.list y.closed) (λ ws. tt) us

-- ---- a table that is plain under its contract, and whose rows have the fields and enums of their shapes

module _ (patterns : Patterns) (f : Text → Judge) (basis : Basis) (Refers : ℕ → Text → Type 0)
    (settled : IsSettled basis) (ranks : ℕ) (some : 0 < ranks) (top : ℕ) where
  abbrev c : Context
  c = context2020_12 patterns f

  open basis use {rows, contract}

  abbrev In : ℕ → ℕ → Data → Type 0
  In d = IsWritten Refers (Describes basis Refers d)

  abbrev Answer : ℕ → Ask → Data → Type 0
  Answer d = IsAnswered rows (λ m b. Unit {0}) (In d) (Describes basis Refers d)

  abbrev B : ℕ → ℕ → Data → Bool
  B m = belongs_within rows contract patterns m

  abbrev C : ℕ → ℕ → Data → List VariantMatch
  C m = choices_within rows contract patterns m

  abbrev schemas : (d j : ℕ) (t : Data) → In d j t → IsSchema t
  schemas d j t is = written_schema basis Refers d j t is

  abbrev spreads : Payload → Payload
  spreads p = expanded_payload (flattened_in rows) (part_enums rows) p

  abbrev each : Variant → Variant
  each x = expanded_variant (flattened_in rows) (part_enums rows) x

  abbrev IsTold : Payload → Type 0
  IsTold p = Told contract rows p

  -- of values below `top`, after so many steps, parts say what their rows mean
  module _ (said : (d j : ℕ) (t w : Data) → In d j t → IsJson w → depth w < top → (m : ℕ) → depth w * ranks + ranks ≤ m
      → (judge c t).fits w ≡ verdict (B m j w)) where
    agree : (v : Data) → depth v ≤ top → (m : ℕ) → depth v * ranks ≤ m → (d j : ℕ) (t w : Data) → In d j t → IsJson w → depth w < depth v
        → (judge c t).fits w ≡ verdict (B m j w)
    agree v within m enough d j t w is js less = said d j t w is js (omega arith) m (closer (depth w) (depth v) ranks m less enough)

    -- what payloads are to say inside v, after m steps
    abbrev pub Tell : Data → ℕ → ℕ → Type 0
    Tell v m d = (p : Payload) → IsTold p
        → TellsInside patterns f (Answer d) v (payload_template contract p) (has_payload contract (B m) (C m) (spreads p))

    -- the document of a map with the fields of y, and with its enums
    abbrev pub IsStructOf : ℕ → Data → ℕ → Fields → Data → Type 0
    IsStructOf d w m y s = IsStruct c refl contract (In d) w (effective (flattened_in rows) y)
        (matches_of (C m) (map enum_at (flattened_enums (part_enums rows) y.flatten)) w) y.closed s

    abbrev Stands : ℕ → Data → ℕ → Fields → Type 0
    Stands d w m y = (us : List Data) → Fit (Answer d) (asks_of (struct_template contract y)) us
        → IsStructOf d w m y (filled (struct_template contract y) us)

    bare_stands : (d : ℕ) (w : Data) (m : ℕ) (list : List Field) (flatten : List Flattened) (closed : Bool) → flatten ≡ []
        → Stands d w m (record { list = list; flatten = flatten; closed = closed })
    bare_stands d w m list [] closed none us fit =
        struct_fills (Answer d) c refl contract w (flattened_in rows) (λ p. []) (λ p. ⊥) (λ p t h. absurd h)
        (record { list = list; flatten = []; closed = closed }) tt us fit
    bare_stands d w m list (p ∷ ps) closed none us fit = cc

    -- what fills its template is, where payloads inside say what they mean
    pub struct_stands : (w : Data) → IsJson w → depth w ≤ top → (m : ℕ) → depth w * ranks ≤ m → (d : ℕ) (y : Fields)
        → HasRoom ranks w m y.flatten
        → ArePartsUnder contract rows y.flatten → ((n : ℕ) → depth w * ranks ≤ n → (d : ℕ) → Tell w n d) → Stands d w m y
    struct_stands w js within m enough d y (inl none) under tell us fit = bare_stands d w m y.list y.flatten y.closed none us fit
    struct_stands w js within zero enough d y (inr room) under tell us fit = absurd (omega arith)
    struct_stands w js within (suc m) enough d y (inr room) under tell us fit =
        let answers = parts_answer c refl basis Refers settled w (C (suc m)) (B m) (C m)
        (λ n e at. choices_counted rows contract patterns m n e w at) js (agree w within m (omega arith)) (null_says patterns f basis (B m))
        (unit_says patterns f) (tell m (omega arith)) in
        subst (λ os. IsStruct c refl contract (In d) w (effective (flattened_in rows) y) os y.closed
        (filled (struct_template contract y) us))
        (offered_all c refl basis Refers settled w (C (suc m)) y.flatten)
        (struct_fills (Answer d) c refl contract w (flattened_in rows) _ (IsPartUnder contract rows) (answers d) y
        (known_all c refl basis Refers settled w (C (suc m)) d (answers d) y.flatten under) us fit)

    -- so it says what the struct means
    pub struct_says : (w : Data) → IsJson w → depth w ≤ top → (m : ℕ) → depth w * ranks ≤ m → (d : ℕ) (y : Fields)
        → HasRoom ranks w m y.flatten
        → Told contract rows (struct_payload y) → ((n : ℕ) → depth w * ranks ≤ n → (d : ℕ) → Tell w n d) → (us : List Data)
        → Fit (Answer d) (asks_of (struct_template contract y)) us
        → (judge c (filled (struct_template contract y) us)).fits w
        ≡ verdict (has_payload contract (B m) (C m) (spreads (struct_payload y)) w)
    struct_says w js within m enough d y room told tell us fit =
        means c refl contract (In d) w (B m) (schemas d) (effective (flattened_in rows) y) _ y.closed
        (filled (struct_template contract y) us)
        told.0.0 told.0.1 (struct_stands w js within m enough d y room told.1 tell us fit) js
        (λ j t x is jx less. agree w within m enough d j t x is jx less)

    pub tuple_tells : (v : Data) → depth v ≤ top → (m : ℕ) → depth v * ranks ≤ m → (d : ℕ) (ns : List ℕ) → IsJson v → (us : List Data)
        → Fit (Answer d) (asks_of (payload_template contract (tuple_payload ns))) us
        → (judge c (filled (payload_template contract (tuple_payload ns)) us)).fits v
        ≡ verdict (has_payload contract (B m) (C m) (tuple_payload ns) v)
    tuple_tells v within m enough d ns json us fit =
        let t = tuple_fills (Answer d) ns us fit in
        ap (λ s. (judge c s).fits v) t.2 ∙ tuple_says patterns f basis (B m) (In d) (schemas d) ns t.0 t.1 v json
        (λ j t x is jx less. agree v within m enough d j t x is jx less)

    -- payloads say what they mean of smaller values
    pub payloads : (k : ℕ) (v : Data) → depth v ≤ k → depth v ≤ top → (m : ℕ) → depth v * ranks ≤ m → (d : ℕ) → Tell v m d
    payloads k v low within m enough d no_payload told us fit = (tt, λ w js less. null_says patterns f basis (B m) w)
    payloads k v low within m enough d (newtype_payload n) told [] fit = absurd fit
    payloads k v low within m enough d (newtype_payload n) told (t ∷ us) fit =
        (schemas d n t fit.0, λ w js less. agree v within m enough d n t w fit.0 js less)
    payloads k v low within m enough d (tuple_payload ns) told us fit =
        let t = tuple_fills (Answer d) ns us fit in (
          subst IsSchema (sym t.2) (ready-schema (tuple_document t.0) (tuple_ready t.0)),
          λ w js less.
              let near = closer (depth w) (depth v) ranks m less enough in
              tuple_tells w (omega arith) m (omega arith) d ns js us fit,
        )
    payloads zero v low within m enough d (struct_payload y) told us fit =
        (struct_schema contract y us, λ w js less. absurd (omega arith))
    payloads (suc k) v low within m enough d (struct_payload y) told us fit = (
      struct_schema contract y us,
      λ w js less.
          let near = closer (depth w) (depth v) ranks m less enough in
          let left : depth w * ranks ≤ m = omega arith in
          struct_says w js (omega arith) m left d y (inr (omega arith)) told
          (λ n e b. payloads k w (omega arith) (omega arith) n e b) us fit,
    )

    -- and what is at the value itself
    pub tell_inside : (v : Data) → depth v ≤ top → (n : ℕ) → depth v * ranks ≤ n → (d : ℕ) → Tell v n d
    tell_inside v within n enough d = payloads (depth v) v (omega arith) within n enough d

    -- ---- a struct beside a tag

    -- the document of a struct that has no enum among its members
    pub struct_of : (w : Data) → IsJson w → depth w ≤ top → (m : ℕ) → depth w * ranks ≤ m → (d n : ℕ) (e : Entry) → entry_at rows n ≡ Some e
        → (x : Fields) → e.shape ≡ shape.struct x → HasNoEnums rows x.flatten → (s : Data) → Describes basis Refers d n s
        → (k : ℕ) × IsStruct c refl contract (In k) w (effective (flattened_in rows) x) [] x.closed s
    unfolding Describes
    struct_of w js within m enough zero n e at x is none s own = absurd own
    struct_of w js within m enough (suc d) n e at x is none s own =
        let plain : IsEntryUnder contract rows (Some e) = subst (IsEntryUnder contract rows) at (settled.plain n) in
        let answers = parts_answer c refl basis Refers settled w (C (suc m)) (B m) (C m)
        (λ j g there. choices_counted rows contract patterns m j g w there) js (agree w within m enough) (null_says patterns f basis (B m))
        (unit_says patterns f) (λ k. tell_inside w within m enough k) in (
          d,
          subst (λ os. IsStruct c refl contract (In d) w (effective (flattened_in rows) x) os x.closed s)
              (ap (λ ns. matches_of (C (suc m)) (map enum_at ns) w) none)
              (struct_at c refl basis Refers settled w (C (suc m)) d (answers d) e x is plain.0
              (subst (λ k. ArePartsUnder contract rows (parts_in k)) is plain.3) s
              (subst (λ o. IsOwnDocument (Answer d) basis o s) at own)),
        )

    row_means : (m n : ℕ) (e : Entry) → entry_at rows n ≡ Some e → (x : Fields) → e.shape ≡ shape.struct x → HasNoEnums rows x.flatten
        → (w : Data) → B (suc m) n w ≡ has_fields contract (B m) [] (effective (flattened_in rows) x) x.closed w
    unfolding belongs_within
    row_means m n e at x is none w =
        ap (λ o. elim o as (λ z. Bool) [
          | None ↦ false
          | Some g ↦ has_shape contract patterns (key_options rows) (C m) (B m) (expanded_shape_in rows g.shape) w
        ]) at
        ∙ (ap (λ k. has_shape contract patterns (key_options rows) (C m) (B m) (expanded_shape_in rows k) w) is
        ∙ ap (λ ns. has_fields contract (B m) (matches_of (C m) (map enum_at ns) w) (effective (flattened_in rows) x) x.closed w) none)

    -- what is written for it beside the tag says what it means there
    content_says : (w : Data) → IsJson w → depth w ≤ top → (m : ℕ) → depth w * ranks < m → (tag : Text) (deny : Bool) (n : ℕ)
        → IsPlainContent rows tag n → (d : ℕ) → ((t : Data) → In d n t → (judge c t).fits w ≡ verdict (B m n w)) → (t : Data)
        → Answer d (content n) t → (name : Text)
        → (judge c (internally_tagged_variant tag name deny t)).fits w ≡ verdict (has_content (B m n) tag name w)
    content_says w js within zero less tag deny n fits d same t answer name = absurd (omega arith)
    content_says w js within (suc m) less tag deny n fits d same t answer name = row (entry_at rows n) refl fits
      where
        Goal : Data → Type 0
        Goal u = (judge c (internally_tagged_variant tag name deny u)).fits w ≡ verdict (has_content (B (suc m) n) tag name w)

        enough : depth w * ranks ≤ m
        enough = omega arith

        beside : (e : Entry) → entry_at rows n ≡ Some e → (x : Fields) → e.shape ≡ shape.struct x
            → IsNoName tag (effective (flattened_in rows) x) → HasNoEnums rows x.flatten → Goal t
        beside e at x is apart none = by answer.2.2
          where
            xs : List Field
            xs = effective (flattened_in rows) x

            fine : IsPlainShape (expanded_shape_in rows (shape.struct x))
            fine = subst (λ k. IsPlainShape (expanded_shape_in rows k)) is (subst (IsEntryUnder contract rows) at (settled.plain n)).1

            means : (o : Bool) → x.closed ≡ o → has_fields contract (B m) [] xs o ≡ B (suc m) n
            means o closed = fun_ext (λ u. ap (λ b. has_fields contract (B m) [] xs b u) (sym closed) ∙ sym (row_means m n e at x is none u))

            of_row : (o : Bool) → x.closed ≡ o → (u : Data) → (judge c (internally_tagged_variant tag name deny u)).fits w
                ≡ verdict (has_content (has_fields contract (B m) [] xs o) tag name w) → Goal u
            of_row o closed u h = h ∙ ap (λ p. verdict (has_content p tag name w)) (means o closed)

            in_place : (u : Data) → Describes basis Refers d n u → Goal u
            in_place u own =
                let a = struct_of w js within m enough d n e at x is none u own in
                of_row x.closed refl u (struct_beside patterns f contract (In a.0) w xs (B m) (schemas a.0) js (agree w within m enough a.0)
                tag name deny apart x.closed u fine.0 fine.1 a.1)

            by : ((must_be_in_place answer.0 answer.2.0 ≡ true) × (t ≡ opened_inside answer.2.0))
                ⊎ ((must_be_in_place answer.0 answer.2.0 ≡ false) × In d n t) → Goal t
            by (inl (must, opens)) =
                let a = struct_of w js within m enough d n e at x is none answer.2.0 answer.2.1 in
                subst Goal (sym (opens ∙ struct_stays patterns f contract (In a.0) w xs x.closed answer.2.0 a.1)) (in_place answer.2.0 answer.2.1)
            by (inr (may, inr own)) = in_place t own
            by (inr (may, inl (r, refers, is_reference))) =
                let a = struct_of w js within m enough d n e at x is none answer.2.0 answer.2.1 in
                let closed : x.closed ≡ false = struct_open patterns f contract (In a.0) w xs x.closed answer.2.0 a.1 answer.0 may in
                subst Goal (sym is_reference) (of_row false closed (reference r) (reference_beside patterns f contract (In d) w xs (B m) (schemas d)
                js (agree w within m enough d) tag name deny apart r
                (same (reference r) (inl (r, refers, refl)) ∙ ap (λ p. verdict (p w)) (sym (means false closed)))))

        row : (o : Option Entry) → entry_at rows n ≡ o → IsContentEntry rows tag o → Goal t
        row None at fits = absurd fits
        row (Some e) at fits = of_shape e.shape refl fits
          where
            of_shape : (k : Shape) → e.shape ≡ k → IsContentShape rows tag k → Goal t
            of_shape (shape.struct x) is fits = beside e at x is fits.0 fits.1
            of_shape _ is fits = absurd fits

    -- ---- shapes

    -- `ready` speaks of what is written for rows
    module _ (ready : (d j : ℕ) (t : Data) → In d j t → IsReady t) (v : Data) (json : IsJson v) (within : depth v ≤ top)
        (m : ℕ) (enough : depth v * ranks ≤ m) (d : ℕ) where
      abbrev tell : (n : ℕ) → depth v * ranks ≤ n → (d : ℕ) → Tell v n d
      tell = tell_inside v within

      abbrev Room : List Flattened → Type 0
      Room ps = HasRoom ranks v m ps

      -- the part that has the row's own values, or one inside the value
      abbrev Agrees : Shape → Type 0
      Agrees kind = (j : ℕ) (t w : Data) → In d j t → IsJson w → Inside kind v j w → (judge c t).fits w ≡ verdict (B m j w)

      -- ---- an enum whose variants have their names as keys

      told_each : (xs : List Variant) → ArePlainVariants (map each xs) → ArePartsUnder contract rows (variant_parts xs)
          → AreTold IsTold xs
      told_each [] fine under = tt
      told_each (x ∷ xs) fine under =
          let apart = under_apart contract rows (payload_parts x.payload) (variant_parts xs) under in
          (((fine.1, apart.0), fine.0), told_each xs fine.2 apart.1)

      -- ---- untagged

      abbrev TellsHere : Payload → Type 0
      TellsHere = PayloadTells patterns f basis (Answer d) (B m) (C m) v (flattened_in rows) (part_enums rows)

      payload_tells : (p : Payload) → IsTold p → Room (payload_parts p)
          → ((n : ℕ) (t : Data) → p ≡ newtype_payload n → In d n t → (judge c t).fits v ≡ verdict (B m n v))
          → TellsHere p
      payload_tells no_payload told room same us fit = (tt, null_says patterns f basis (B m) v)
      payload_tells (newtype_payload n) told room same [] fit = absurd fit
      payload_tells (newtype_payload n) told room same (t ∷ us) fit = (schemas d n t fit.0, same n t refl fit.0)
      payload_tells (tuple_payload ns) told room same us fit = (
        (tell m enough d (tuple_payload ns) told us fit).0,
        tuple_tells v within m enough d ns json us fit,
      )
      payload_tells (struct_payload y) told room same us fit = (
        (tell m enough d (struct_payload y) told us fit).0,
        struct_says v json within m enough d y room told tell us fit,
      )

      payloads_tell : (xs : List Variant) → ArePlainVariants (map each xs) → ArePartsUnder contract rows (variant_parts xs)
          → Room (variant_parts xs)
          → ((n : ℕ) (t : Data) → IsNewtypeIn n xs → In d n t → (judge c t).fits v ≡ verdict (B m n v))
          → AreTold TellsHere xs
      payloads_tell [] fine under room same = tt
      payloads_tell (x ∷ xs) fine under room same =
          let apart = under_apart contract rows (payload_parts x.payload) (variant_parts xs) under in
          let rooms = room_apart ranks v m (payload_parts x.payload) (variant_parts xs) room in (
            (payload_tells x.payload (fine.1, apart.0) rooms.0 (λ n t e is. same n t (inl e) is), fine.0),
            payloads_tell xs fine.2 apart.1 rooms.1 (λ n t later is. same n t (inr later) is),
          )

      -- ---- tagged inside

      abbrev StructTold : Fields → Type 0
      StructTold y = ArePartsUnder contract rows y.flatten × Room y.flatten

      -- `Known n` says that a newtype of row n is among the variants
      module _ (tag : Text) (Known : ℕ → Type 0) where
        abbrev Content : ℕ → Type 0
        Content n = Known n × IsPlainContent rows tag n

        abbrev Held : Payload → Type 0
        Held = IsHeld (effective (flattened_in rows)) StructTold Content

        inside_one : (p : Payload) → IsPlainPayload (spreads p) → IsTagged tag (spreads p) → HasContent (IsPlainContent rows) tag p
            → ((n : ℕ) → p ≡ newtype_payload n → Known n) → ArePartsUnder contract rows (payload_parts p) → Room (payload_parts p) → Held p
        inside_one no_payload fine tagged beside known under room = tt
        inside_one (newtype_payload n) fine tagged beside known under room = (known n refl, beside)
        inside_one (tuple_payload ns) fine tagged beside known under room = absurd tagged
        inside_one (struct_payload y) fine tagged beside known under room = ((under, room), fine.0, fine.1)

        inside_each : (xs : List Variant) → ArePlainVariants (map each xs) → AreTagged tag (map each xs)
            → HaveContents (IsPlainContent rows) tag xs → ((n : ℕ) → IsNewtypeIn n xs → Known n) → ArePartsUnder contract rows (variant_parts xs)
            → Room (variant_parts xs) → AreTold Held xs
        inside_each [] fine tagged contents known under room = tt
        inside_each (x ∷ xs) fine tagged contents known under room =
            let apart = under_apart contract rows (payload_parts x.payload) (variant_parts xs) under in
            let rooms = room_apart ranks v m (payload_parts x.payload) (variant_parts xs) room in (
              (inside_one x.payload fine.1 tagged.0 contents.0 (λ n is. known n (inl is)) apart.0 rooms.0, fine.0),
              inside_each xs fine.2 tagged.1 contents.1 (λ n later. known n (inr later)) apart.1 rooms.1,
            )

      -- ---- by shape

      pub shape_says : (kind : Shape) → Room (parts_in kind) → ((j : ℕ) → IsSame kind j → depth v * ranks < m)
          → IsPlainShape (expanded_shape_in rows kind) → ArePartsUnder contract rows (parts_in kind)
          → ShapeHasContents (IsPlainContent rows) kind → (s : Data) → Fills (Answer d) (template_of basis kind) s → Agrees kind
          → (judge c s).fits v ≡ verdict (has_shape contract patterns (key_options rows) (C m) (B m) (expanded_shape_in rows kind) v)
      shape_says (shape.struct x) room less fine under contents s h agree =
          rw h.is (struct_says v json within m enough d x room (fine, under) tell h.parts h.answered)
      shape_says (shape.enum shape.by_name xs) room less fine under contents s h agree =
          rw h.is (external_says patterns f contract (Answer d) (B m) (C m) v (flattened_in rows) (part_enums rows) IsTold json
          (tell m enough d) xs fine.0 (told_each xs fine.1 under) h.parts h.answered).1
      shape_says (shape.enum shape.by_nothing xs) room less fine under contents s h agree =
          rw h.is (untagged_says patterns f basis (Answer d) (B m) (C m) v (flattened_in rows) (part_enums rows) xs
          (payloads_tell xs fine under room (λ n t same w. agree n t v w json (inr (same, refl)))) h.parts h.answered).1
      shape_says (shape.enum (shape.by_tag tag closed) xs) room less fine under contents s h agree =
          rw h.is (internal_says patterns f contract (Answer d) (B m) (C m) v (flattened_in rows) (part_enums rows) tag closed StructTold
          (Content tag (λ n. IsNewtypeIn n xs)) json (schemas d) (λ j t w is js less. agree j t w is js (inl less))
          (λ y told us fit. struct_stands v json within m enough d y told.1 told.0 tell us fit)
          (λ n t known answer name. content_says v json within m (less n known.0) tag closed n known.1 d
          (λ u is. agree n u v is json (inr (known.0, refl))) t answer name) xs fine.0
          (inside_each tag (λ n. IsNewtypeIn n xs) xs fine.1 fine.2 contents (λ n is. is) under room) h.parts h.answered).1
      shape_says (shape.enum (shape.by_tag_and_content tag key closed) xs) room less fine under contents s h agree =
          rw h.is (adjacent_says patterns f contract (Answer d) (B m) (C m) v (flattened_in rows) (part_enums rows) tag key closed IsTold
          json (tell m enough d) fine.0 xs fine.1 (told_each xs fine.2 under) h.parts h.answered).1
      shape_says kind room less fine under contents s h agree =
          simple_says patterns f basis (Answer d) (B m) (C m) (flattened_in rows) (part_enums rows) (ready d) kind s tt fine
          (others_fill (Answer d) (flattened_in rows) basis kind s h.parts tt h.answered h.is) v json agree
