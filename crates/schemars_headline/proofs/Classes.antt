-- In a plain table each document of a row is one that the laws of the drafts speak of.
use Rattle.std.proofs.Common.{◌≡◌, ℕ, zero, suc, inl, inr, List, [], ◌∷◌, ◌++◌, map, Option, Some, None, Bool, true, false, codes, refl, sym, subst}
use Rattle.schemars_headline.proofs.Words.{is_some, if◌then◌else◌, option_map_or, Data, Members, Text, get_member, Everywhere, IsName, HasPlainItems, weaker, text-alone, Stands, IsForOpenApi, draft2020_12, AreNotes, Shape, Field, Fields, Flattened, Entry, Row, entry_at, option_at, AreNoted, IsPlainTable, IsNotedThroughout, HasPlainNotesThroughout, Basis, Ask, asks_of, filled, struct_template, template_of, IsOwnDocument, IsWritten, Fit, plain_rows, Named, IsDraft07, none-plain, text-named, Required, effective, shape_fields, required_only_if, part_fields, flattened_in, part_enums, expanded_shape_in, IsPlainShape, IsNoContent, ShapeHasContents, content, ArePlainParts, parts_in, IsPlainEntry, IsNotedShape, IsAnswered, parts_apart, AnswersFields, struct_fills, described_fields, fields_within, Describes}
use Rattle.schemars_shapes.specs.Shape as shape
use Rattle.schemars_types.specs.Effective.{without_options}
use Rattle.schemars_headline.proofs.Changes.{Demand, IsDraft2019_09, IsGood, good-annotated}
use Rattle.schemars_headline.proofs.Documents.{reference-good, fields-good}
use Rattle.schemars_headline.proofs.Filled.{noted-effective, shape-makes}

-- ---- fields

-- the own fields of each row are noted, so that those of flattened rows are
module _ (rows : List Row) (noted : HasPlainNotesThroughout rows) where
  noted-shape : (has : Flattened → List Field) → ((p : Flattened) → AreNoted (has p)) → (kind : Shape) → IsNotedShape kind
      → AreNoted (shape_fields has kind)
  noted-shape has all (shape.struct x) own = noted-effective has all x own
  noted-shape has all kind own = tt

  noted-entry : (has : Flattened → List Field) → ((p : Flattened) → AreNoted (has p)) → (o : Option Entry) → IsNotedThroughout o
      → AreNoted (option_map_or (λ e. shape_fields has e.shape) o [])
  noted-entry has all None own = tt
  noted-entry has all (Some e) own = noted-shape has all e.shape own.1

  -- fields that need not be there have the same notes
  noted-weakened : (r : Required) (xs : List Field) → AreNoted xs → AreNoted (map (required_only_if r) xs)
  noted-weakened r [] h = tt
  noted-weakened r (x ∷ xs) h = (h.0, noted-weakened r xs h.1)

  noted-part : (own : ℕ → List Field) → ((n : ℕ) → AreNoted (own n)) → (p : Flattened) → AreNoted (part_fields rows own p)
  noted-part own all p = go (is_some (option_at rows p.ty))
    where
      go : (b : Bool) → AreNoted (if b then map (required_only_if p.required) (own (without_options rows p.ty))
          else own (without_options rows p.ty))
      go true = noted-weakened p.required (own (without_options rows p.ty)) (all (without_options rows p.ty))
      go false = all (without_options rows p.ty)

  noted-within : (d n : ℕ) → AreNoted (fields_within rows d n)
  unfolding fields_within
  noted-within zero n = tt
  noted-within (suc d) n =
      noted-entry (part_fields rows (fields_within rows d)) (noted-part (fields_within rows d) (noted-within d)) (entry_at rows n) (noted n)

-- ---- the documents of rows

-- what a table says of a row that it has; `Fits` says which rows may stand beside a tag
abbrev pub IsNotedUnder : List Row → (Text → ℕ → Type 0) → (List Flattened → Type 0) → Entry → Type 0
IsNotedUnder rows Fits Under e =
    AreNotes e.notes × (IsPlainShape (expanded_shape_in rows e.shape) × ShapeHasContents Fits e.shape) × IsNotedShape e.shape
    × Under (parts_in e.shape)

module _ (R : Demand) (basis : Basis) (Refers : ℕ → Text → Type 0) (names : (j : ℕ) (r : Text) → Refers j r → R.refers r) where
  abbrev pub In : ℕ → ℕ → Data → Type 0
  In d = IsWritten Refers (Describes basis Refers d)

  abbrev pub Answer : ℕ → Ask → Data → Type 0
  Answer d = IsAnswered basis.rows (λ m b. Unit {0}) (In d) (Describes basis Refers d)

  abbrev pub PartsGood : ℕ → Type 0
  PartsGood d = (j : ℕ) (t : Data) → In d j t → IsGood R t

  -- what fills the template of a struct is of the class, where its parts are
  abbrev pub StructsGood : (List Flattened → Type 0) → ℕ → Type 0
  StructsGood Under d =
      PartsGood d → (y : Fields) → AreNoted y.list → Under y.flatten → (us : List Data)
      → Fit (Answer d) (asks_of (struct_template basis.contract y)) us → IsGood R (filled (struct_template basis.contract y) us)

  -- what stands beside a tag is written as a part is
  abbrev pub AreWrittenBeside : (Text → ℕ → Type 0) → ℕ → Type 0
  AreWrittenBeside Fits d = (tag : Text) (n : ℕ) (t : Data) → Fits tag n → Answer d (content n) t → In d n t

  module _ (Fits : Text → ℕ → Type 0) (Under : List Flattened → Type 0)
      (apart : (ps qs : List Flattened) → Under (ps ++ qs) → Under ps × Under qs)
      (entries : (n : ℕ) (e : Entry) → entry_at basis.rows n ≡ Some e → IsNotedUnder basis.rows Fits Under e)
      (structs : (d : ℕ) → StructsGood Under d) (contents : (d : ℕ) → AreWrittenBeside Fits d) where
    own-good : (d : ℕ) → PartsGood d → (o : Option Entry) → ((e : Entry) → o ≡ Some e → IsNotedUnder basis.rows Fits Under e) → (t : Data)
        → IsOwnDocument (Answer d) basis o t → IsGood R t
    own-good d parts None entry t h = absurd h
    own-good d parts (Some e) entry t h =
        let told = entry e refl in
        subst (IsGood R) (sym h.is) (good-annotated R e.notes (filled (template_of basis e.shape) h.parts) told.0
        (shape-makes R (Answer d) basis Under apart (structs d parts) parts (flattened_in basis.rows) (part_enums basis.rows) Fits
        (λ tag n u fits answer. parts n u (contents d tag n u fits answer)) e.shape (told.1, told.2, told.3) h.parts h.answered))

    written-by : (d : ℕ) → ((j : ℕ) (t : Data) → Describes basis Refers d j t → IsGood R t) → PartsGood d
    written-by d own j t (inl h) = subst (IsGood R) (sym h.2) (reference-good R h.0 (names j h.0 h.1))
    written-by d own j t (inr h) = own j t h

    pub each-good : (d n : ℕ) (t : Data) → Describes basis Refers d n t → IsGood R t
    unfolding Describes
    each-good zero n t h = absurd h
    each-good (suc d) n t h = own-good d (written-by d (each-good d)) (entry_at basis.rows n) (entries n) t h

  -- ---- in a plain table

  module _ (plain : IsPlainTable basis.rows) where
    abbrev fields_at : ℕ → Flattened → List Field
    fields_at d = part_fields basis.rows (fields_within basis.rows d)

    fields_down : (d : ℕ) → AnswersFields (fields_at d) basis.rows basis.contract (Answer d)
    unfolding fields_within
    fields_down d = described_fields basis Refers plain (fields_within basis.rows) (λ e n. refl) d

    plain-entry : (n : ℕ) (e : Entry) → entry_at basis.rows n ≡ Some e → IsNotedUnder basis.rows IsNoContent (ArePlainParts basis.rows) e
    plain-entry n e at =
        let entry : IsPlainEntry basis.rows (Some e) = subst (IsPlainEntry basis.rows) at (plain n) in
        let own : IsNotedThroughout (Some e) = subst IsNotedThroughout at (plain_rows basis.rows plain n) in
        (entry.0, (entry.1, entry.3), own.1, entry.2)

    plain-structs : (d : ℕ) → StructsGood (ArePlainParts basis.rows) d
    plain-structs d parts y own flat us fit =
        fields-good R (In d) parts basis.contract (effective (fields_at d) y) y.closed _
        (noted-effective (fields_at d) (noted-part basis.rows (plain_rows basis.rows plain) (fields_within basis.rows d)
        (noted-within basis.rows (plain_rows basis.rows plain) d)) y own)
        (struct_fills (Answer d) (fields_at d) basis.rows basis.contract (fields_down d) y flat us fit)

    pub described-good : (d n : ℕ) (t : Data) → Describes basis Refers d n t → IsGood R t
    described-good = each-good IsNoContent (ArePlainParts basis.rows) (parts_apart basis.rows) plain-entry plain-structs
        (λ d tag n t fits answer. absurd fits)

-- ---- where references are names

pub class-named : (key : Text) (ms : Members) → Stands (IsName key) IsForOpenApi ms → Named draft2020_12 key IsDraft07 ms
class-named key ms is = (
  text-named (IsName key) (get_member (codes "$ref") ms) is.reference,
  none-plain draft2020_12 ms is.own.unevaluated,
  (is.own.unevaluated, (is.once, text-alone (IsName key) (get_member (codes "$ref") ms) is.reference, is.own.all_of), is.own.items),
)

pub good-named : (key : Text) (s : Data) → Everywhere (Stands (IsName key) IsForOpenApi) s
    → Everywhere (Named draft2020_12 key IsDraft07) s
good-named key s is = weaker (Stands (IsName key) IsForOpenApi) (Named draft2020_12 key IsDraft07) (class-named key) s is

pub items-named : (key : Text) (s : Data) → Everywhere (Stands (IsName key) IsDraft2019_09) s
    → Everywhere (Named draft2020_12 key HasPlainItems) s
items-named key s is =
    weaker (Stands (IsName key) IsDraft2019_09) (Named draft2020_12 key HasPlainItems)
    (λ ms h. (text-named (IsName key) (get_member (codes "$ref") ms) h.reference, h.own.0, h.own.1)) s is
