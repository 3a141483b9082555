-- What fills the template of a struct is the document of a map with its own fields and those of the rows flattened into it.
use Rattle.std.proofs.Common.{◌≡◌, ℕ, List, [], ◌∷◌, ◌++◌, Bool, true, false, map, refl, sym, ap, ◌∙◌, subst, append_assoc, append-nil}
use Rattle.schemars_meaning.proofs.Words.{if◌then◌else◌, Data, Members, Text, text_items, flattened, Field, Flattened, Fields, is_required, Row, effective, flattened_fields, Keyword, annotated, required_names, IsPlainPart, ArePlainParts, Ask, part, members_of, Template, asked, asks_of, asks_in, filled, filled_in, first, keyed, templates_of, property, map_template, with_flattened, struct_template, fields_template, with_keywords}
use Rattle.schemars_types.specs.declared.contract.Contract.{Contract}
use Rattle.schemars_types.specs.declared.contract.Contract.TheVariants.{Deserialize, Serialize}
use Rattle.schemars_meaning.proofs.MapDocument.{map_document, noted_by, AllNotes}
use Rattle.schemars_meaning.proofs.Spread.{field_keywords, AreWritten, IsFieldsDocument, AnswersFields}
use Rattle.schemars_meaning.proofs.Flattening.{flattened-maps}
use Rattle.schemars_meaning.proofs.Filling.{Fit, without_end, parted}

-- ---- notes and fields behind each other

pub noted_by-append : (ns ms : List Members) (s : Data) → noted_by (ns ++ ms) s ≡ noted_by ns (noted_by ms s)
noted_by-append [] ms s = refl
noted_by-append (n ∷ ns) ms s = ap (annotated n) (noted_by-append ns ms s)

pub AllNotes-append : (ns ms : List Members) → AllNotes ns → AllNotes ms → AllNotes (ns ++ ms)
AllNotes-append [] ms a b = b
AllNotes-append (n ∷ ns) ms a b = (a.0, AllNotes-append ns ms a.1 b)

pub required_names-append : (contract : Contract) (xs ys : List Field)
    → required_names contract (xs ++ ys) ≡ required_names contract xs ++ required_names contract ys
required_names-append contract [] ys = refl
required_names-append contract (x ∷ xs) ys = go (is_required contract x.required) (required_names-append contract xs ys)
  where
    go : (b : Bool) → required_names contract (xs ++ ys) ≡ required_names contract xs ++ required_names contract ys
        → (if b then x.name ∷ required_names contract (xs ++ ys) else required_names contract (xs ++ ys))
        ≡ (if b then x.name ∷ required_names contract xs else required_names contract xs) ++ required_names contract ys
    go true later = ap (λ ks. x.name ∷ ks) later
    go false later = later

-- what is flattened in a plain table must be present
pub must_be_present : (rows : List Row) (contract : Contract) (p : Flattened) → IsPlainPart rows p → is_required contract p.required ≡ true
must_be_present rows Deserialize p plain = plain.1
must_be_present rows Serialize p plain = plain.2

module _ (W : ℕ → Data → Type 0) where
  pub AreWritten-append : (xs ys : List Field) (ts us : List Data) → AreWritten W xs ts → AreWritten W ys us
      → AreWritten W (xs ++ ys) (ts ++ us)
  AreWritten-append [] ys ts us a b = subst (λ ws. AreWritten W ys (ws ++ us)) (sym a) b
  AreWritten-append (x ∷ xs) ys [] us a b = absurd a
  AreWritten-append (x ∷ xs) ys (t ∷ ts) us a b = (a.0, AreWritten-append xs ys ts us a.1 b)

  pub field_keywords-append : (xs ys : List Field) (ts us : List Data) → AreWritten W xs ts
      → field_keywords (xs ++ ys) (ts ++ us) ≡ field_keywords xs ts ++ field_keywords ys us
  field_keywords-append [] ys ts us a = ap (λ ws. field_keywords ys (ws ++ us)) a
  field_keywords-append (x ∷ xs) ys [] us a = absurd a
  field_keywords-append (x ∷ xs) ys (t ∷ ts) us a =
      ap (λ es. (x.name, annotated x.notes t) ∷ es) (field_keywords-append xs ys ts us a.1)

  -- the fields of one map among those of another
  joined : (contract : Contract) (xs ys : List Field) (closed : Bool) (s u : Data) → IsFieldsDocument W contract xs closed s
      → IsFieldsDocument W contract ys false u → IsFieldsDocument W contract (xs ++ ys) closed (flattened s u)
  joined contract xs ys closed s u a b = record {
    parts = a.parts ++ b.parts;
    written = AreWritten-append xs ys a.parts b.parts a.written b.written;
    notes = a.notes ++ b.notes;
    are_notes = AllNotes-append a.notes b.notes a.are_notes b.are_notes;
    is = (λ i. flattened (a.is i) (b.is i))
        ∙ (flattened-maps a.notes b.notes (field_keywords xs a.parts) (field_keywords ys b.parts) (required_names contract xs)
        (required_names contract ys) closed a.are_notes b.are_notes
        ∙ ((λ i. noted_by a.notes (noted_by b.notes (map_document (sym (field_keywords-append xs ys a.parts b.parts a.written) i)
        (sym (required_names-append contract xs ys) i) closed)))
        ∙ sym (noted_by-append a.notes b.notes _)));
  }

-- ---- what fills templates of fields

module _ (A : Ask → Data → Type 0) where
  abbrev W : ℕ → Data → Type 0
  W j = A (part j)

  abbrev asks_at : List Field → List Ask
  asks_at xs = asks_in (templates_of (map (λ e. e.1) (map property xs)))

  abbrev keywords_at : List Field → List Data → List Keyword
  keywords_at xs ts = keyed (map (λ e. e.0) (map property xs)) (filled_in (templates_of (map (λ e. e.1) (map property xs))) ts)

  fields_fill : (xs : List Field) (ts : List Data) → Fit A (asks_at xs) ts
      → (us : List Data) × AreWritten W xs us × (keywords_at xs ts ≡ field_keywords xs us)
  fields_fill [] ts h = ([], refl, refl)
  fields_fill (x ∷ xs) [] h = absurd h
  fields_fill (x ∷ xs) (t ∷ ts) h =
      let later = fields_fill xs ts h.1 in
      (t ∷ later.0, (h.0, later.1), ap (λ es. (x.name, annotated x.notes t) ∷ es) later.2)

  abbrev MapFills : List Field → List Text → Bool → List Data → Type 0
  MapFills xs ks closed ts = (us : List Data) × AreWritten W xs us
      × (filled (map_template (map property xs) (text_items ks) closed) ts ≡ map_document (field_keywords xs us) ks closed)

  pub map_fills : (xs : List Field) (ks : List Text) (closed : Bool) (ts : List Data)
      → Fit A (asks_of (map_template (map property xs) (text_items ks) closed)) ts → MapFills xs ks closed ts
  map_fills [] [] false ts h = ([], refl, refl)
  map_fills [] [] true ts h = ([], refl, refl)
  map_fills [] (k ∷ ks) false ts h = ([], refl, refl)
  map_fills [] (k ∷ ks) true ts h = ([], refl, refl)
  map_fills (x ∷ xs) ks closed [] h = nothing ks closed h
    where
      nothing : (ks : List Text) (closed : Bool) → Fit A (asks_of (map_template (map property (x ∷ xs)) (text_items ks) closed)) []
          → MapFills (x ∷ xs) ks closed []
      nothing [] false h = absurd h
      nothing [] true h = absurd h
      nothing (k ∷ ks) false h = absurd h
      nothing (k ∷ ks) true h = absurd h
  map_fills (x ∷ xs) ks closed (t ∷ ts) h = by_keywords ks closed h
    where
      more : (ks : List Text) (closed : Bool) (later : (us : List Data) × AreWritten W xs us × (keywords_at xs ts ≡ field_keywords xs us))
          → W x.ty t → filled (map_template (map property (x ∷ xs)) (text_items ks) closed) (t ∷ ts)
          ≡ map_document ((x.name, annotated x.notes t) ∷ keywords_at xs ts) ks closed
          → MapFills (x ∷ xs) ks closed (t ∷ ts)
      more ks closed later here same =
          (t ∷ later.0, (here, later.1), same ∙ ap (λ es. map_document ((x.name, annotated x.notes t) ∷ es) ks closed) later.2)

      by_keywords : (ks : List Text) (closed : Bool)
          → Fit A (asks_of (map_template (map property (x ∷ xs)) (text_items ks) closed)) (t ∷ ts) → MapFills (x ∷ xs) ks closed (t ∷ ts)
      by_keywords [] false h = more [] false (fields_fill xs ts (without_end A (asks_at xs) ts h.1)) h.0 refl
      by_keywords [] true h = more [] true (fields_fill xs ts (without_end A (asks_at xs) ts h.1)) h.0 refl
      by_keywords (k ∷ ks) false h = more (k ∷ ks) false (fields_fill xs ts (without_end A (asks_at xs) ts h.1)) h.0 refl
      by_keywords (k ∷ ks) true h = more (k ∷ ks) true (fields_fill xs ts (without_end A (asks_at xs) ts h.1)) h.0 refl

  -- ---- with flattened rows

  module _ (has : Flattened → List Field) (rows : List Row) (contract : Contract) (fields : AnswersFields has rows contract A) where
    abbrev FieldsFill : Template → List Field → Bool → Type 0
    FieldsFill t xs closed = (us : List Data) → Fit A (asks_of t) us → IsFieldsDocument W contract xs closed (filled t us)

    own_fill : (xs : List Field) (closed : Bool) → FieldsFill (fields_template contract xs closed) xs closed
    own_fill xs closed us fit =
        let all = map_fills xs (required_names contract xs) closed us fit in
        record { parts = all.0; written = all.1; notes = []; are_notes = tt; is = all.2 }

    part_fills : (p : Flattened) (t : Template) (xs : List Field) (closed : Bool) → IsPlainPart rows p → FieldsFill t xs closed
        → FieldsFill (with_keywords t (asked (members_of p.ty (is_required contract p.required)))) (xs ++ has p) closed
    part_fills p t xs closed plain own us fit =
        let ask : Ask = members_of p.ty (is_required contract p.required) in
        let s = parted A t (ask ∷ []) us fit in
        let P : Data → Type 0 = λ d. IsFieldsDocument W contract (xs ++ has p) closed d in
        subst P (λ i. flattened (sym s.4 i) (first (sym s.5 i)))
        (joined W contract xs (has p) closed (filled t s.0) (first s.1) (own s.0 s.2) (answered s.1 s.3))
      where
        answered : (b : List Data) → Fit A (members_of p.ty (is_required contract p.required) ∷ []) b
            → IsFieldsDocument W contract (has p) false (first b)
        answered [] h = absurd h
        answered (u ∷ b) h =
            let Q : Bool → Type 0 = λ r. A (members_of p.ty r) u in fields p u plain (subst Q (must_be_present rows contract p plain) h.0)

    parts_fill : (ps : List Flattened) (t : Template) (xs : List Field) (closed : Bool) → ArePlainParts rows ps → FieldsFill t xs closed
        → FieldsFill (with_flattened contract ps t) (xs ++ flattened_fields has ps) closed
    parts_fill [] t xs closed plain own us fit =
        subst (λ ys. IsFieldsDocument W contract ys closed (filled t us)) (sym (append-nil xs)) (own us fit)
    parts_fill (p ∷ ps) t xs closed plain own us fit =
        let u : Template = with_keywords t (asked (members_of p.ty (is_required contract p.required))) in
        subst (λ ys. IsFieldsDocument W contract ys closed (filled (with_flattened contract ps u) us))
        (append_assoc xs (has p) (flattened_fields has ps))
        (parts_fill ps u (xs ++ has p) closed plain.1 (part_fills p t xs closed plain.0 own) us fit)

    -- a struct's own fields come first, and those of the rows that are flattened into it behind them
    pub struct_fills : (x : Fields) → ArePlainParts rows x.flatten → (us : List Data) → Fit A (asks_of (struct_template contract x)) us
        → IsFieldsDocument W contract (effective has x) x.closed (filled (struct_template contract x) us)
    struct_fills x plain = parts_fill x.flatten (fields_template contract x.list x.closed) x.list x.closed plain (own_fill x.list x.closed)
