-- In a plain table a flattened struct has the document of a map with its fields, and null can be added to each document.
use Rattle.std.proofs.Common.{◌≡◌, inl, inr, ℕ, zero, suc, List, [], ◌∷◌, Option, Some, None, Bool, false, refl, sym, ap, ◌∙◌, subst, arith}
use Rattle.schemars_meaning.proofs.Words.{is_some, ◌&&◌, option_map_or, Data, Text, Dialect, allow_null, IsReady, Field, Flattened, Fields, Shape, Entry, entry_at, effective, flattened_in, part_enums, shape_fields, flattened_part, annotated, required_names, ArePlainParts, IsPlainEntry, Basis, Ask, asks_of, filled, template_of, struct_template, IsOwnDocument, IsAnswered, IsWritten, IsDraft, AcceptsNullToo, ready-law, option_at, part_fields, IsOpenStruct, IsPlainTable, IsNoContent, bare, part_same, parts_apart, fields_within, Describes}
use Rattle.schemars_meaning.proofs.Spread.{field_keywords, IsFieldsDocument, AnswersFields}
use Rattle.schemars_meaning.proofs.Flattening.{part-stays}
use Rattle.schemars_meaning.proofs.Filling.{Fit}
use Rattle.schemars_meaning.proofs.Flattened.{struct_fills}
use Rattle.schemars_meaning.proofs.Mapping.{fields_map, written_map, describes-wider}
use Rattle.schemars_meaning.proofs.ByShape.{IsDocument, own_document}
use Rattle.schemars_meaning.proofs.Notes.{ready-annotated}
use Rattle.schemars_meaning.proofs.Ready.{fields_ready, reference_ready}
use Rattle.schemars_meaning.proofs.Meanings.{shape_ready}

-- ---- what is flattened into a map

module _ (basis : Basis) (Refers : ℕ → Text → Type 0) where
  abbrev In : ℕ → ℕ → Data → Type 0
  In d = IsWritten Refers (Describes basis Refers d)

  -- what is answered by documents of this depth
  abbrev Answer : ℕ → Ask → Data → Type 0
  Answer d = IsAnswered basis.rows (λ m b. Unit {0}) (In d) (Describes basis Refers d)

  in_wider : (d j : ℕ) (t : Data) → In d j t → In (suc d) j t
  in_wider d = written_map Refers Refers (Describes basis Refers d) (Describes basis Refers (suc d)) (λ j r is. is)
      (describes-wider basis Refers Refers (λ j r is. is) d (suc d) (omega arith))

  -- `has d` says which fields a row has in a document of this depth
  module _ (plain : IsPlainTable basis.rows) (has : ℕ → ℕ → List Field)
      (settled : (d n : ℕ) → has (suc d) n
      ≡ option_map_or (λ e. shape_fields (part_fields basis.rows (has d)) e.shape) (entry_at basis.rows n) []) where
    abbrev part_has : ℕ → Flattened → List Field
    part_has d = part_fields basis.rows (has d)

    own_fields : (d : ℕ) → AnswersFields (part_has d) basis.rows basis.contract (Answer d) → (o : Option Entry) → IsPlainEntry basis.rows o
        → IsOpenStruct o → (t : Data) → IsOwnDocument (Answer d) basis o t
        → IsFieldsDocument (In d) basis.contract (option_map_or (λ e. shape_fields (part_has d) e.shape) o []) false t
    own_fields d fields None noted is t h = absurd h
    own_fields d fields (Some e) noted is t h =
        let own = own_document (Answer d) (part_has d) basis fields e t noted.2 h in
        let x = is.0 in
        let K : Shape → Type 0 = λ kind. IsDocument (Answer d) (part_has d) basis kind own.0 in
        let bare : IsFieldsDocument (In d) basis.contract (effective (part_has d) x) x.closed own.0 = subst K is.1 own.1 in
        let F : Bool → Data → Type 0 = λ b s. IsFieldsDocument (In d) basis.contract (effective (part_has d) x) b s in
        let all : F x.closed (annotated e.notes own.0) = record {
          parts = bare.parts;
          written = bare.written;
          notes = e.notes ∷ bare.notes;
          are_notes = (noted.0, bare.are_notes);
          is = ap (annotated e.notes) bare.is;
        } in
        let at_open : F false (annotated e.notes own.0) = subst (λ b. F b (annotated e.notes own.0)) is.2 all in
        let here : F false t = subst (F false) (sym own.2) at_open in
        subst (λ kind. IsFieldsDocument (In d) basis.contract (shape_fields (part_has d) kind) false t) (sym is.1) here

    -- an open struct answers the document of a map with its fields
    pub described_fields : (d : ℕ) → AnswersFields (part_has d) basis.rows basis.contract (Answer d)
    unfolding Describes
    described_fields zero p t is h = absurd h.1
    described_fields (suc d) p t is h =
        let alone = bare basis.rows p is in
        let none : option_at basis.rows p.ty ≡ None = alone.0 in
        let here : Describes basis Refers (suc d) p.ty h.0 = subst (λ n. Describes basis Refers (suc d) n h.0) alone.1 h.1 in
        let own = own_fields d (described_fields d) (entry_at basis.rows p.ty) (plain p.ty) is.0 h.0 here in
        let same : part_has (suc d) p ≡ has (suc d) p.ty = part_same basis.rows (has (suc d)) p is in
        let all : IsFieldsDocument (In (suc d)) basis.contract (part_has (suc d) p) false h.0 =
        subst (λ list. IsFieldsDocument (In (suc d)) basis.contract list false h.0) (sym (same ∙ settled d p.ty))
        (fields_map (In d) (In (suc d)) (in_wider d) basis.contract _ false h.0 own) in
        record {
          parts = all.parts;
          written = all.written;
          notes = all.notes;
          are_notes = all.are_notes;
          is = h.2
              ∙ ((λ i. flattened_part (is_some (none i) && false) (all.is i))
              ∙ part-stays all.notes (field_keywords (part_has (suc d) p) all.parts) (required_names basis.contract (part_has (suc d) p))
              all.are_notes);
        }

-- ---- each document of a plain table is one to which null can be added

module _ (basis : Basis) (Refers : ℕ → Text → Type 0) (plain : IsPlainTable basis.rows) where
  -- as far as the document goes down
  abbrev fields_at : ℕ → Flattened → List Field
  fields_at d = part_fields basis.rows (fields_within basis.rows d)

  fields_down : (d : ℕ) → AnswersFields (fields_at d) basis.rows basis.contract (Answer basis Refers d)
  unfolding fields_within
  fields_down d = described_fields basis Refers plain (fields_within basis.rows) (λ e n. refl) d

  -- the document of an open struct stays where it is flattened
  pub described_stays : (d n : ℕ) (t : Data) → IsOpenStruct (entry_at basis.rows n) → Describes basis Refers d n t
      → flattened_part false t ≡ t
  unfolding Describes fields_within
  described_stays zero n t is h = absurd h
  described_stays (suc d) n t is h =
      let has = fields_at d in
      let own =
      own_fields basis Refers plain (fields_within basis.rows) (λ e m. refl) d (fields_down d) (entry_at basis.rows n) (plain n) is t h in
      let list = option_map_or (λ e. shape_fields has e.shape) (entry_at basis.rows n) [] in
      ap (flattened_part false) own.is
      ∙ (part-stays own.notes (field_keywords list own.parts) (required_names basis.contract list) own.are_notes ∙ sym own.is)

  own_ready : (d : ℕ) → ((j : ℕ) (t : Data) → In basis Refers d j t → IsReady t) → (o : Option Entry) → IsPlainEntry basis.rows o
      → (t : Data) → IsOwnDocument (Answer basis Refers d) basis o t → IsReady t
  own_ready d ready None noted t is = absurd is
  own_ready d ready (Some e) noted t is =
      let structs : (y : Fields) → ArePlainParts basis.rows y.flatten → (us : List Data)
      → Fit (Answer basis Refers d) (asks_of (struct_template basis.contract y)) us
      → IsReady (filled (struct_template basis.contract y) us) =
      λ y flat us fit. fields_ready (In basis Refers d) basis.contract _ y.closed _
      (struct_fills (Answer basis Refers d) (fields_at d) basis.rows basis.contract (fields_down d) y flat us fit) in
      subst IsReady (sym is.is) (ready-annotated e.notes (filled (template_of basis e.shape) is.parts) noted.0
      (shape_ready (Answer basis Refers d) basis (ArePlainParts basis.rows) (parts_apart basis.rows) ready structs
      (flattened_in basis.rows) (part_enums basis.rows) IsNoContent (λ tag n t fits answer. absurd fits) e.shape noted.1 noted.2 noted.3 is.parts
      is.answered))

  written_by : (d : ℕ) → ((j : ℕ) (t : Data) → Describes basis Refers d j t → IsReady t) → (j : ℕ) (t : Data) → In basis Refers d j t
      → IsReady t
  written_by d own j t (inl h) = rw h.2 (reference_ready h.0)
  written_by d own j t (inr h) = own j t h

  pub described_ready : (d n : ℕ) (t : Data) → Describes basis Refers d n t → IsReady t
  unfolding Describes
  described_ready zero n t h = absurd h
  described_ready (suc d) n t h = own_ready d (written_by d (described_ready d)) (entry_at basis.rows n) (plain n) t h

  pub written_ready : (d n : ℕ) (t : Data) → In basis Refers d n t → IsReady t
  written_ready d n t h = written_by d (described_ready d) n t h

  -- with null added, what is written for a row accepts under each draft what it accepted, and null
  pub written_or_null : (d n : ℕ) (t : Data) → In basis Refers d n t → (dialect : Dialect) → IsDraft dialect
      → AcceptsNullToo dialect t (allow_null t)
  written_or_null d n t h dialect draft = ready-law dialect draft t (written_ready d n t h)
