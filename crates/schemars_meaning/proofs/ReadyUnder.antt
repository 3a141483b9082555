-- Null can be added to each document of a table that is plain under its contract.
use Rattle.std.proofs.Common.{◌≡◌, ◌⊎◌, inl, inr, ℕ, zero, suc, ◌<◌, List, true, false, ◌∙◌, Option, Some, None, refl, sym, subst, arith}
use Rattle.schemars_meaning.proofs.Words.{IsContentEntry, IsContentShape, IsPlainContent, ShapeHasContents, content, opened_inside, must_be_in_place, effective, Data, null, Text, Patterns, Judge, context2020_12, IsReady, Fields, Shape, Entry, entry_at, flattened_in, part_enums, expanded_shape_in, IsPlainShape, ArePartsUnder, IsEntryUnder, parts_in, Basis, Ask, asks_of, filled, struct_template, template_of, Fills, IsOwnDocument, IsAnswered, IsWritten, Describes}
use Rattle.schemars_shapes.specs.Shape as shape
use Rattle.schemars_meaning.proofs.Filling.{Fit}
use Rattle.schemars_meaning.proofs.Notes.{ready-annotated}
use Rattle.schemars_meaning.proofs.Meanings.{shape_ready}
use Rattle.schemars_meaning.proofs.Ready.{reference_ready}
use Rattle.schemars_meaning.proofs.StructReady.{map_with_parts_ready}
use Rattle.schemars_meaning.proofs.PartsDescribed.{under_apart}
use Rattle.schemars_meaning.proofs.ShapesCounted.{struct_of, struct_stands, tell_inside}
use Rattle.schemars_meaning.proofs.Contents.{struct_stays}
use Rattle.schemars_meaning.proofs.SettledTables.{IsSettled}

module _ (patterns : Patterns) (f : Text → Judge) (basis : Basis) (Refers : ℕ → Text → Type 0)
    (settled : IsSettled basis) (ranks : ℕ) (some : 0 < ranks) where
  open basis use {rows, contract}

  abbrev In : ℕ → ℕ → Data → Type 0
  In d = IsWritten Refers (Describes basis Refers d)

  abbrev Answer : ℕ → Ask → Data → Type 0
  Answer d = IsAnswered rows (λ m b. Unit {0}) (In d) (Describes basis Refers d)

  -- its form is the same whatever value is looked at
  structs : (d : ℕ) (y : Fields) → ArePartsUnder contract rows y.flatten → (us : List Data)
      → Fit (Answer d) (asks_of (struct_template contract y)) us → IsReady (filled (struct_template contract y) us)
  structs d y under us fit =
      map_with_parts_ready (context2020_12 patterns f) refl contract (In d) null _ _ y.closed _
      (struct_stands patterns f basis Refers settled ranks some zero
      (λ d j t w is js less. absurd (omega arith)) null tt (omega arith) 1 (omega arith) d y (inr (omega arith)) under
      (tell_inside patterns f basis Refers settled ranks some zero
      (λ d j t w is js less. absurd (omega arith)) null (omega arith)) us fit)

  -- what stands beside a tag is written as a part is
  pub beside_written : (d : ℕ) (tag : Text) (n : ℕ) (t : Data) → IsPlainContent rows tag n → Answer d (content n) t → In d n t
  beside_written d tag n t fits answer = by (entry_at rows n) refl fits answer.2.2
    where
      struct : (e : Entry) → entry_at rows n ≡ Some e → (k : Shape) → e.shape ≡ k → IsContentShape rows tag k → opened_inside answer.2.0 ≡ answer.2.0
      struct e at (shape.struct x) is fits =
          let a = struct_of patterns f basis Refers settled ranks some zero (λ d j t w is js less. absurd (omega arith)) null tt (omega arith) 0
          (omega arith) d n e at x is fits.1 answer.2.0 answer.2.1 in
          struct_stays patterns f contract (In a.0) null (effective (flattened_in rows) x) x.closed answer.2.0 a.1
      struct e at _ is fits = absurd fits

      by : (o : Option Entry) → entry_at rows n ≡ o → IsContentEntry rows tag o
          → ((must_be_in_place answer.0 answer.2.0 ≡ true) × (t ≡ opened_inside answer.2.0))
          ⊎ ((must_be_in_place answer.0 answer.2.0 ≡ false) × In d n t) → In d n t
      by None at fits how = absurd fits
      by (Some e) at fits (inl opens) =
          inr (subst (Describes basis Refers d n) (sym (opens.1 ∙ struct e at e.shape refl fits)) answer.2.1)
      by (Some e) at fits (inr written) = written.1

  pub bare_ready : (d : ℕ) → ((j : ℕ) (t : Data) → In d j t → IsReady t) → (kind : Shape) (s : Data) → IsPlainShape (expanded_shape_in rows kind)
      → ArePartsUnder contract rows (parts_in kind) → ShapeHasContents (IsPlainContent rows) kind → Fills (Answer d) (template_of basis kind) s
      → IsReady s
  bare_ready d ready kind s fine under contents h =
      subst IsReady (sym h.is) (shape_ready (Answer d) basis (ArePartsUnder contract rows) (under_apart contract rows) ready (structs d)
      (flattened_in rows) (part_enums rows) (IsPlainContent rows)
      (λ tag n t fits answer. ready n t (beside_written d tag n t fits answer)) kind fine under contents h.parts h.answered)

  own_ready : (d : ℕ) → ((j : ℕ) (t : Data) → In d j t → IsReady t) → (o : Option Entry) → IsEntryUnder contract rows o
      → (t : Data) → IsOwnDocument (Answer d) basis o t → IsReady t
  own_ready d ready None under t is = absurd is
  own_ready d ready (Some e) under t is =
      subst IsReady (sym is.is) (ready-annotated e.notes (filled (template_of basis e.shape) is.parts) under.0
      (bare_ready d ready e.shape (filled (template_of basis e.shape) is.parts) under.1 under.3 under.4
      (record { parts = is.parts; answered = is.answered; is = refl })))

  written_by : (d : ℕ) → ((j : ℕ) (t : Data) → Describes basis Refers d j t → IsReady t) → (j : ℕ) (t : Data) → In d j t → IsReady t
  written_by d own j t (inl h) = subst IsReady (sym h.2) (reference_ready h.0)
  written_by d own j t (inr h) = own j t h

  described_ready : (d n : ℕ) (t : Data) → Describes basis Refers d n t → IsReady t
  unfolding Describes
  described_ready zero n t h = absurd h
  described_ready (suc d) n t h = own_ready d (written_by d (described_ready d)) (entry_at rows n) (settled.plain n) t h

  pub written_ready : (d n : ℕ) (t : Data) → In d n t → IsReady t
  written_ready d n t h = written_by d (described_ready d) n t h
