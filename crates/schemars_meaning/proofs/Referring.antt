-- What holds of each reference to a row holds of those of what describes a row.
use Rattle.std.proofs.Common.{◌≡◌, ℕ, List, [], ◌∷◌, Bool, Option, Some, None, subst}
use Rattle.schemars_meaning.proofs.Words.{All, AllByRecursion, All-nil, All-cons, Data, string, Text, IsSchema, references, opened_inside, flattened_part, Entry, Row, entry_at, reference, IsPlainEntry, IsEntryUnder, IsPlainUnder, Basis, filled, entry_template, IsWritten, Describes, found_in, flattened_part-schema, opened_inside-schema, IsPlainTable, IsNotedThroughout, HasPlainNotesThroughout, flattened_part-refers, opened_inside-refers}
use Rattle.schemars_types.specs.declared.contract.Contract.{Contract}
use Rattle.schemars_meaning.proofs.Parts.{described_holds, written_holds}
use Rattle.schemars_meaning.proofs.References.{plain-shape_noted, all_refer}
use Rattle.schemars_meaning.proofs.Schemas.{AreSchemas, filled_schema}

pub plain_rows : (rows : List Row) → IsPlainTable rows → HasPlainNotesThroughout rows
plain_rows rows plain n = go (entry_at rows n) (plain n)
  where
    go : (o : Option Entry) → IsPlainEntry rows o → IsNotedThroughout o
    go None h = tt
    go (Some e) h = (h.0, plain-shape_noted rows e.shape h.1)

pub under_rows : (contract : Contract) (rows : List Row) → IsPlainUnder contract rows → HasPlainNotesThroughout rows
under_rows contract rows plain n = go (entry_at rows n) (plain n)
  where
    go : (o : Option Entry) → IsEntryUnder contract rows o → IsNotedThroughout o
    go None h = tt
    go (Some e) h = (h.0, plain-shape_noted rows e.shape h.1)

module _ (P : Data → Type 0) where
  -- a schema whose references pass
  abbrev pub IsReferring : Data → Type 0
  IsReferring t = IsSchema t × All P (references t)

  part_refers : (b : Bool) (s : Data) → IsReferring s → IsReferring (flattened_part b s)
  part_refers b s h = (flattened_part-schema b s h.0, flattened_part-refers P b s h.1)

  inside_refers : (s : Data) → IsReferring s → IsReferring (opened_inside s)
  inside_refers s h = (opened_inside-schema s h.0, opened_inside-refers P s h.1)

  module _ (basis : Basis) (Refers : ℕ → Text → Type 0) (noted : HasPlainNotesThroughout basis.rows)
      (lead : (j : ℕ) (r : Text) → Refers j r → P (string r)) where
    reference_refers : (j : ℕ) (r : Text) → Refers j r → IsReferring (reference r)
    unfolding found_in
    reference_refers j r h = (tt, All-cons P (string r) [] (lead j r h) (All-nil P))

    fills : (n : ℕ) (e : Entry) → entry_at basis.rows n ≡ Some e → (ts : List Data) → AllByRecursion IsReferring ts
        → IsReferring (filled (entry_template basis e) ts)
    fills n e at ts h = (
      filled_schema basis e ts (schemas ts h),
      all_refer P basis e (subst IsNotedThroughout at (noted n)) ts h,
    )
      where
        schemas : (us : List Data) → AllByRecursion IsReferring us → AreSchemas us
        schemas [] h = tt
        schemas (u ∷ us) h = (h.0.0, schemas us h.1)

    pub described_refers : (d n : ℕ) (t : Data) → Describes basis Refers d n t → IsReferring t
    described_refers = described_holds IsReferring part_refers inside_refers basis Refers reference_refers fills

    pub written_refers : (d n : ℕ) (t : Data) → IsWritten Refers (Describes basis Refers d) n t → IsReferring t
    written_refers = written_holds IsReferring part_refers inside_refers basis Refers reference_refers fills
