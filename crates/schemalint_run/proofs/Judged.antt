-- A text says one table at most, so a verdict on that table is one on the text.
use Rattle.std.proofs.Common.{◌≡◌, ℕ, List, Option, Some, None, Bool, true, false, IsTrue, option_and_then, refl, sym, ap, ◌∙◌, subst}
use Rattle.schemalint_run.proofs.Words.{◌↔◌, Row, IsAccepted, IsPlainTable, IsPlainUnder, plain_under, input_of, IsTableText, Judges, IsVerdictOf, is_under, verdict_for}
use Rattle.schemars_types.specs.declared.contract.Contract.{Contract}
use Rattle.schemars_types.specs.declared.contract.Contract.TheVariants.{Deserialize, Serialize}
use Rattle.schemalint_run.specs.declared.judging.Verdict.{Verdict}
use Rattle.schemalint_run.specs.declared.judging.Verdict.TheVariants.{Plain}

abbrev rows_or : List Row → Option (List Row × ℕ) → List Row
rows_or rows None = rows
rows_or rows (Some t) = t.0

same_rows : (rows others : List Row) (root other : ℕ) (bytes : List ℕ) → IsTableText rows root bytes → IsTableText others other bytes
    → rows ≡ others
same_rows rows others root other bytes (d, text, table) (e, text', table') =
    let same = ap (option_and_then input_of) (sym text.1 ∙ text'.1) in
    ap (rows_or rows) (sym table ∙ same ∙ table')

-- a verdict on the table is one on the text that says it
pub judged : (rows : List Row) (root : ℕ) (bytes : List ℕ) (verdict : Verdict) → IsTableText rows root bytes → IsAccepted rows
    → IsVerdictOf verdict rows → Judges verdict bytes
judged rows root bytes verdict table accepted is = (
  (λ _. (rows, (root, table, accepted)), λ _. is.0),
  (
    λ e. (rows, (root, table, accepted, is.1.0 e)),
    λ (others, (end, said, _, plain)). is.1.1 (subst IsPlainTable (sym (same_rows rows others root end bytes table said)) plain),
  ),
  λ contract. (
    λ t. (rows, (root, table, accepted, (is.2 contract).0 t)),
    λ (others, (end, said, _, plain)).
        (is.2 contract).1 (subst (IsPlainUnder contract) (sym (same_rows rows others root end bytes table said)) plain),
  ),
)

pub verdict_plain : (rows : List Row) → IsPlainTable rows → IsVerdictOf Plain rows
verdict_plain rows plain =
    (λ e. cc, (λ _. plain, λ _. refl), λ contract. (λ _. plain_under rows contract plain, λ _. refl))

each : (P : Contract → Type 0) → P Deserialize → P Serialize → (contract : Contract) → P contract
each P reads writes Deserialize = reads
each P reads writes Serialize = writes

abbrev SaysUnder : List Row → Verdict → Contract → Type 0
SaysUnder rows verdict contract = IsTrue (is_under contract verdict) ↔ IsPlainUnder contract rows

-- a table that is not plain, by what it is under each contract
pub verdict_under : (rows : List Row) (reading writing : Bool) → ¬ (IsPlainTable rows)
    → (IsTrue reading ↔ IsPlainUnder Deserialize rows) → (IsTrue writing ↔ IsPlainUnder Serialize rows)
    → IsVerdictOf (verdict_for reading writing) rows
verdict_under rows true true other reads writes =
    (λ e. cc, (λ e. cc, λ plain. absurd (other plain)), each (SaysUnder rows (verdict_for true true)) reads writes)
verdict_under rows true false other reads writes =
    (λ e. cc, (λ e. cc, λ plain. absurd (other plain)), each (SaysUnder rows (verdict_for true false)) reads writes)
verdict_under rows false true other reads writes =
    (λ e. cc, (λ e. cc, λ plain. absurd (other plain)), each (SaysUnder rows (verdict_for false true)) reads writes)
verdict_under rows false false other reads writes =
    (λ e. cc, (λ e. cc, λ plain. absurd (other plain)), each (SaysUnder rows (verdict_for false false)) reads writes)
