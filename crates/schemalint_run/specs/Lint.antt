-- What a verdict says of the bytes that were judged.
use Rattle.std.specs.Prelude.{◌≡◌, ◌≢◌, ◌↔◌, ◌⊎◌, ℕ, Bool, true, false, IsTrue, List, [], ◌∷◌, ◌++◌, codes}
use Rattle.schemars_schema.specs.Json.{Text}
use Rattle.schemars_types.specs.Rows.{Row}
use Rattle.schemars_types.specs.Faults.{IsAccepted}
use Rattle.schemars_types.specs.declared.contract.Contract.{Contract}
use Rattle.schemars_types.specs.declared.contract.Contract.TheVariants.{Deserialize, Serialize}
use Rattle.schemars_documents.specs.PlainTable.{IsPlainTable, IsPlainUnder}
use Rattle.schemagen_input.specs.Texts.{IsTableText, IsAcceptedText}
use Rattle.schemalint_run.specs.declared.judging.Verdict.{Verdict}
use Rattle.schemalint_run.specs.declared.judging.Verdict.TheVariants.{Refused, NotPlain, PlainUnderReading, PlainUnderWriting, PlainUnderBoth, Plain}

-- the JSON text of a table without faults that is plain
abbrev pub IsPlainText : List ℕ → Type 0
IsPlainText bytes =
    (rows : List Row) × ((root : ℕ) × IsTableText rows root bytes × IsAccepted rows × IsPlainTable rows)

-- the JSON text of a table without faults that is plain under a contract
abbrev pub IsTextPlainUnder : Contract → List ℕ → Type 0
IsTextPlainUnder contract bytes =
    (rows : List Row) × ((root : ℕ) × IsTableText rows root bytes × IsAccepted rows × IsPlainUnder contract rows)

-- whether a verdict says that the table is plain under a contract
abbrev pub is_under : Contract → Verdict → Bool
is_under contract Plain = true
is_under contract PlainUnderBoth = true
is_under Deserialize PlainUnderReading = true
is_under Serialize PlainUnderReading = false
is_under Deserialize PlainUnderWriting = false
is_under Serialize PlainUnderWriting = true
is_under contract NotPlain = false
is_under contract Refused = false

-- what a table that is not plain is, if it is plain under reading or not, and under writing or not
abbrev pub verdict_for : Bool → Bool → Verdict
verdict_for true true = PlainUnderBoth
verdict_for true false = PlainUnderReading
verdict_for false true = PlainUnderWriting
verdict_for false false = NotPlain

-- `plain` if and only if the table is plain, and so under each contract
abbrev pub IsVerdictOf : Verdict → List Row → Type 0
IsVerdictOf verdict rows = (verdict ≢ Refused) × ((verdict ≡ Plain) ↔ IsPlainTable rows)
    × ((contract : Contract) → IsTrue (is_under contract verdict) ↔ IsPlainUnder contract rows)

-- no fault is reported if and only if the text is a table without faults, and `plain` if and only if it is plain
abbrev pub Judges : Verdict → List ℕ → Type 0
Judges verdict bytes = ((verdict ≢ Refused) ↔ IsAcceptedText bytes) × ((verdict ≡ Plain) ↔ IsPlainText bytes)
    × ((contract : Contract) → IsTrue (is_under contract verdict) ↔ IsTextPlainUnder contract bytes)

-- no lines, or lines of which the last one ends in a newline
abbrev pub AreLines : Text → Type 0
AreLines text = (text ≡ []) ⊎ ((before : Text) × (text ≡ before ++ 10 ∷ []))

-- a verdict in words
abbrev pub verdict_words : Verdict → Text
verdict_words Refused = codes "refused"
verdict_words NotPlain = codes "not plain"
verdict_words PlainUnderReading = codes "plain under reading"
verdict_words PlainUnderWriting = codes "plain under writing"
verdict_words PlainUnderBoth = codes "plain under reading and writing"
verdict_words Plain = codes "plain"

-- the last line of a report
abbrev pub verdict_line : Verdict → Text
verdict_line verdict = verdict_words verdict ++ 10 ∷ []
