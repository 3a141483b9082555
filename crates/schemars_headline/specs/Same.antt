-- Documents that accept the same values, each read in its own dialect.
use Rattle.std.specs.Prelude.{◌≡◌, ◌⊎◌, ◌≤◌, ℕ}
use Rattle.serde_json.specs.Data.{Data}
use Rattle.schemars_schema.specs.Json.{Text, IsJson}
use Rattle.schemars_schema.specs.Verdict.{Verdict, Yes, No}
use Rattle.schemars_schema.specs.Dialects.{Dialect}
use Rattle.schemars_schema.specs.Judges.{Patterns}
use Rattle.schemars_schema.specs.Acceptance.{accepts, bound}
use Rattle.schemars_headline.specs.State.{State, path_of, HasOwnDefinitions}
use Rattle.schemars_headline.specs.Headline.{IsPlainFor, IsDraftPath}

-- yes on both, or no on both
abbrev pub IsSameAnswer : Verdict → Verdict → Type 0
IsSameAnswer x y = ((x ≡ Yes) × (y ≡ Yes)) ⊎ ((x ≡ No) × (y ≡ No))

-- two documents, each with its dialect and the path of its definitions: under every reading of patterns both accept a JSON value or
-- both refuse it, each from its own bound on
abbrev pub HaveSameAcceptance : Dialect → Text → Data → Dialect → Text → Data → Type 0
HaveSameAcceptance dialect path document other_dialect other_path other =
    (patterns : Patterns) (v : Data) → IsJson v → (m n : ℕ) → bound path document v ≤ m → bound other_path other v ≤ n
    → IsSameAnswer (accepts dialect document patterns m document v) (accepts other_dialect other patterns n other v)

-- two generators over one table for one contract, whatever their other settings
abbrev pub ShareTable : State → State → Type 0
ShareTable s t = (s.rows ≡ t.rows) × (s.settings.contract ≡ t.settings.contract)

-- the premises of the headline: the definitions are the generator's own and are at the path of a draft, and the table is plain
abbrev pub HeadlinePremises : Dialect → State → Type 0
HeadlinePremises dialect s = HasOwnDefinitions s × IsDraftPath (path_of s) × IsPlainFor dialect s.settings.contract s.rows

-- the root documents that two such generators make of one row have the same acceptance
abbrev pub RootsHaveSameAcceptance : Dialect → State → Data → Dialect → State → Data → Type 0
RootsHaveSameAcceptance dialect s document other_dialect t other =
    ShareTable s t → HeadlinePremises dialect s → HeadlinePremises other_dialect t
    → HaveSameAcceptance dialect (path_of s) document other_dialect (path_of t) other
