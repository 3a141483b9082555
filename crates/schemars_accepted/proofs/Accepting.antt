-- What belongs to a row is accepted.
use Rattle.std.proofs.Common.{◌≡◌, ◌≤◌, ℕ, List, ap, ◌∙◌}
use Rattle.schemars_accepted.proofs.Words.{IsUtf8, Data, Text, IsJson, Dialect, Patterns, accepts, bound, verdict, Yes, belongs, State, path_of, HasOwnDefinitions, RootHeadline, IsDraftPath, IsPlainFor, Row, BelongsUnder, BelongsAsReadUnder, IsAcceptedUnder, IsAcceptedAsRead}
use Rattle.schemars_types.specs.declared.contract.Contract.TheVariants.{Serialize}
use Rattle.schemars_accepted.proofs.ReadJson.{read_is_json}

pub accepted : (reading : Patterns → Type 0) (rows : List Row) (n : ℕ) (v : Data) → BelongsUnder reading rows n v → IsJson v
    → IsAcceptedUnder reading rows n v
accepted reading rows n v belongs json dialect path document schema accepts_values patterns takes followed bounded =
    accepts_values patterns v json followed bounded ∙ ap verdict (belongs patterns takes)

-- so is what a text in UTF-8 is read as
pub accepted_as_read : (reading : Patterns → Type 0) (rows : List Row) (n : ℕ) (text : Text) → BelongsAsReadUnder reading rows n text
    → IsUtf8 text → IsAcceptedAsRead reading rows n text
accepted_as_read reading rows n text belongs utf8 v reads =
    accepted reading rows n v (belongs v reads) (read_is_json text v utf8 reads)

-- a root document with the headline accepts what belongs to its row
pub root_accepted : (reading : Patterns → Type 0) (dialect : Dialect) (s : State) (n : ℕ) (document v : Data)
    → RootHeadline dialect s n document → HasOwnDefinitions s
    → IsDraftPath (path_of s) → IsPlainFor dialect s.settings.contract s.rows → s.settings.contract ≡ Serialize
    → BelongsUnder reading s.rows n v → IsJson v → (patterns : Patterns) → reading patterns
    → (followed : ℕ) → bound (path_of s) document v ≤ followed
    → accepts dialect document patterns followed document v ≡ Yes
root_accepted reading dialect s n document v headline own path plain contract belongs_to json patterns takes followed bounded =
    let means = headline own path plain in
    means.accepts_its_values patterns v json followed bounded
    ∙ ap verdict (ap (λ c. belongs s.rows c patterns n v) contract ∙ belongs_to patterns takes)
