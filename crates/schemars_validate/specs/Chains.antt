-- References that stand alone, and where chains of them end.
use Rattle.std.specs.Prelude.{◌≡◌, ◌≤◌, ◌&&◌, ℕ, suc, drop, not, Bool, true, List}
use Rattle.serde_json.specs.Data.{Data, Members, no_members, member}
use Rattle.schemars_schema.specs.Json.{Text}
use Rattle.schemars_schema.specs.Dialects.{Dialect}
use Rattle.schemars_schema.specs.Judges.{Context, Judge, Part, Patterns}
use Rattle.schemars_schema.specs.Annotations.{keyword_names}
use Rattle.schemars_schema.specs.Evaluated.{judged_by}
use Rattle.schemars_schema.specs.Acceptance.{follow, judge}
use Rattle.schemars_text.specs.OrderedText.{is_listed}

-- all keywords that are read but the first, `$ref`
abbrev pub other_keywords : List Text
other_keywords = drop 1 keyword_names

abbrev pub has_no_other : Members → Bool
has_no_other no_members = true
has_no_other (member k d ms) = not (is_listed k other_keywords) && has_no_other ms

-- they say the same of each value, and then judge the same parts
pub record Alike (s t : Judge) : Type 0 where
  pub says : (v : Data) → s.fits v ≡ t.fits v
  pub judged : (v : Data) (p : Part) → judged_by s v p ≡ judged_by t v p

-- a schema says what the reference leads to, whatever that is
abbrev pub IsLone : Dialect → Data → Text → Type 0
IsLone dialect schema name = (patterns : Patterns) (to : Text → Judge)
    → Alike (judge (record { dialect = dialect; patterns = patterns; follow = to }) schema) (to name)

-- a reference leads to one that stands alone
abbrev pub LeadsOn : Dialect → Data → Text → Text → Type 0
LeadsOn dialect document name next = (patterns : Patterns) (n : ℕ)
    → Alike (follow dialect document patterns (suc n) name) (follow dialect document patterns n next)

-- a reference with so many left says what another says with those that are left then
pub record EndsAt (dialect : Dialect) (document : Data) (name : Text) (left : ℕ) (last : Text) (rest : ℕ) : Type 0 where
  pub few : rest ≤ left
  pub alike : (patterns : Patterns) → Alike (follow dialect document patterns left name) (follow dialect document patterns rest last)
