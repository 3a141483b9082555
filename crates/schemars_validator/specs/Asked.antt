-- What a validator says of values.
use Rattle.std.specs.Prelude.{◌≡◌, ◌≤◌, ◌++◌, ◌&&◌, ◌||◌, ℕ, Bool, true, false, List, [], ◌∷◌, map, string_bytes, bytes_eq}
use Rattle.std.specs.List.{list_any}
use Rattle.serde_json.specs.Data.{Data}
use Rattle.serde_json.specs.View.{view}
use Rattle.schemars_schema.specs.Json.{Text}
use Rattle.schemars_schema.specs.Verdict.{Verdict, Yes, No, Open, is_yes}
use Rattle.schemars_schema.specs.Judges.{Patterns}
use Rattle.schemars_schema.specs.Acceptance.{accepts, bound}
use Rattle.schemars_readable.specs.declared.draft.Draft as named
use Rattle.schemars_readable.specs.Drafts.{dialect_of, path_of}
use Rattle.schemars_validator.specs.declared.reading.Matched.{Matched}
use Rattle.schemars_validator.specs.declared.validator.Validator.{Validator}
use Rattle.schemars_validator.specs.Texts.{IsReadBy}

-- the pairs of an expression and a text that matches it
abbrev pub pairs_of : List Matched → Patterns
pairs_of [] = []
pairs_of (m ∷ ms) = map (λ k. (string_bytes m.pattern, string_bytes k)) m.texts.keys ++ pairs_of ms

-- whether a text matches the pattern, by this expression
abbrev pub has_pair : Matched → Text → Text → Bool
has_pair m pattern text =
    bytes_eq (string_bytes m.pattern) pattern && list_any (λ k. bytes_eq text (string_bytes k)) m.texts.keys

-- by one of these
abbrev pub some_has : List Matched → Text → Text → Bool
some_has [] pattern text = false
some_has (m ∷ ms) pattern text = has_pair m pattern text || some_has ms pattern text

-- a validator is of this dialect and document
abbrev pub IsOf : named.Draft → Data → Validator → Type 0
IsOf draft document v = (v.draft ≡ draft) × (view v.document.now ≡ document)

-- a verdict is that of the validator's document, where a text matches a pattern as its expressions answer, with at least as many
-- references followed within one another as the bound says
abbrev pub Says : Validator → Data → Verdict → Type 0
Says v value says = (patterns : Patterns) × IsReadBy v.expressions.items value patterns
    × (n : ℕ) × (bound (path_of v.draft) (view v.document.now) value ≤ n)
    × (says ≡ accepts (dialect_of v.draft) (view v.document.now) patterns n (view v.document.now) value)

-- valid is whether such a verdict is yes
abbrev pub Accepts : Validator → Data → Bool → Type 0
Accepts v value valid = (says : Verdict) × Says v value says × (valid ≡ is_yes says)

abbrev pub is_no : Verdict → Bool
is_no Yes = false
is_no No = true
is_no Open = false
