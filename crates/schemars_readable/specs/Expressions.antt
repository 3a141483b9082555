-- The patterns of a document, and their expressions.
use Rattle.std.specs.Prelude.{◌≡◌, ◌≢◌, List, [], ◌∷◌, ◌++◌, Option, Some, None, option_and_then, codes, map, string_bytes, if◌then◌else◌, All, Contains}
use Rattle.serde_json.specs.Data.{Data, Members, no_members, member}
use Rattle.serde_json.specs.Find.{get_member, as_str, as_object}
use Rattle.regex.specs.Failures.{IsRightKind}
use Rattle.regex.specs.Sources.{IsTextRefusal}
use Rattle.regex.specs.Strings.{regex_source, regex_config, IsReadFromSource}
use Rattle.regex.specs.Patterns.{default_config}
use Rattle.regex.specs.declared.error.Error as failing
use Rattle.regex.specs.declared.string.regex.Regex.{Regex}
use Rattle.schemars_text.specs.OrderedText.{is_listed}
use Rattle.schemars_schema.specs.Json.{Text}
use Rattle.schemars_readable.specs.declared.expressions.Asked.{Asked}
use Rattle.schemars_readable.specs.declared.expressions.Expression.{Expression}
use Rattle.schemars_readable.specs.declared.refusal.Refusal as refusal
use Rattle.schemars_readable.specs.Translation.{expression_of}
use Rattle.schemars_readable.specs.Standing.{StandsAt, member_place}

-- ---- the patterns that a schema asks about, and the places of their keywords

abbrev pub text_at : Text → Option Text → List (Text × Text)
text_at place None = []
text_at place (Some t) = (place, t) ∷ []

abbrev pub each_name : Text → Members → List (Text × Text)
each_name place no_members = []
each_name place (member k d ms) = (place, k) ∷ each_name place ms

abbrev pub names_at : Text → Option Members → List (Text × Text)
names_at place None = []
names_at place (Some ms) = each_name place ms

-- that under `pattern`, and the names under `patternProperties`
abbrev pub patterns_in : Text → Members → List (Text × Text)
patterns_in place ms =
    text_at (member_place place (codes "pattern")) (option_and_then as_str (get_member (codes "pattern") ms))
    ++ names_at (member_place place (codes "patternProperties")) (option_and_then as_object (get_member (codes "patternProperties") ms))

-- a pattern stands at a place in the document
abbrev pub IsAskedAt : Data → Text → Text → Type 0
IsAskedAt document place pattern = (schema : Text) × (ms : Members) × StandsAt document schema ms
    × Contains (patterns_in schema ms) (place, pattern)

-- ---- their expressions

-- the pattern has one of these expressions
abbrev pub HasExpression : List Expression → Text → Type 0
HasExpression expressions pattern = Contains (map (λ e. string_bytes e.pattern) expressions) pattern

-- each is what the crate's grammar reads in the translation of its own pattern
pub record IsReadFrom (pattern : Text) (regex : Regex) : Type 0 where
  pub source : regex_source regex ≡ expression_of pattern
  pub config : regex_config regex ≡ default_config
  pub by_grammar : IsReadFromSource regex

abbrev pub AreOwn : List Expression → Type 0
AreOwn expressions = All (λ e. IsReadFrom (string_bytes e.pattern) e.regex) expressions

-- each pattern of the document has an expression, and each expression is that of its pattern
pub record AreExpressionsOf (document : Data) (expressions : List Expression) : Type 0 where
  pub each : (place pattern : Text) → IsAskedAt document place pattern → HasExpression expressions pattern
  pub own : AreOwn expressions

-- the `regex` crate refuses the expression of a pattern
abbrev pub IsRefused : Text → Type 0
IsRefused pattern = (e : failing.Error) × (e ≢ failing.TheVariants.OutOfMemory)
    × IsTextRefusal default_config (expression_of pattern) e × IsRightKind default_config (expression_of pattern) e

-- memory ran out, or one of these patterns is refused, and this is its place
abbrev pub IsRefusalAmong : List (Text × Text) → refusal.Refusal → Type 0
IsRefusalAmong asked refusal.TheVariants.OutOfMemory = Unit {0}
IsRefusalAmong asked refusal.TheVariants.NotASchema = ⊥
IsRefusalAmong asked (refusal.TheVariants.Unread us) = ⊥
IsRefusalAmong asked (refusal.TheVariants.Pattern u) =
    Contains asked (string_bytes u.place, string_bytes u.keyword) × IsRefused (string_bytes u.keyword)

-- ---- as they are gathered

abbrev pub patterns_of : List (Text × Members) → List (Text × Text)
patterns_of [] = []
patterns_of (s ∷ ss) = patterns_in s.0 s.1 ++ patterns_of ss

abbrev pub asked_of : List Asked → List (Text × Text)
asked_of xs = map (λ a. (string_bytes a.place, a.pattern.now)) xs

abbrev pub named : List Expression → List Text
named es = map (λ e. string_bytes e.pattern) es

-- the patterns with each of these that is new
abbrev pub with_patterns : List Text → List (Text × Text) → List Text
with_patterns patterns [] = patterns
with_patterns patterns (x ∷ xs) = with_patterns (if is_listed x.1 patterns then patterns else patterns ++ x.1 ∷ []) xs
