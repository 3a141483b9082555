-- What the words of a run ask for.
use Rattle.std.specs.Prelude.{◌≡◌, ◌⊎◌, List, [], ◌∷◌, Bool, true, false, codes, map, string_bytes, String}
use Rattle.std.specs.declared.alloc.Global.{Global}
use Rattle.schemars_schema.specs.Json.{Text}
use Rattle.schemars_types.specs.declared.contract.Contract.{Contract}
use Rattle.schemars_types.specs.declared.contract.Contract.TheVariants.{Deserialize, Serialize}
use Rattle.schemagen_run.specs.declared.words.Asked.{Asked}
use Rattle.schemagen_run.specs.declared.words.Command.{Command}
use Rattle.schemagen_run.specs.declared.words.Command.TheVariants.{Types, Sample}
use Rattle.schemagen_run.specs.declared.words.Dialect.{Dialect}
use Rattle.schemagen_run.specs.declared.words.Dialect.TheVariants.{Draft2020_12, Draft2019_09, Draft07, OpenApi3}

-- the word for a dialect
abbrev pub word_for : Dialect → Text
word_for Draft2020_12 = codes "2020-12"
word_for Draft2019_09 = codes "2019-09"
word_for Draft07 = codes "draft-07"
word_for OpenApi3 = codes "openapi3"

abbrev pub IsDialect : Text → Type 0
IsDialect word = (dialect : Dialect) × (word ≡ word_for dialect)

-- the flags: those for documents of values that are written, and for rows in place, in either order
abbrev pub AreFlagsFor : Contract → Bool → List Text → Type 0
AreFlagsFor Deserialize false flags = flags ≡ []
AreFlagsFor Serialize false flags = flags ≡ codes "--serialize" ∷ []
AreFlagsFor Deserialize true flags = flags ≡ codes "--inline" ∷ []
AreFlagsFor Serialize true flags =
    (flags ≡ codes "--inline" ∷ codes "--serialize" ∷ []) ⊎ (flags ≡ codes "--serialize" ∷ codes "--inline" ∷ [])

-- the word for the dialect and the flags behind it ask for this
abbrev pub IsAskedBy : Text → List Text → Asked → Type 0
IsAskedBy word flags asked = (word ≡ word_for asked.dialect) × AreFlagsFor asked.contract asked.inlines flags

abbrev pub IsKnown : Text → List Text → Type 0
IsKnown word flags = (asked : Asked) × IsAskedBy word flags asked

abbrev pub AskFor : List (String Global) → Asked → Type 0
AskFor words asked =
    (word : Text) × (flags : List Text) × IsAskedBy word flags asked × (map string_bytes words ≡ codes "types" ∷ word ∷ flags)

abbrev pub AskForTypes : List (String Global) → Type 0
AskForTypes words = (asked : Asked) × AskFor words asked

abbrev pub AskForExample : List (String Global) → Dialect → Type 0
AskForExample words dialect = map string_bytes words ≡ codes "sample" ∷ word_for dialect ∷ []

abbrev pub AskForSample : List (String Global) → Type 0
AskForSample words = (dialect : Dialect) × AskForExample words dialect

abbrev pub Asks : List (String Global) → Command → Type 0
Asks words (Types asked) = AskFor words asked
Asks words (Sample dialect) = AskForExample words dialect

-- the words that the program knows: for the document of a table's root, or of an example
abbrev pub AreCommands : List (String Global) → Type 0
AreCommands words = AskForTypes words ⊎ AskForSample words
