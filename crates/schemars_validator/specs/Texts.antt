-- What the expressions of a document answer about the texts of a value.
use Rattle.std.specs.Prelude.{◌≡◌, ◌++◌, ◌&&◌, ◌||◌, List, [], ◌∷◌, Bool, false, is_some, bytes_eq, string_bytes}
use Rattle.serde_json.specs.Data.{Data, null, boolean, number, string, array, object, Items, no_items, item, Members, no_members, member}
use Rattle.regex.specs.Patterns.{find_str}
use Rattle.regex.specs.Strings.{regex_pattern}
use Rattle.schemars_schema.specs.Json.{Text}
use Rattle.schemars_schema.specs.Judges.{Patterns, matches}
use Rattle.schemars_readable.specs.declared.expressions.Expression.{Expression}

-- the texts of a value, and the names of its members
unfoldable mutual
  pub texts_of : Data → List Text
  texts_of null = []
  texts_of (boolean b) = []
  texts_of (number n) = []
  texts_of (string s) = s ∷ []
  texts_of (array ds) = texts_in_items ds
  texts_of (object ms) = texts_in_members ms

  pub texts_in_items : Items → List Text
  texts_in_items no_items = []
  texts_in_items (item d ds) = texts_of d ++ texts_in_items ds

  pub texts_in_members : Members → List Text
  texts_in_members no_members = []
  texts_in_members (member k d ms) = k ∷ texts_of d ++ texts_in_members ms

-- whether the text is one of these, and the expression finds something in it
abbrev pub found_in : Expression → List Text → Text → Bool
found_in e [] text = false
found_in e (t ∷ ts) text = (bytes_eq text t && is_some (find_str (regex_pattern e.regex) t 0)) || found_in e ts text

-- whether the expression is that of the pattern, and finds something in the text, which is one of these
abbrev pub answers : Expression → List Text → Text → Text → Bool
answers e texts pattern text = bytes_eq (string_bytes e.pattern) pattern && found_in e texts text

abbrev pub some_answer : List Expression → List Text → Text → Text → Bool
some_answer [] texts pattern text = false
some_answer (e ∷ es) texts pattern text = answers e texts pattern text || some_answer es texts pattern text

-- a reading has the answers of these expressions to the texts of a value
abbrev pub IsReadBy : List Expression → Data → Patterns → Type 0
IsReadBy expressions v patterns =
    (pattern text : Text) → matches patterns pattern text ≡ some_answer expressions (texts_of v) pattern text
