-- An object with a place for definitions, or with none.
use Rattle.std.specs.Prelude.{◌≡◌, true, false, List, [], ◌∷◌, None, Some, bytes_eq, codes}
use Rattle.serde_json.specs.Data.{Data, null, boolean, number, string, array, object, no_members}
use Rattle.serde_json.specs.Find.{get, get_member}
use Rattle.schemars_schema.specs.Json.{Text}
use Rattle.schemars_text.specs.OrderedText.{is_listed}

-- the keys that definitions are put at
abbrev pub definition_keys : List Text
definition_keys = codes "$defs" ∷ codes "definitions" ∷ []

-- an object with no definitions
abbrev pub HasNoDefinitions : Data → Type 0
HasNoDefinitions null = ⊥
HasNoDefinitions (boolean b) = ⊥
HasNoDefinitions (number n) = ⊥
HasNoDefinitions (string s) = ⊥
HasNoDefinitions (array ds) = ⊥
HasNoDefinitions (object ms) = (get_member (codes "$defs") ms ≡ None) × (get_member (codes "definitions") ms ≡ None)

-- an object with an empty object at a key of definitions, and nothing at the other one
pub record HasPlaceAt (key : Text) (d : Data) : Type 0 where
  pub listed : is_listed key definition_keys ≡ true
  pub empty : get key d ≡ Some (object no_members)
  pub alone : (k : Text) → is_listed k definition_keys ≡ true → bytes_eq k key ≡ false → get k d ≡ None
