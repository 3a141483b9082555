-- The next value of some tokens, and what objects and lists say that are read from them.
use Rattle.std.specs.Prelude.{◌≡◌, ℕ, List, [], ◌∷◌, ◌++◌, Option, Some, None, option_map, option_and_then}
use Rattle.json.specs.Token.{Token}
use Rattle.json.specs.Json.{value}
use Rattle.serde_json.specs.Data.{Data, Members, object}
use Rattle.serde_json.specs.Find.{as_array, as_object}
use Rattle.serde_json.specs.Read.{of_json, converted}
use Rattle.schemagen_shapes.specs.Forms.{read_each}

-- the tokens begin with this value, in which lists and objects nest at most so deep, and go on with the rest
abbrev pub IsNext : ℕ → List Token → Data → List Token → Type 0
IsNext depth tokens d rest = converted of_json (value depth tokens) ≡ Some (d, rest)

-- they begin with no such value
abbrev pub IsNoValue : ℕ → List Token → Type 0
IsNoValue depth tokens = converted of_json (value depth tokens) ≡ None

-- what the members of a value say, if it is an object
abbrev pub AreOfObject : {M : Type 0} → (M → Members → Type 0) → Option M → Data → Type 0
AreOfObject are_of (Some m) d = (ms : Members) × (d ≡ object ms) × are_of m ms
AreOfObject are_of None d = as_object d ≡ None

-- what each item of a list says
abbrev pub listed : {T : Type 0} → (Data → Option T) → Data → Option (List T)
listed says d = option_and_then (read_each says) (as_array d)

-- a list with one item more, if all of it is said
abbrev pub with_last : {T : Type 0} → Option (List T) → Option T → Option (List T)
with_last list last = option_and_then (λ xs. option_map (λ x. xs ++ x ∷ []) last) list
