-- The names as the program holds them: the owners, beside them their names, and what is noted to find them by.
use Rattle.std.specs.Prelude.{◌≡◌, ◌<◌, ◌^◌, ◌⊎◌, ℕ, List, [], ◌∷◌, String, string_bytes, Option, Some, true, length, slice_get, option_and_then}
use Rattle.std.specs.HashMap.{HashMap, get_by_text}
use Rattle.std.specs.declared.alloc.Global.{Global}
use Rattle.schemars_schema.specs.Json.{Text}
use Rattle.schemars_types.specs.declared.contract.Contract.{Contract}
use Rattle.schemars_types.specs.declared.contract.Contract.TheVariants.{Deserialize, Serialize}
use Rattle.schemars_build.specs.declared.names.Places.{Places}
use Rattle.schemars_build.specs.declared.names.Owner.{Owner}
use Rattle.schemars_build.specs.Naming.{NamedRow, Naming, is_used, candidate, IsFirstUnused}

abbrev pub named_row : Owner → String Global → NamedRow
named_row o s = record { row = o.row; contract = o.contract; name = string_bytes s }

-- each owner has the name of its place
abbrev pub naming_of : List Owner → List (String Global) → Naming
naming_of [] given = []
naming_of (o ∷ owners) [] = []
naming_of (o ∷ owners) (s ∷ given) = named_row o s ∷ naming_of owners given

-- ---- places

abbrev pub place_for : Contract → Places → Option ℕ
place_for Deserialize p = p.deserialize
place_for Serialize p = p.serialize

-- the place that is noted for row n under this contract
abbrev pub place_of_owner : ℕ → Contract → List Places → Option ℕ
place_of_owner n c ps = option_and_then (place_for c) (slice_get ps n)

-- the place of each owner is noted; what is noted for others may be anything
abbrev pub ArePlaced : List Owner → (ℕ → Contract → Option ℕ) → Type 0
ArePlaced owners place = (i : ℕ) (o : Owner) → slice_get owners i ≡ Some o → place o.row o.contract ≡ Some i

-- ---- candidates

-- this many of the first candidates are used
abbrev pub AreUsed : Naming → Text → ℕ → Type 0
AreUsed names base count = (j : ℕ) → j < count → is_used (candidate base j) names ≡ true

-- the first candidate that is not used, and how many come before it
pub record IsFirst (names : Naming) (base : Text) (tries : ℕ) (name : Text) : Type 0 where
  pub first : IsFirstUnused names base name
  pub behind : first.tries ≡ tries
  pub small : tries < 2 ^ 63

-- what is noted of a base is what was noted before, or, of this base, the count
abbrev pub IsNoted : {S : Type 0} → HashMap (String Global) ℕ S → Text → ℕ → HashMap (String Global) ℕ S → Type 0
IsNoted old base count new = (other : Text) (n : ℕ) → get_by_text new other ≡ Some n
    → (get_by_text old other ≡ Some n) ⊎ ((other ≡ base) × (n ≡ count))

-- ---- together

-- there is a name for each owner, its place is noted, and the candidates that are noted as used are
pub record IsHeld {S : Type 0} (owners : List Owner) (given : List (String Global)) (places : List Places)
    (tried : HashMap (String Global) ℕ S) : Type 0 where
  pub same : length owners ≡ length given
  pub placed : ArePlaced owners (λ n c. place_of_owner n c places)
  pub used : (base : Text) (count : ℕ) → get_by_text tried base ≡ Some count → AreUsed (naming_of owners given) base count
