-- Which rows have names: each name is that of one row under one contract.
use Rattle.std.specs.Prelude.{◌≡◌, ◌≤◌, ◌<◌, ◌+◌, ◌&&◌, ◌==◌, ℕ, zero, suc, List, ◌++◌, length, find, Bool, true, false, Option, Some, option_map, bytes_eq}
use Rattle.std.specs.List.{list_any}
use Rattle.std.specs.Fmt.{decimal}
use Rattle.schemars_schema.specs.Json.{Text}
use Rattle.schemars_types.specs.declared.contract.Contract.{Contract}
use Rattle.schemars_types.specs.SameContract.{is_same_contract}

pub record NamedRow : Type 0 where
  pub row : ℕ
  pub contract : Contract
  pub name : Text

-- in the order in which the names were given
abbrev pub Naming : Type 0
Naming = List NamedRow

abbrev pub is_of : ℕ → Contract → NamedRow → Bool
is_of n contract x = (x.row == n) && is_same_contract x.contract contract

-- the name of row n under this contract
abbrev pub name_of : ℕ → Contract → Naming → Option Text
name_of n contract names = option_map (λ x. x.name) (find (is_of n contract) names)

abbrev pub is_used : Text → Naming → Bool
is_used name names = list_any (λ x. bytes_eq x.name name) names

-- a name is that of one row and one contract
pub record IsOneToOne (names : Naming) : Type 0 where
  pub one_row : (m n : ℕ) (c d : Contract) (name : Text) → name_of m c names ≡ Some name → name_of n d names ≡ Some name → (m ≡ n) × (c ≡ d)

-- the name, and the name followed by 2, by 3, and so on
abbrev pub candidate : Text → ℕ → Text
candidate name zero = name
candidate name (suc tries) = name ++ decimal (tries + 2)

-- the first candidate that is not used; a number behind it is at most one more than there are names
pub record IsFirstUnused (names : Naming) (base name : Text) : Type 0 where
  pub tries : ℕ
  pub is_candidate : name ≡ candidate base tries
  pub is_unused : is_used name names ≡ false
  pub earlier_are_used : (j : ℕ) → j < tries → is_used (candidate base j) names ≡ true
  pub few : tries ≤ length names
