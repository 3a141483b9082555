-- Lists in which a name occurs twice.
use Rattle.std.specs.Prelude.{◌≡◌, ◌⊎◌, ℕ, List, [], ◌∷◌, take, Contains, slice_get, Some, bytes_eq}
use Rattle.std.specs.List.{IsDistinct}
use Rattle.schemars_schema.specs.Json.{Text}

-- the name is the first that is met a second time
pub record IsRepeated (names : List Text) (name : Text) : Type 0 where
  pub place : ℕ
  pub is_there : slice_get names place ≡ Some name
  pub is_before : Contains (take place names) name
  pub is_first : IsDistinct bytes_eq (take place names)

-- no name occurs twice in one of the lists
abbrev pub AreDistinctLists : List (List Text) → Type 0
AreDistinctLists [] = Unit {0}
AreDistinctLists (names ∷ lists) = IsDistinct bytes_eq names × AreDistinctLists lists

-- and this is the first that does, list after list
abbrev pub IsFirstRepeated : List (List Text) → Text → Type 0
IsFirstRepeated [] name = ⊥
IsFirstRepeated (names ∷ lists) name = IsRepeated names name ⊎ (IsDistinct bytes_eq names × IsFirstRepeated lists name)
