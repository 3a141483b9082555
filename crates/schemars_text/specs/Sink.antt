-- What a sink that failed has taken of the bytes that it was given.
use Rattle.std.specs.Prelude.{◌≡◌, ℕ, List, ◌++◌, Option}
use Rattle.std.specs.Io.KnownBytes.{Appends}

-- known bytes grow by a beginning of bs
abbrev pub AppendsBeginning : Option (List ℕ) → Option (List ℕ) → List ℕ → Type 0
AppendsBeginning old new bs = (taken rest : List ℕ) × (bs ≡ taken ++ rest) × Appends old new taken
