-- Why a value is not written beside the row of its type.
use Rattle.std.specs.Prelude.{◌≡◌, List, []}
use Rattle.schemars_types.specs.Rows.{Row, HasDistinctIds}
use Rattle.schemars_agreement.specs.declared.error.WriteError.TheVariants.{NotInJson}
use Rattle.schemars_impls.specs.Dictionary.{TypeRow}
use Rattle.schemars_accepted.specs.Told.{Refuses}
use Rattle.schemars_accepted.specs.declared.error.DescribedError.{DescribedError}
use Rattle.schemars_accepted.specs.declared.error.DescribedError.TheVariants.{Types, Write}

-- The type is refused in a table that had no rows, in which no id stands twice, or the value is not written; it is reported as one that JSON does not have only if that
-- is so.
abbrev pub RefusesValue : TypeRow → Type 0 → DescribedError → Type 0
RefusesValue t Valid (Types e) = (new : List Row) × HasDistinctIds new × Refuses t [] new e
RefusesValue t Valid (Write e) = e ≡ NotInJson → Valid → ⊥
