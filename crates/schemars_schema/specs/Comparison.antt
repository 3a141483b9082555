-- How the numbers of two values are compared.
use Rattle.std.specs.Prelude.{Bool}
use Rattle.serde_json.specs.Data.{Num}
use Rattle.schemars_schema.specs.declared.equality.Comparison.{Comparison}
use Rattle.schemars_schema.specs.declared.equality.Comparison.TheVariants.{ByValue, AsWhole}
use Rattle.schemars_schema.specs.Numbers.{number_eq}
use Rattle.schemars_schema.specs.Json.{number_same}

abbrev pub numbers_by : Comparison → Num → Num → Bool
numbers_by ByValue m n = number_eq m n
numbers_by AsWhole m n = number_same m n
