-- How many items a list has, and which.
use Rattle.std.specs.Prelude.{Bool, true, ◌==◌, nat_le}
use Rattle.serde_json.specs.Data.{Items}
use Rattle.serde_json.specs.Events.{items_len}
use Rattle.schemars_schema.specs.Json.{are_distinct}
use Rattle.schemars_literals.specs.declared.scalars.Limit as src
use Rattle.schemars_literals.specs.declared.scalars.Limit.TheVariants as limit

abbrev pub within : src.Limit → Items → Bool
within limit.Nothing vs = true
within limit.Distinct vs = are_distinct vs
within (limit.Exactly len) vs = items_len vs == len
within (limit.AtMost cap) vs = nat_le (items_len vs) cap
