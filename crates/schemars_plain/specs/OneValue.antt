-- Whether a literal gives one value at most.
use Rattle.std.specs.Prelude.{◌≡◌, ◌&&◌, true, false, None, is_some, codes}
use Rattle.std.specs.Option.{option_map_or}
use Rattle.serde_json.specs.Data.{Data}
use Rattle.serde_json.specs.Find.{get}
use Rattle.schemars_schema.specs.Literal.{is_null_type}

-- `enum` and `const` are not side by side, and neither is beside a type that is null alone
abbrev pub HasOneValue : Data → Type 0
HasOneValue d = (is_some (get (codes "enum") d) && is_some (get (codes "const") d) ≡ false)
    × (option_map_or is_null_type (get (codes "type") d) false ≡ true → (get (codes "enum") d ≡ None) × (get (codes "const") d ≡ None))
