-- The meaning of a row by the meanings of the rows in its shape, where no step is counted.
use Rattle.std.specs.Prelude.{◌≡◌, ℕ, ◌+◌, ◌*◌, List, length, false, Some, None}
use Rattle.serde_json.specs.Data.{Data, depth}
use Rattle.schemars_schema.specs.Judges.{Patterns}
use Rattle.schemars_shapes.specs.Shape.{Entry}
use Rattle.schemars_types.specs.Effective.{expanded_shape_in}
use Rattle.schemars_types.specs.KeyOptions.{key_options}
use Rattle.schemars_types.specs.Meaning.{VariantMatch, has_shape, shape_choices, belongs, choices_within}
use Rattle.schemars_types.specs.Rows.{Row, entry_at}
use Rattle.schemars_types.specs.declared.contract.Contract.{Contract}

-- what the variants of row n, an enum, offer of the value
abbrev pub choices : List Row → Contract → Patterns → ℕ → Data → List VariantMatch
choices rows contract patterns n v = choices_within rows contract patterns ((depth v + 1) * length rows) n v

-- To a row belongs what its shape has, where to each row in the shape belongs what belongs to it. To a row without an entry nothing
-- belongs.
pub record MeansByShape (rows : List Row) : Type 0 where
  pub undefined : (contract : Contract) (patterns : Patterns) (n : ℕ) (v : Data) → entry_at rows n ≡ None
      → belongs rows contract patterns n v ≡ false
  pub defined : (contract : Contract) (patterns : Patterns) (n : ℕ) (e : Entry) (v : Data) → entry_at rows n ≡ Some e
      → belongs rows contract patterns n v
      ≡ has_shape contract patterns (key_options rows) (choices rows contract patterns) (belongs rows contract patterns)
      (expanded_shape_in rows e.shape) v
  pub offers : (contract : Contract) (patterns : Patterns) (n : ℕ) (e : Entry) (v : Data) → entry_at rows n ≡ Some e
      → choices rows contract patterns n v
      ≡ shape_choices contract (belongs rows contract patterns) (choices rows contract patterns) (expanded_shape_in rows e.shape) v
