-- The keyword by what the test says.
use Rattle.std.proofs.Common.{sym, ap, ◌∙◌}
use Rattle.std.specs.Prelude.{codes, if◌then◌else◌}
use Rattle.schemars_flatten.proofs.merging.rest_keyword.Goals as goal

pub returns-then-has_subschema : goal.returns-then-has_subschema
returns-then-has_subschema c =
    ap (λ b. if b then codes "unevaluatedProperties" else codes "additionalProperties")
    (sym c.if-has_subschema.true ∙ c.has_subschema.ensures)

pub returns-else-has_subschema : goal.returns-else-has_subschema
returns-else-has_subschema c =
    ap (λ b. if b then codes "unevaluatedProperties" else codes "additionalProperties")
    (sym c.if-has_subschema.false ∙ c.has_subschema.ensures)
