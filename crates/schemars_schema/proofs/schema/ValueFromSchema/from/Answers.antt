use Rattle.schemars_schema.proofs.schema.ValueFromSchema.from.Goals as goal

pub returns : goal.returns
returns c = c.to_value.ensures.value
