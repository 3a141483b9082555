use Rattle.schemars_schema.proofs.schema.Schema.as_value.Goals as goal

pub returns-clause-value : goal.returns-clause-value
returns-clause-value c = c.self.view_is
