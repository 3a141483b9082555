use Rattle.schemars_builders.proofs.Nulls.{allow_null-law}
use Rattle.schemars_builders.proofs.null.allow_null.Goals as goal

pub returns-clause-law : goal.returns-clause-law
returns-clause-law c = allow_null-law c.args.schema.now c.make_nullable.new.schema c.in_ok-make_nullable.ensures
