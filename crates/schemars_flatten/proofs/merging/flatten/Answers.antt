-- The law holds of what the schema becomes.
use Rattle.schemars_flatten.proofs.Law.{flattened-law}
use Rattle.schemars_flatten.proofs.merging.flatten.Goals as goal

pub returns-clause-becomes : goal.returns-clause-becomes
returns-clause-becomes c = c.in_ok-put_schema.ensures

pub returns-clause-law : goal.returns-clause-law
returns-clause-law c =
    flattened-law c.args.schema.now c.args.other c.put_schema.new.schema c.in_ok-put_schema.ensures
