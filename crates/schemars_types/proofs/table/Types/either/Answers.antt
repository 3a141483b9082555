use Rattle.std.proofs.Common.{refl}
use Rattle.schemars_types.proofs.table.Types.either.Goals as goal

pub register_pair-requires : goal.register_pair-requires
register_pair-requires c = refl

pub returns-clause-ok : goal.returns-clause-ok
returns-clause-ok c = c.register_pair.ensures.ok

pub returns-clause-refused : goal.returns-clause-refused
returns-clause-refused c = c.register_pair.ensures.refused
