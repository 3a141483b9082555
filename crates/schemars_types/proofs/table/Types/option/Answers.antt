use Rattle.std.proofs.Common.{refl}
use Rattle.schemars_types.proofs.table.Types.option.Goals as goal

pub register_around-requires : goal.register_around-requires
register_around-requires c = refl

pub returns-clause-ok : goal.returns-clause-ok
returns-clause-ok c = c.register_around.ensures.ok

pub returns-clause-refused : goal.returns-clause-refused
returns-clause-refused c = c.register_around.ensures.refused
