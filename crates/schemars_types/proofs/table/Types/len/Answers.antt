use Rattle.std.proofs.Common.{arith, subst}
use Rattle.schemars_types.proofs.Words.{common_steps, HasDistinctIds}
use Rattle.schemars_types.proofs.TableLemmas.{ids_distinct}
use Rattle.schemars_types.proofs.table.Types.len.Goals as goal

pub returns-clause-len : goal.returns-clause-len
returns-clause-len c = grind (arith, common_steps)

pub returns-clause-ids : goal.returns-clause-ids
returns-clause-ids c = subst HasDistinctIds c.self.view_is (ids_distinct c.self.inside.slots.entries c.len.ensures.unique)
