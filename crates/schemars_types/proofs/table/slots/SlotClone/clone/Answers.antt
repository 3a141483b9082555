use Rattle.std.proofs.Common.{rules}
use Rattle.schemars_types.proofs.table.slots.SlotClone.clone.Goals as goal

pub returns : goal.returns
returns c = search rules
