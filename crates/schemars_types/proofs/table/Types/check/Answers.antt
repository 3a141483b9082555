use Rattle.schemars_types.proofs.Further.{checked_none}
use Rattle.schemars_types.proofs.table.Types.check.Goals as goal

pub check_from-requires : goal.check_from-requires
check_from-requires c = checked_none
