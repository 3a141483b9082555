use Rattle.schemars_accepted.specs.Laws.{told_in_empty}
use Rattle.schemars_accepted.proofs.written.to_described_value.Goals as goal

pub register_described-requires : goal.register_described-requires
register_described-requires g c =
    record { told = told_in_empty g.T.AgreesAsDescribed.is_told g.T.AgreesAsDescribed.tells c.requires.told _ c.new-types.ensures }
