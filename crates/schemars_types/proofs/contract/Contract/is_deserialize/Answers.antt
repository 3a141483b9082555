use Rattle.std.proofs.Common.{rules}
use Rattle.schemars_types.proofs.contract.Contract.is_deserialize.Goals as goal

pub returns-in-Serialize : goal.returns-in-Serialize
returns-in-Serialize c = search rules
