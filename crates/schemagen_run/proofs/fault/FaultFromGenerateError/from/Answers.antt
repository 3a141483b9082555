-- The number is the refusal's.
use Rattle.std.proofs.Common.{ap}
use Rattle.schemagen_run.specs.declared.fault.Fault.TheVariants.{Refused}
use Rattle.schemagen_run.proofs.fault.FaultFromGenerateError.from.Goals as goal

pub returns : goal.returns
returns c = ap Refused c.code.ensures
