-- Each fault has its status.
use Rattle.std.proofs.Common.{ap, sym}
use Rattle.schemagen_run.specs.Fault.{status_of}
use Rattle.schemagen_run.proofs.fault.Fault.status.Goals as goal

pub returns-in-Usage : goal.returns-in-Usage
returns-in-Usage c = ap status_of (sym c.in-Usage.is)

pub returns-in-Refused : goal.returns-in-Refused
returns-in-Refused c = ap status_of (sym c.in-Refused.is)
