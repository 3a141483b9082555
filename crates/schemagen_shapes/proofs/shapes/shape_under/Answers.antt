-- A shape that is known is no refusal.
use Rattle.std.proofs.Common.{rules}
use Rattle.schemagen_shapes.proofs.shapes.shape_under.Goals as goal

pub returns-in-Some-clause-ok : goal.returns-in-Some-clause-ok
returns-in-Some-clause-ok c = search rules

pub returns-in-Some-clause-bad : goal.returns-in-Some-clause-bad
returns-in-Some-clause-bad c = search rules
