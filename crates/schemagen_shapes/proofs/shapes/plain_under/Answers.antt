-- Each name has its shape.
use Rattle.std.proofs.Common.{rules}
use Rattle.schemagen_shapes.proofs.shapes.plain_under.Goals as goal

pub returns : goal.returns
returns c = search rules
