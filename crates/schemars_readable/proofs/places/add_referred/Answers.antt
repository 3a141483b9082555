-- What is no fragment leads to nothing.
use Rattle.std.proofs.Common.{None, arith}
use Rattle.schemars_readable.proofs.Words.{strip_prefix_char, view, standing}
use Rattle.schemars_readable.proofs.Following.{no_pointer}
use Rattle.schemars_readable.proofs.places.add_referred.Goals as goal

pub returns-in_default : goal.returns-in_default
returns-in_default c =
    no_pointer (view c.args.document.now) c.args.reference.now (standing c.args.places.now.items)
    (strip_prefix_char 35 c.args.reference.now None c.in_default.ensures.cases (omega arith))
