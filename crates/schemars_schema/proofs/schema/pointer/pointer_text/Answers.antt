-- A pointer without a `#` is its own text.
use Rattle.std.proofs.Common.{None, arith}
use Rattle.schemars_schema.proofs.Words.{strip_prefix_char}
use Rattle.schemars_schema.proofs.Pointers.{plain_text}
use Rattle.schemars_schema.proofs.schema.pointer.pointer_text.Goals as goal

pub returns-in-None : goal.returns-in-None
returns-in-None c = plain_text c.args.pointer.now (strip_prefix_char 35 c.args.pointer.now None c.in-None.ensures.cases (omega arith))
