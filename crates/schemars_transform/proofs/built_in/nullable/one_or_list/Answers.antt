-- A list of no name, or of several, stays a list.
use Rattle.std.proofs.Common.{◌∙◌, arith}
use Rattle.schemars_transform.proofs.Words.{view-Array}
use Rattle.schemars_transform.proofs.Names.{not_one}
use Rattle.schemars_transform.proofs.built_in.nullable.one_or_list.Goals as goal

pub returns-then-len-ne1 : goal.returns-then-len-ne1
returns-then-len-ne1 c = view-Array c.args.names ∙ not_one c.args.names.items (λ e. omega (arith, e, c.len.ensures, c.if-len-ne1.true))
