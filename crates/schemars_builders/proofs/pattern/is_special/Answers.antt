-- The characters of the list are the special ones.
use Rattle.std.proofs.Common.{◌∙◌}
use Rattle.schemars_builders.proofs.Words.{codes}
use Rattle.schemars_builders.proofs.Escapes.{list_any-either_way}
use Rattle.schemars_builders.proofs.pattern.is_special.Goals as goal

pub returns : goal.returns
returns c = c.contains.ensures.value ∙ list_any-either_way c.args.character (codes "\\.+*?()|[]{}^$#&-~")
