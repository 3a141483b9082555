-- An object with no entries has no members.
use Rattle.std.proofs.Common.{ap, ◌∙◌, sym}
use Rattle.schemars_flatten.proofs.Words.{view, view-Object, is_empty_object}
use Rattle.schemars_flatten.proofs.Optional.{empty_object}
use Rattle.schemars_flatten.proofs.part.optional.is_empty_object.Goals as goal

pub returns-in-Object : goal.returns-in-Object
returns-in-Object c =
    empty_object c.is_empty.result c.in-Object.members.entries c.is_empty.ensures.0 c.is_empty.ensures.1
    ∙ ap is_empty_object (sym (ap view c.in-Object.is ∙ view-Object c.in-Object.members))
