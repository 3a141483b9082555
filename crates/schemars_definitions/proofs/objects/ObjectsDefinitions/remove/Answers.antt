use Rattle.std.proofs.Common.{ap, ◌∙◌}
use Rattle.schemars_definitions.proofs.Words.{view, members_view, without}
use Rattle.schemars_definitions.proofs.EntryEdits.{without-by}
use Rattle.schemars_definitions.proofs.objects.ObjectsDefinitions.remove.Goals as goal

pub returns : goal.returns
returns c =
    let name = c.args.name.now in
    ap members_view c.remove.ensures.entries ∙ without-by view name c.self.inside.members.entries ∙ ap (without name) c.self.view_is
