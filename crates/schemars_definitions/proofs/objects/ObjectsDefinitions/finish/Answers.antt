use Rattle.std.proofs.Common.{ap, ap₂, ◌∙◌}
use Rattle.schemars_definitions.proofs.Words.{view, members_view, replaced}
use Rattle.schemars_definitions.proofs.EntryEdits.{replaced-by}
use Rattle.schemars_definitions.proofs.objects.ObjectsDefinitions.finish.Goals as goal

pub returns-clause-ok : goal.returns-clause-ok
returns-clause-ok c =
    let name = c.args.name.now in
    ap members_view c.replace.ensures ∙ replaced-by view name c.to_value.result c.self.inside.members.entries
    ∙ ap₂ (replaced name) c.to_value.ensures.value c.self.view_is
