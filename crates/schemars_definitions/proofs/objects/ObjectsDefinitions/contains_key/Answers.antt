use Rattle.std.proofs.Common.{ap, ◌∙◌, is_some}
use Rattle.schemars_definitions.proofs.Words.{get_member, view}
use Rattle.schemars_definitions.proofs.EntryEdits.{has_member-by}
use Rattle.schemars_definitions.proofs.objects.ObjectsDefinitions.contains_key.Goals as goal

pub returns : goal.returns
returns c =
    let name = c.args.name.now in
    c.contains_key.ensures ∙ has_member-by view name c.self.inside.members.entries ∙ ap (λ ms. is_some (get_member name ms)) c.self.view_is
