-- The property goes in, and then the name to those that are required.
use Rattle.std.proofs.Common.{ap, ◌∙◌}
use Rattle.schemars_builders.proofs.Words.{on_ok_weaker, object, members_view, with_property, required_unless}
use Rattle.schemars_builders.proofs.properties.insert_object_property.Goals as goal

pub returns : goal.returns
returns c =
    let name = c.args.key.now in
    let with_it =
    c.in_ok-put_property.ensures
    ∙ (ap (λ d. with_property name d (members_view c.in_ok-members.members.now.entries)) c.to_value.ensures.value
    ∙ ap (with_property name c.args.sub_schema) c.in_ok-members.ensures.value) in
    on_ok_weaker c.require_unless.result
    (λ h. ap object (h ∙ ap (required_unless c.args.is_optional name) with_it)) c.require_unless.ensures
