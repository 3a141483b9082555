use Rattle.std.proofs.Common.{◌∙◌, ap, map}
use Rattle.schemars_documents.proofs.Words.{flattened_of, ask_of, template_view, node_view, with_answers, seen_members}
use Rattle.schemars_documents.proofs.Flattening.{flattened_answers}
use Rattle.schemars_documents.proofs.shape.maps.with_flattened.Goals as goal

pub returns : goal.returns
returns c =
    let own = node_view c.args.own in
    seen_members c.in_ok-new.field-0 c.in_ok-members.members
    ∙ (ap (λ t. with_answers t (map ask_of c.in_ok-members.members.items)) (ap template_view c.in_ok-new.ensures.ok ∙ c.bare.ensures)
    ∙ (ap (with_answers own) c.in_ok-members.ensures
    ∙ flattened_answers c.args.contract (map flattened_of c.args.flatten.now) own))
