use Rattle.std.proofs.Common.{◌∙◌, ap}
use Rattle.schemars_render.proofs.Words.{object, members_view, put_members, annotated-some, assembled_view}
use Rattle.schemars_render.proofs.keywords.annotate.Goals as goal

pub returns : goal.returns
returns c =
    let notes = c.args.notes.now.entries in
    c.into_object.ensures
    ∙ (ap object (c.in_ok-put_values.ensures ∙ ap (put_members (members_view notes)) c.in_ok-members.ensures)
    ∙ annotated-some notes c.is_empty.result c.if-is_empty.false c.is_empty.ensures.1 (assembled_view c.args.schema))
