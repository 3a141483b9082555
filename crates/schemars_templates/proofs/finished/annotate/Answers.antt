use Rattle.std.proofs.Common.{◌≡◌, [], ap, ◌∙◌, sym, rules}
use Rattle.schemars_templates.proofs.Words.{object, members_view, put_members, members_in}
use Rattle.schemars_templates.proofs.Annotating.{annotated-some}
use Rattle.schemars_templates.proofs.finished.annotate.Goals as goal

pub returns : goal.returns
returns c =
    let i = c.loop-key.invariant in
    let done : c.loop-key.key-iterator ≡ [] = search rules in
    let all : members_in c.loop-key.schema ≡ put_members (members_view c.args.notes.now.entries) (members_in c.args.schema.now) =
    ap (λ es. put_members (members_view es) (members_in c.loop-key.schema)) (sym done) ∙ i.left in
    i.is_object ∙ (ap object all ∙ annotated-some c.args.notes.now.entries c.is_empty.result c.if-is_empty.false c.is_empty.ensures.1
    c.args.schema.now)
