use Rattle.std.proofs.Common.{option_map, sym, ap, ◌∙◌, rules}
use Rattle.schemars_schema.proofs.Words.{members_view, members_len-members_view}
use Rattle.schemars_schema.proofs.Containers.{object-as_object}
use Rattle.schemars_schema.proofs.edits.has_one_member.Goals as goal

pub returns-in-Some : goal.returns-in-Some
returns-in-Some c =
    let found = sym (ap (option_map (λ m. members_view m.now.entries)) c.in-Some.is) ∙ c.as_object.ensures in
    let is = object-as_object c.args.schema.now (members_view c.in-Some.members.now.entries) found in
    rw (is, members_len-members_view) (search rules)
