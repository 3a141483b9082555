-- What a map's `insert` says, in the words of members.
use Rattle.std.proofs.Common.{ap, ◌∙◌, option_map, string_bytes}
use Rattle.schemars_schema.proofs.Words.{view, members_view, members_view-insert_entry, view-lookup}
use Rattle.schemars_schema.proofs.schema.insert_member.Goals as goal

pub returns-clause-ok : goal.returns-clause-ok
returns-clause-ok c = ap members_view c.in_ok-insert.ensures.entries
    ∙ members_view-insert_entry c.args.members.now.entries c.args.key c.args.value

pub returns-clause-old : goal.returns-clause-old
returns-clause-old c = ap (option_map view) c.in_ok-insert.ensures.old ∙ view-lookup (string_bytes c.args.key) c.args.members.now.entries
