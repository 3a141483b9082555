-- What a map's `insert` says, in the words of members.
use Rattle.std.proofs.Common.{ap, ◌∙◌}
use Rattle.schemars_flatten.proofs.Words.{members_view, members_view-insert_entry}
use Rattle.schemars_flatten.proofs.union.insert.Goals as goal

pub returns : goal.returns
returns c = ap members_view c.in_ok-_old.ensures.entries
    ∙ members_view-insert_entry c.args.members.now.entries c.args.key c.args.value
