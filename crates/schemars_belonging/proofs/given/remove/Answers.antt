-- What a map's `remove` says, in the words of members.
use Rattle.std.proofs.Common.{ap, ◌∙◌}
use Rattle.schemars_belonging.proofs.Words.{members_view, members_view-remove_entry}
use Rattle.schemars_belonging.proofs.given.remove.Goals as goal

pub returns : goal.returns
returns c = ap members_view c.remove-removed.ensures.entries ∙ members_view-remove_entry c.args.key.now c.args.members.now.entries
