-- What a map's `remove` says, in the words of members.
use Rattle.std.proofs.Common.{ap, ◌∙◌, option_map}
use Rattle.schemars_flatten.proofs.Words.{view, members_view, view-lookup, members_view-remove_entry}
use Rattle.schemars_flatten.proofs.union.remove.Goals as goal

pub returns-clause-value : goal.returns-clause-value
returns-clause-value c = ap (option_map view) c.remove.ensures.value
    ∙ view-lookup c.args.key.now c.args.members.now.entries

pub returns-clause-removed : goal.returns-clause-removed
returns-clause-removed c = ap members_view c.remove.ensures.entries
    ∙ members_view-remove_entry c.args.key.now c.args.members.now.entries
