use Rattle.std.proofs.Common.{ap, ◌∙◌, rules}
use Rattle.schemars_parts.proofs.Words.{object, IsSorted, members_assembled}
use Rattle.schemars_parts.proofs.Lists.{sorted_members}
use Rattle.schemars_parts.proofs.PartViews.{seen_object}
use Rattle.schemars_parts.proofs.members.object_of.Goals as goal

pub returns-then-sort_by_name : goal.returns-then-sort_by_name
returns-then-sort_by_name c =
    let members = c.sort_by_name.new.members in
    let sorted : IsSorted (members_assembled members.items) = search rules in
    seen_object members ∙ ap object (sorted_members c.args.members.items members.items c.sort_by_name.ensures.same sorted)
