-- Whether a map has a key, in the words of members.
use Rattle.std.proofs.Common.{◌∙◌}
use Rattle.schemars_schema.proofs.Changes.{is_there}
use Rattle.schemars_flatten.proofs.merging.contains_key.Goals as goal

pub returns : goal.returns
returns c = c.contains_key.ensures ∙ is_there c.args.key.now c.args.members.now.entries
