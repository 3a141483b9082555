-- A map's entry at a key is the member there.
use Rattle.std.proofs.Common.{◌∙◌, ap, option_map}
use Rattle.schemars_assertions.proofs.Words.{view, view_of_ref, view-lookup}
use Rattle.schemars_assertions.proofs.members.member.Goals as goal

pub returns : goal.returns
returns c =
    view_of_ref c.get.result
    ∙ (ap (option_map view) c.get.ensures.value ∙ view-lookup c.args.key.now c.args.members.now.entries)
