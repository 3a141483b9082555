use Rattle.std.proofs.Common.{ap, ◌∙◌}
use Rattle.schemars_types.proofs.Words.{place_of}
use Rattle.schemars_types.proofs.TableLemmas.{position-keys_of}
use Rattle.schemars_types.proofs.table.Types.find.Goals as goal

pub returns : goal.returns
returns c =
    c.get_index_of.ensures.index
    ∙ position-keys_of c.args.id.now c.self.inside.slots.entries
    ∙ ap (place_of c.args.id.now) c.self.view_is
