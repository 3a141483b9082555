-- The first rows, in the words of slots.
use Rattle.std.proofs.Common.{◌∙◌, ap, sym, subst, take, map}
use Rattle.schemars_types.proofs.Words.{take-map, RefersWithin, row_of}
use Rattle.schemars_types.proofs.table.Types.truncate.Goals as goal

pub invariant_of-self : goal.invariant_of-self
invariant_of-self c =
    let rows =
    ap (map row_of) c.truncate.ensures.entries
    ∙ sym (take-map row_of c.args.len c.self.inside.slots.entries)
    ∙ ap (take c.args.len) c.self.view_is in
    subst RefersWithin (sym rows) c.requires

pub returns : goal.returns
returns c =
    ap (map row_of) c.truncate.ensures.entries
    ∙ sym (take-map row_of c.args.len c.self.inside.slots.entries)
    ∙ ap (take c.args.len) c.self.view_is
