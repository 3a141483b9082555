use Rattle.std.proofs.Common.{◌≡◌, Some, slice_get, ap, ◌∙◌, sym, subst, rules}
use Rattle.schemars_types.proofs.Words.{values_of, entry_of, defined, RefersWithin}
use Rattle.schemars_types.proofs.TableLemmas.{map-set_value_at}
use Rattle.schemars_types.proofs.Within.{within_defined}
use Rattle.schemars_types.proofs.table.Types.set_entry.Goals as goal

pub invariant_of-self : goal.invariant_of-self
invariant_of-self c =
    let there : slice_get (values_of c.self.inside.slots.entries) c.args.n ≡ Some c.index_mut.result.now = search rules in
    let rows =
    map-set_value_at c.self.inside.slots.entries c.args.n c.index_mut.result.now _ c.args.entry c.define.ensures there
    ∙ ap (defined c.args.n (entry_of c.args.entry)) c.self.view_is in
    subst RefersWithin (sym rows) (within_defined c.args.n (entry_of c.args.entry) c.args.self.now c.requires.known
    (subst RefersWithin c.self.view_is c.self.invariant))

pub returns : goal.returns
returns c =
    let there : slice_get (values_of c.self.inside.slots.entries) c.args.n ≡ Some c.index_mut.result.now = search rules in
    map-set_value_at c.self.inside.slots.entries c.args.n c.index_mut.result.now _ c.args.entry c.define.ensures there
    ∙ ap (defined c.args.n (entry_of c.args.entry)) c.self.view_is
