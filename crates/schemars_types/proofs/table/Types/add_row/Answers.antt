use Rattle.std.proofs.Common.{◌≡◌, Some, map, string_bytes, ap, ◌∙◌, sym, subst}
use Rattle.schemars_types.proofs.Words.{place_of, reserved, RefersWithin, row_of}
use Rattle.schemars_types.proofs.TableLemmas.{insert_entry-reserved, place_of-reserved}
use Rattle.schemars_types.proofs.Within.{within_reserved}
use Rattle.schemars_types.proofs.table.Types.add_row.Goals as goal

pub invariant_of-self-2 : goal.invariant_of-self-2
invariant_of-self-2 c =
    let rows : map row_of c.add_slot.new.slots.entries ≡ reserved (string_bytes c.args.id) (string_bytes c.args.name) c.args.self.now =
    let joins = c.in_ok-add_slot.ensures.ok in
    ap (map row_of) joins.1 ∙ insert_entry-reserved c.args.id c.args.name joins.0 c.self.inside.slots.entries
    c.args.self.now joins.2 c.self.view_is c.requires in
    subst RefersWithin (sym rows) (within_reserved c.args.self.now (string_bytes c.args.id) (string_bytes c.args.name)
    (subst RefersWithin c.self.view_is c.self.invariant))

pub returns-clause-ok : goal.returns-clause-ok
returns-clause-ok c =
    let joins = c.in_ok-add_slot.ensures.ok in
    ap (map row_of) joins.1 ∙ insert_entry-reserved c.args.id c.args.name joins.0 c.self.inside.slots.entries
    c.args.self.now joins.2 c.self.view_is c.requires

pub returns-clause-number : goal.returns-clause-number
returns-clause-number c =
    ap (place_of (string_bytes c.args.id)) (returns-clause-ok c) ∙ place_of-reserved (string_bytes c.args.id) (string_bytes c.args.name)
    c.args.self.now c.requires ∙ ap Some (sym c.len-n.ensures.len)
