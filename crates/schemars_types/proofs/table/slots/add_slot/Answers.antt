use Rattle.std.proofs.Common.{◌≡◌, rules}
use Rattle.schemars_types.proofs.Words.{string_eq, insert_entry}
use Rattle.schemars_types.proofs.table.slots.add_slot.Goals as goal

pub returns-clause-ok : goal.returns-clause-ok
returns-clause-ok c =
    let joins : c.insert.new.self.entries ≡ insert_entry string_eq c.args.slots.now.entries c.args.id c.in_ok-slot.slot = search rules in
    (c.in_ok-slot.slot, joins, c.in_ok-slot.ensures)
