-- How far the slots have been compared.
use Rattle.std.proofs.Common.{◌≡◌, map}
use Rattle.schemars_types.proofs.Words.{row_of, begins_with}
use Rattle.schemars_types.proofs.table.slots.slots_begin_with.Given as goal

abbrev pub invariant-loop-id : goal.invariant-loop-id
invariant-loop-id l = begins_with (map row_of l.rest) (map row_of l.id-iterator)
    ≡ begins_with (map row_of l.slots.entries) (map row_of l.first.entries)
