-- The rows as the program holds them: by their ids, each with its name and its entry.
use Rattle.std.specs.Prelude.{◌≡◌, String, string_bytes, option_map}
use Rattle.std.specs.declared.alloc.Global.{Global}
use Rattle.schemars_types.specs.declared.table.slots.Slot.{Slot}
use Rattle.schemars_shapes.specs.Shape.{entry_of}
use Rattle.schemars_types.specs.Rows.{Row}

abbrev pub row_of : String Global × Slot → Row
row_of s = record { id = string_bytes s.0; name = string_bytes s.1.row.value.name; entry = option_map entry_of s.1.row.value.entry }

-- the same name, and entries that say the same
abbrev pub SameSlot : Slot → Slot → Type 0
SameSlot old new =
    (string_bytes new.row.value.name ≡ string_bytes old.row.value.name)
    × (option_map entry_of new.row.value.entry ≡ option_map entry_of old.row.value.entry)
