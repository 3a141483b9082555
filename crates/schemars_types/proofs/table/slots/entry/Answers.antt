use Rattle.std.proofs.Common.{◌≡◌, map, option_map, slice_get, rules}
use Rattle.schemars_types.proofs.Words.{slice_get-map, row_of}
use Rattle.schemars_types.proofs.table.slots.entry.Goals as goal

pub returns : goal.returns
returns c =
    let slots = c.args.slots.now.entries in
    let there : slice_get (map row_of slots) c.args.n ≡ option_map row_of (slice_get slots c.args.n) =
    slice_get-map row_of slots c.args.n in
    rw there (search rules)
