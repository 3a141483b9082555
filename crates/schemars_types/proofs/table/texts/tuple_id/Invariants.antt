-- The texts so far, and those of the parts that are left.
use Rattle.std.proofs.Common.{◌≡◌, ◌++◌, map, drop}
use Rattle.schemars_types.specs.Rows.{id_at}
use Rattle.schemars_types.proofs.table.texts.tuple_id.Given as goal

abbrev pub invariant-loop-n : goal.invariant-loop-n
invariant-loop-n l =
    map (λ t. t.now) l.ids.items ++ map (id_at l.types) (drop l.n-index l.parts) ≡ map (id_at l.types) l.parts
