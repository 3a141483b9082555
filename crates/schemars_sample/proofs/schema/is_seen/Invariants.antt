-- Those that are left decide.
use Rattle.std.proofs.Common.{◌≡◌, drop}
use Rattle.schemars_sample.proofs.Words.{view, items_view, is_seen}
use Rattle.schemars_sample.proofs.schema.is_seen.Given as goal

abbrev pub invariant-loop-other : goal.invariant-loop-other
invariant-loop-other l =
    is_seen (items_view (drop l.other-index l.schemas)) (view l.schema) ≡ is_seen (items_view l.schemas) (view l.schema)
