use Rattle.std.proofs.Common.{◌≡◌, drop}
use Rattle.schemars_builders.proofs.Words.{items_view, holds_null}
use Rattle.schemars_builders.proofs.null.holds_null.Given as goal

abbrev pub invariant-loop-value : goal.invariant-loop-value
invariant-loop-value l = holds_null (items_view (drop l.value-index l.values)) ≡ holds_null (items_view l.values)
