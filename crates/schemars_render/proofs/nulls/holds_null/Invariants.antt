use Rattle.std.proofs.Common.{◌≡◌, drop}
use Rattle.schemars_render.proofs.Words.{holds_null, items_assembled}
use Rattle.schemars_render.proofs.nulls.holds_null.Given as goal

abbrev pub invariant-loop-value : goal.invariant-loop-value
invariant-loop-value l = holds_null (items_assembled (drop l.value-index l.values)) ≡ holds_null (items_assembled l.values)
