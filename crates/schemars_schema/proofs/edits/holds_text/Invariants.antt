use Rattle.std.proofs.Common.{◌≡◌, drop}
use Rattle.schemars_schema.proofs.Words.{items_view, holds_text}
use Rattle.schemars_schema.proofs.edits.holds_text.Given as goal

abbrev pub invariant-loop-value : goal.invariant-loop-value
invariant-loop-value l = holds_text l.text (items_view (drop l.value-index l.values)) ≡ holds_text l.text (items_view l.values)
