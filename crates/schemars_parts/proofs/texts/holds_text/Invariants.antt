use Rattle.std.proofs.Common.{◌≡◌, drop}
use Rattle.schemars_parts.proofs.Words.{holds_text, items_assembled}
use Rattle.schemars_parts.proofs.texts.holds_text.Given as goal

abbrev pub invariant-loop-part : goal.invariant-loop-part
invariant-loop-part l = holds_text l.text (items_assembled (drop l.part-index l.parts)) ≡ holds_text l.text (items_assembled l.parts)
