-- Where what is left is JSON, so is the whole.
use Rattle.std.proofs.Common.{drop}
use Rattle.schemars_parts.proofs.Words.{AreWholeJson, items_assembled}
use Rattle.schemars_parts.proofs.Wholes.{AreWholeEntries}
use Rattle.schemars_parts.proofs.whole.+is_whole.Given as goal

abbrev pub invariant-are_whole-loop-part : goal.invariant-are_whole-loop-part
invariant-are_whole-loop-part l = AreWholeJson (items_assembled (drop l.part-index l.parts.items)) → AreWholeJson (items_assembled l.parts.items)

abbrev pub invariant-members_are_whole-loop-name : goal.invariant-members_are_whole-loop-name
invariant-members_are_whole-loop-name l = AreWholeEntries (drop l.name-index l.name-items) → AreWholeEntries l.members.items
