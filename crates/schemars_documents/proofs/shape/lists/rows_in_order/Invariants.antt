use Rattle.std.proofs.Common.{◌≡◌, ◌++◌, map, drop}
use Rattle.schemars_documents.proofs.Words.{row, template_view}
use Rattle.schemars_documents.proofs.shape.lists.rows_in_order.Given as goal

abbrev pub invariant-loop-part : goal.invariant-loop-part
invariant-loop-part l = map template_view l.rows.items ++ map row (drop l.part-index l.parts) ≡ map row l.parts
