use Rattle.std.proofs.Common.{◌≡◌, drop}
use Rattle.schemars_transform.proofs.Words.{codes, items_view, holds_text}
use Rattle.schemars_transform.proofs.built_in.nullable.holds_null.Given as goal

abbrev pub invariant-loop-name : goal.invariant-loop-name
invariant-loop-name l = holds_text (codes "null") (items_view (drop l.name-index l.names)) ≡ holds_text (codes "null") (items_view
    l.fn.names)
