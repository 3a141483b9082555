use Rattle.std.proofs.Common.{◌≡◌, drop}
use Rattle.schemars_transform.proofs.Words.{items_view, all_null}
use Rattle.schemars_transform.proofs.built_in.nullable.all_null.Given as goal

abbrev pub invariant-loop-name : goal.invariant-loop-name
invariant-loop-name l = all_null (items_view (drop l.name-index l.names)) ≡ all_null (items_view l.fn.names)
