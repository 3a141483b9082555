-- What each schema of a list adds.
use Rattle.std.proofs.Common.{arith}
use Rattle.schemars_transform.proofs.Words.{members_view, items_view, items_shallow, with_names, names_in_items}
use Rattle.schemars_transform.proofs.Gathering.{items_turn, items_end}
use Rattle.schemars_transform.proofs.built_in.unevaluated.+names.Goals as goal

pub add_items-loop-schema-preserved : goal.add_items-loop-schema-preserved
add_items-loop-schema-preserved t c =
    let xs = c.args.schemas.now in
    let i = c.loop-schema.schema-index in
    let shallow = items_shallow xs i c.schema-item.result c.loop-schema-test.true in record {
      deep = omega (arith, shallow, c.loop-schema.invariant.deep);
      rest = items_turn xs i c.schema-item.result (with_names (names_in_items (items_view xs)) (members_view c.args.names.now.entries))
          (members_view c.loop-schema.names.entries) (members_view c.add_names.new.names.entries)
          c.loop-schema-test.true c.schema-item.is c.in_ok-add_names.ensures c.loop-schema.invariant.rest;
    }

pub add_items-returns : goal.add_items-returns
add_items-returns t c =
    items_end c.args.schemas.now c.loop-schema.schema-index (with_names (names_in_items (items_view c.args.schemas.now)) (members_view
    c.args.names.now.entries)) (members_view c.loop-schema.names.entries)
    (omega (arith, c.loop-schema-test.false)) c.loop-schema.invariant.rest
