-- What an object and each item of a list need.
use Rattle.std.proofs.Common.{arith}
use Rattle.schemars_transform.proofs.Words.{items_view, items_shallow, needed_by_items, view-Object}
use Rattle.schemars_transform.proofs.Asking.{object_done, items_turn, items_end}
use Rattle.schemars_transform.proofs.needs.+needs.Goals as goal

pub add_schema-returns-in-Object : goal.add_schema-returns-in-Object
add_schema-returns-in-Object t c =
    rw (c.in-Object.is, view-Object c.in-Object.members) (object_done c.in-Object.members.entries c.len.result c.args.needs.now
    c.add_keywords.new.needs c.len.ensures.len c.add_keywords.ensures)

pub add_items-loop-item-preserved : goal.add_items-loop-item-preserved
add_items-loop-item-preserved t c =
    let xs = c.args.items.now in
    let i = c.loop-item.item-index in
    let shallow = items_shallow xs i c.item-item.result c.loop-item-test.true in record {
      deep = omega (arith, shallow, c.loop-item.invariant.deep);
      rest = items_turn xs i c.item-item.result (needed_by_items (items_view xs) c.args.needs.now) c.loop-item.needs
          c.add_schema.new.needs c.loop-item-test.true c.item-item.is c.add_schema.ensures c.loop-item.invariant.rest;
    }

pub add_items-returns : goal.add_items-returns
add_items-returns t c =
    items_end c.args.items.now c.loop-item.item-index (needed_by_items (items_view c.args.items.now) c.args.needs.now)
    c.loop-item.needs (omega (arith, c.loop-item-test.false)) c.loop-item.invariant.rest
