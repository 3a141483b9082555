-- What each call answers.
use Rattle.std.proofs.Common.{sym, ap, ◌∙◌, arith}
use Rattle.schemars_flatten.proofs.Words.{view, items_view, members_view, items_shallow, closed_in_items}
use Rattle.schemars_flatten.proofs.ClosedCalls.{closed_first, closed_rest, closed_other, closed_array, closed_no_array, item_found, item_passed, all_passed}
use Rattle.schemars_flatten.proofs.part.closing.+closing.Goals as goal

pub schema_closes-returns-then-closes : goal.schema_closes-returns-then-closes
schema_closes-returns-then-closes t c =
    closed_first (view c.args.schema.now) (members_view c.in-Some.members.now.entries) c.closes.result c.in-Some.ensures
    c.closes.ensures c.if-closes.true

pub schema_closes-returns-else-closes : goal.schema_closes-returns-else-closes
schema_closes-returns-else-closes t c =
    closed_rest (view c.args.schema.now) (members_view c.in-Some.members.now.entries) c.closes.result
    c.keywords_close.result c.in-Some.ensures c.closes.ensures c.if-closes.false c.keywords_close.ensures

pub schema_closes-returns-in-None : goal.schema_closes-returns-in-None
schema_closes-returns-in-None t c = closed_other (view c.args.schema.now) c.in-None.ensures

pub list_closes-returns-in-Some : goal.list_closes-returns-in-Some
list_closes-returns-in-Some t c =
    c.items_close.ensures
    ∙ (ap (λ xs. closed_in_items (items_view xs)) c.deref.ensures.value
    ∙ closed_array (view c.args.list.now) (items_view c.in-Some.schemas.now.items) c.in-Some.ensures)

pub list_closes-returns-in-None : goal.list_closes-returns-in-None
list_closes-returns-in-None t c = closed_no_array (view c.args.list.now) c.in-None.ensures

pub items_close-returns-then-schema_closes : goal.items_close-returns-then-schema_closes
items_close-returns-then-schema_closes t c =
    let xs = c.args.schemas.now in
    item_found xs c.loop-schema.schema-index c.schema-item.result (closed_in_items (items_view xs))
    c.loop-schema-test.true c.schema-item.is (sym c.schema_closes.ensures ∙ c.if-schema_closes.true)
    c.loop-schema.invariant.rest

pub items_close-loop-schema-preserved : goal.items_close-loop-schema-preserved
items_close-loop-schema-preserved t c =
    let xs = c.args.schemas.now in
    let i = c.loop-schema.schema-index in
    let shallow = items_shallow xs i c.schema-item.result c.loop-schema-test.true in record {
      deep = omega (arith, shallow, c.loop-schema.invariant.deep);
      rest = item_passed xs i c.schema-item.result (closed_in_items (items_view xs)) c.loop-schema-test.true
          c.schema-item.is (sym c.schema_closes.ensures ∙ c.if-schema_closes.false) c.loop-schema.invariant.rest;
    }

pub items_close-returns : goal.items_close-returns
items_close-returns t c =
    let xs = c.args.schemas.now in
    all_passed xs c.loop-schema.schema-index (closed_in_items (items_view xs)) (omega (arith, c.loop-schema-test.false))
    c.loop-schema.invariant.rest
