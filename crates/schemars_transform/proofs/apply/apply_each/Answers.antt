-- What each call of a transform adds.
use Rattle.std.proofs.Common.{Ok, Err, sym, ap, subst, arith, length, set}
use Rattle.schemars_transform.proofs.Words.{err_from_is_err_and, with_items_is, length-set, InOrder, order_begins, order_goes_on, order_stops, order_ends, OfMember}
use Rattle.schemars_transform.proofs.apply.apply_each.Goals as goal

pub loop-transform-init : goal.loop-transform-init
loop-transform-init g c = record {
  needs = c.requires;
  goes_on = order_begins (OfMember g.O.Transform.makes) c.args.transforms.now.items c.deref_mut-transform-items.result.now
      c.args.schema.now c.deref_mut-transform-items.ensures.value;
}

pub loop-transform-preserved : goal.loop-transform-preserved
loop-transform-preserved g c = record {
  needs = c.in_ok-apply_one.ensures.needs;
  goes_on = order_goes_on (OfMember g.O.Transform.makes) c.args.transforms.now.items c.args.schema.now c.loop-transform.transform-items
      c.loop-transform.transform-index c.loop-transform.schema c.loop-transform.invariant.goes_on c.transform-item.result
      c.apply_one.new.transform c.apply_one.new.schema
      (omega (arith, c.loop-transform.auto.transform-items, c.loop-transform-test.true)) c.in_ok-apply_one.ensures.step;
}

pub returns-in_err-apply_one : goal.returns-in_err-apply_one
returns-in_err-apply_one g c =
    let p = err_from_is_err_and c.from_residual.result c.from_residual.ensures.1 in
    let items = set c.loop-transform.transform-items c.loop-transform.transform-index c.apply_one.new.transform in
    rw (p.1, p.2) (subst (λ us. InOrder (OfMember g.O.Transform.makes) c.args.transforms.now.items c.args.schema.now
    (Err c.in_err-apply_one.field-0.0) us c.apply_one.new.schema) (sym (with_items_is c.args.transforms.now items (omega (
      arith,
      length-set c.loop-transform.transform-items c.loop-transform.transform-index c.apply_one.new.transform,
      c.loop-transform.auto.transform-items,
      ap length c.deref_mut-transform-items.ensures.value,
      c.args.transforms.now.ok.0,
    )))) (order_stops (OfMember g.O.Transform.makes) c.args.transforms.now.items c.args.schema.now c.loop-transform.transform-items
    c.loop-transform.transform-index c.loop-transform.schema c.loop-transform.invariant.goes_on c.transform-item.result
    c.apply_one.new.transform c.apply_one.new.schema c.in_err-apply_one.field-0.0
    (omega (arith, c.loop-transform.auto.transform-items, c.loop-transform-test.true)) c.in_err-apply_one.ensures.step))

pub returns : goal.returns
returns g c =
    subst (λ us. InOrder (OfMember g.O.Transform.makes) c.args.transforms.now.items c.args.schema.now (Ok tt) us
    c.loop-transform.schema) (sym (with_items_is c.args.transforms.now c.loop-transform.transform-items (omega (
      arith,
      c.loop-transform.auto.transform-items,
      ap length c.deref_mut-transform-items.ensures.value,
      c.args.transforms.now.ok.0,
    )))) (order_ends (OfMember g.O.Transform.makes) c.args.transforms.now.items c.args.schema.now c.loop-transform.transform-items
    c.loop-transform.transform-index c.loop-transform.schema c.loop-transform.invariant.goes_on
    (omega (arith, c.loop-transform.auto.transform-items, c.loop-transform-test.false)))
