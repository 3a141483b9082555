-- What each call of a member adds.
use Rattle.std.proofs.Common.{Ok, Err, sym, ap, subst, arith, length, set}
use Rattle.schemars_walk.proofs.Words.{err_from_is_err_and, with_items_is, length-set, InOrder}
use Rattle.schemars_walk.proofs.Orders.{order_begins, order_goes_on, order_stops, order_ends}
use Rattle.schemars_walk.proofs.list.VecTransform.transform.Goals as goal

pub loop-member-init : goal.loop-member-init
loop-member-init g c =
    order_begins g.T.Transform.makes c.args.self.now.items c.deref_mut-member-items.result.now c.args.schema.now
    c.deref_mut-member-items.ensures.value

pub loop-member-preserved : goal.loop-member-preserved
loop-member-preserved g c =
    order_goes_on g.T.Transform.makes c.args.self.now.items c.args.schema.now c.loop-member.member-items
    c.loop-member.member-index c.loop-member.schema c.loop-member.invariant c.member-item.result
    c.transform.new.self c.transform.new.schema (omega (
      arith,
      c.loop-member.auto.member-items,
      c.loop-member-test.true,
    )) c.in_ok-transform.ensures

pub returns-in_err-transform : goal.returns-in_err-transform
returns-in_err-transform g c =
    let p = err_from_is_err_and c.from_residual.result c.from_residual.ensures.1 in
    rw (p.1, p.2) (subst (λ us. InOrder g.T.Transform.makes c.args.self.now.items c.args.schema.now
    (Err c.in_err-transform.field-0.0) us c.transform.new.schema) (sym (with_items_is c.args.self.now
    (set c.loop-member.member-items c.loop-member.member-index c.transform.new.self) (omega (
      arith,
      length-set c.loop-member.member-items c.loop-member.member-index c.transform.new.self,
      c.loop-member.auto.member-items,
      ap length c.deref_mut-member-items.ensures.value,
      c.args.self.now.ok.0,
    )))) (order_stops g.T.Transform.makes c.args.self.now.items c.args.schema.now c.loop-member.member-items
    c.loop-member.member-index c.loop-member.schema c.loop-member.invariant c.member-item.result
    c.transform.new.self c.transform.new.schema
    c.in_err-transform.field-0.0 (omega (
      arith,
      c.loop-member.auto.member-items,
      c.loop-member-test.true,
    )) c.in_err-transform.ensures))

pub returns : goal.returns
returns g c =
    subst (λ us. InOrder g.T.Transform.makes c.args.self.now.items c.args.schema.now (Ok tt) us
    c.loop-member.schema) (sym (with_items_is c.args.self.now c.loop-member.member-items (omega (
      arith,
      c.loop-member.auto.member-items,
      ap length c.deref_mut-member-items.ensures.value,
      c.args.self.now.ok.0,
    )))) (order_ends g.T.Transform.makes c.args.self.now.items c.args.schema.now c.loop-member.member-items
    c.loop-member.member-index c.loop-member.schema c.loop-member.invariant
    (omega (arith, c.loop-member.auto.member-items, c.loop-member-test.false)))
