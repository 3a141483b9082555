use Rattle.std.proofs.Common.{◌≡◌, false, ap, ◌∙◌, subst, IfErr}
use Rattle.schemars_types.proofs.Words.{err_from_is_err_and, Fields, struct, without_notes, unknown_in, Refuses, refuses_u32, refuses_time}
use Rattle.schemars_types.proofs.Times.{time_known, time_refused}
use Rattle.schemars_types.proofs.table.Types.register_time.Goals as goal

pub returns-in_err-part-clause-refused : goal.returns-in_err-part-clause-refused
returns-in_err-part-clause-refused c =
    let p = err_from_is_err_and c.from_residual-in_err-part.result c.from_residual-in_err-part.ensures.1 in
    let same : c.int-2.new.self ≡ c.int.new.self = c.in_err-part.ensures.err in
    rw (p.1, p.2, same) (refuses_u32 c.in_ok-whole.whole c.in_ok-whole.ensures.ok c.in_err-part.ensures.refused)

pub returns-in_err-fields-clause-refused : goal.returns-in_err-fields-clause-refused
returns-in_err-fields-clause-refused c =
    let known = time_known c.args.seconds.now c.args.nanoseconds.now c.in_ok-whole.whole c.in_ok-part.part c.args.self.now c.int.new.self
    c.int-2.new.self c.in_ok-whole.ensures.ok c.in_ok-part.ensures.ok in
    let p = err_from_is_err_and c.from_residual-in_err-fields.result c.from_residual-in_err-fields.ensures.1 in
    rw (p.1, p.2) (refuses_time c.in_ok-whole.whole c.in_ok-part.part c.int.new.self c.in_ok-whole.ensures.ok c.in_ok-part.ensures.ok known)

pub register_named-requires : goal.register_named-requires
register_named-requires c =
    let rows = c.int-2.new.self in
    ap (λ (fields : Fields). unknown_in rows (struct fields)) c.in_ok-fields.ensures
    ∙ time_known c.args.seconds.now c.args.nanoseconds.now c.in_ok-whole.whole c.in_ok-part.part c.args.self.now c.int.new.self rows
    c.in_ok-whole.ensures.ok c.in_ok-part.ensures.ok

pub returns-clause-refused : goal.returns-clause-refused
returns-clause-refused c =
    let rows = c.int-2.new.self in
    time_refused c.register_named.result c.args.id.now c.args.seconds.now c.args.nanoseconds.now c.args.self.now c.int.new.self rows
    c.register_named.new.self c.in_ok-whole.whole c.in_ok-part.part c.in_ok-whole.ensures.ok c.in_ok-part.ensures.ok
    c.register_named.ensures.err
    (subst (λ (fields : Fields). IfErr c.register_named.result
    (Refuses c.args.id.now (without_notes false (struct fields)) rows))
    c.in_ok-fields.ensures c.register_named.ensures.refused)
