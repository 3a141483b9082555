use Rattle.std.proofs.Common.{◌≡◌, Some, None, ◌∙◌, arith, rules}
use Rattle.schemars_impls.proofs.Words.{in_place, set, set_id, set_name}
use Rattle.schemars_types.specs.declared.error.TypesError.TheVariants.{OutOfMemory}
use Rattle.schemars_impls.proofs.Keeping.{keeps-same, keeps-trans, reserved_keeps}
use Rattle.schemars_impls.proofs.OwnRows.{row-present, found_at, row-added, added-memory, known-alone, row_of_keeps, placed_number, set_follows}
use Rattle.schemars_impls.proofs.rows.set_of.Goals as goal

pub returns-clause-has : goal.returns-clause-has
returns-clause-has c = row-added c.args.id.now c.args.name.now set_id set_name (λ k. in_place (set k)) c.args.types.now
    c.reserve.new.types c.in_ok-n.n
    c.in_ok-n.ensures.reserves c.in_ok-n.ensures.number
    (found_at c.reserve.new.types (c.as_str.ensures.value ∙ c.in_ok-made.ensures.ok) c.find.ensures None (grind arith))
    c.set.new.self c.in_ok-number.number c.in_ok-number.ensures.ok

pub returns-clause-follows : goal.returns-clause-follows
returns-clause-follows c =
    set_follows c.args.id.now c.args.name.now
    (row-added c.args.id.now c.args.name.now set_id set_name (λ k. in_place (set k)) c.args.types.now c.reserve.new.types c.in_ok-n.n
    c.in_ok-n.ensures.reserves c.in_ok-n.ensures.number
    (found_at c.reserve.new.types (c.as_str.ensures.value ∙ c.in_ok-made.ensures.ok) c.find.ensures None (grind arith))
    c.set.new.self c.in_ok-number.number c.in_ok-number.ensures.ok)

pub returns-clause-keeps : goal.returns-clause-keeps
returns-clause-keeps c = row_of_keeps
    (row-added c.args.id.now c.args.name.now set_id set_name (λ k. in_place (set k)) c.args.types.now c.reserve.new.types c.in_ok-n.n
    c.in_ok-n.ensures.reserves c.in_ok-n.ensures.number
    (found_at c.reserve.new.types (c.as_str.ensures.value ∙ c.in_ok-made.ensures.ok) c.find.ensures None (grind arith))
    c.set.new.self c.in_ok-number.number c.in_ok-number.ensures.ok)

pub returns-in_err-number-clause-memory : goal.returns-in_err-number-clause-memory
returns-in_err-number-clause-memory c =
    let why : c.in_err-number.field-0.0
    ≡ OutOfMemory = added-memory c.args.id.now set_id (in_place (set c.in_ok-n.n)) c.reserve.new.types c.in_ok-n.n
    c.in_err-number.field-0.0 c.in_ok-n.ensures.number
    (found_at c.reserve.new.types (c.as_str.ensures.value ∙ c.in_ok-made.ensures.ok) c.find.ensures None (grind arith))
    (known-alone c.args.id.now c.reserve.new.types c.in_ok-n.n c.in_ok-n.ensures.number) c.in_err-number.ensures.refused in
    search rules

pub returns-in_err-number-clause-keeps : goal.returns-in_err-number-clause-keeps
returns-in_err-number-clause-keeps c =
    keeps-trans (reserved_keeps c.args.id.now c.args.name.now c.args.types.now c.reserve.new.types c.in_ok-n.ensures.reserves)
    (keeps-same _ _ c.in_err-number.ensures.err)

pub returns-in-Some-clause-follows : goal.returns-in-Some-clause-follows
returns-in-Some-clause-follows c = set_follows c.args.id.now c.args.name.now
    (row-present c.args.id.now c.args.name.now (set_id c.args.id.now) set_name (λ k. in_place (set k)) c.args.types.now
    c.reserve.new.types c.in_ok-n.n
    c.in_ok-n.ensures.reserves c.in_ok-n.ensures.number c.in-Some.there
    (found_at c.reserve.new.types (c.as_str.ensures.value ∙ c.in_ok-made.ensures.ok) c.find.ensures (Some c.in-Some.there)
    (grind arith)))

pub returns-clause-known : goal.returns-clause-known
returns-clause-known c = placed_number _ c.in_ok-number.ensures.ok.number

pub returns-in-Some-clause-known : goal.returns-in-Some-clause-known
returns-in-Some-clause-known c = placed_number _
    (found_at c.reserve.new.types (c.as_str.ensures.value ∙ c.in_ok-made.ensures.ok) c.find.ensures (Some c.in-Some.there)
    (grind arith))
