use Rattle.std.proofs.Common.{inl, inr, arith}
use Rattle.schemars_types.proofs.Words.{OnTrue_at, OnTrue_from, LeadsOn}
use Rattle.schemars_types.proofs.check.faults.leads_on.Goals as goal

pub returns-then-m-from : goal.returns-then-m-from
returns-then-m-from c = record { on = λ low. absurd (omega (arith, low, c.if-m-from.true)) }

pub returns-then-n-m : goal.returns-then-n-m
returns-then-n-m c = record { on = λ low. inl c.if-n-m.true }

pub returns : goal.returns
returns c =
    let P : Type 0 = LeadsOn c.args.types.now c.args.from c.args.n c.args.m in
    OnTrue_from c.refers_to_none.result P (λ is. record { on = λ low. inr (OnTrue_at is c.refers_to_none.ensures) })
