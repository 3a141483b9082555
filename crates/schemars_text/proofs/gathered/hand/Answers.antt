-- The sink takes all, or a beginning and has failed.
use Rattle.std.proofs.Common.{◌≡◌, ◌<◌, [], length, rules}
use Rattle.schemars_text.proofs.Becomings.{takes, breaks, stays_failed, no_bytes}
use Rattle.schemars_text.proofs.gathered.hand.Goals as goal

pub returns-in-Ok : goal.returns-in-Ok
returns-in-Ok g c = λ start text h.
    let some : 0 < length c.args.bytes.now = search rules in
    takes start text _ _ _ _ c.args.bytes.now c.in-Ok.ensures.bytes (c.in-Ok.ensures.sound some)
    (rw c.if-failed.false at h)

pub returns-in-Err : goal.returns-in-Err
returns-in-Err g c = λ start text h.
    breaks start text _ _ _ _ c.args.bytes.now c.in-Err.ensures.beginning c.in-Err.ensures.failed
    (rw c.if-failed.false at h)

pub returns-then-failed : goal.returns-then-failed
returns-then-failed g c = λ start text h.
    stays_failed start text _ _ c.args.bytes.now []
    (rw c.if-failed.true at h)

pub returns-then-is_empty : goal.returns-then-is_empty
returns-then-is_empty g c = λ start text h.
    let none : length c.args.bytes.now ≡ 0 = search rules in
    rw (c.if-failed.false, no_bytes c.args.bytes.now none) at h
