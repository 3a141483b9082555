use Rattle.std.proofs.Common.{◌<◌, ◌≡◌, length, arith}
use Rattle.schemars_cycles.proofs.Words.{take_more}
use Rattle.schemars_cycles.proofs.Reaching.{meets_none, meets_then}
use Rattle.schemars_cycles.proofs.cycles.meet.Goals as goal

pub meet_one-requires : goal.meet_one-requires
meet_one-requires c =
    let known = c.requires c.loop-m.m-index 0 (omega arith) in
    let same : length c.loop-m.met.items ≡ length c.args.met.now.items = c.loop-m.invariant.same_length in
    omega arith

pub loop-m-init : goal.loop-m-init
loop-m-init c = meets_none _

pub loop-m-preserved : goal.loop-m-preserved
loop-m-preserved c =
    let below : c.loop-m.m-index < length c.args.numbers.now = omega arith in
    rw (take_more c.args.numbers.now c.loop-m.m-index 0 below) (meets_then _ _ _ _ _ c.loop-m.invariant c.in_ok-meet_one.ensures)
