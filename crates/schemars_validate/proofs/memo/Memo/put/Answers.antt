-- Parts of which nothing is kept, up to the place, and then what is put there.
use Rattle.std.proofs.Common.{refl}
use Rattle.schemars_validate.proofs.Keeping.{part_added, part_put, unchanged}
use Rattle.schemars_validate.proofs.memo.Memo.put.Goals as goal

pub loop-alloc-preserved : goal.loop-alloc-preserved
loop-alloc-preserved c = λ to v known.
    part_added c.loop-alloc.self c.new.result c.push.new.self c.new.ensures c.in_ok-push.ensures.items to v (c.loop-alloc.invariant to v known)

pub returns-in_err-push : goal.returns-in_err-push
returns-in_err-push c = λ to v w known is right.
    unchanged c.loop-alloc.self _ c.push.new.self refl c.in_err-push.ensures.items to v (c.loop-alloc.invariant to v known)

pub returns : goal.returns
returns c = λ to v w known is right.
    part_put c.loop-alloc.self c.args.part _ c.args.place refl to v w (c.loop-alloc.invariant to v known) is right
