-- Each schema's reference is followed in turn.
use Rattle.std.proofs.Common.{rules, ◌<◌, length, arith, sym, string_bytes}
use Rattle.schemars_readable.proofs.Words.{view, members_view, standing}
use Rattle.schemars_readable.proofs.Following.{before_first, one_more, all_followed, standing_at, length-standing}
use Rattle.schemars_readable.proofs.places.schemas_in.Goals as goal

pub loop-n-init : goal.loop-n-init
loop-n-init c =
    before_first (view c.args.document.now) c.new-followed.result.keys (standing c.add_schemas.new.places.items)
    (search rules) (search rules)

pub loop-n-preserved : goal.loop-n-preserved
loop-n-preserved c =
    let ps = c.loop-n.places.items in
    let p = c.index.result.now in
    let less : c.loop-n.n < length ps = search rules in
    one_more (view c.args.document.now) c.loop-n.n (string_bytes p.pointer, members_view p.keywords.now.entries) c.loop-n.followed.keys
    c.follow.new.followed.keys (standing ps) (standing c.follow.new.places.items) (omega (arith, less, length-standing ps))
    (λ d. standing_at ps c.loop-n.n p d less (sym c.index.ensures)) c.loop-n.invariant c.in_ok-follow.ensures.grows
    c.in_ok-follow.ensures.followed

pub returns-then-n-len-clause-all : goal.returns-then-n-len-clause-all
returns-then-n-len-clause-all c =
    all_followed (view c.args.document.now) c.loop-n.n c.loop-n.followed.keys (standing c.loop-n.places.items) c.loop-n.invariant
    (omega (arith, c.if-n-len.true, c.len.ensures, c.loop-n.places.ok, length-standing c.loop-n.places.items))

pub returns-clause-all : goal.returns-clause-all
returns-clause-all c =
    all_followed (view c.args.document.now) c.loop-n.n c.loop-n.followed.keys (standing c.loop-n.places.items) c.loop-n.invariant
    (omega (arith, c.loop-n.places.small, c.loop-n.places.ok, c.loop-n-test.false, length-standing c.loop-n.places.items))
