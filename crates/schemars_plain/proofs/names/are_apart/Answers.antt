-- A list is asked for itself, and for those after it.
use Rattle.std.proofs.Common.{map, refl}
use Rattle.schemars_plain.proofs.Words.{field_of}
use Rattle.schemars_plain.proofs.Named.{next_apart}
use Rattle.schemars_plain.proofs.names.are_apart.Goals as goal

pub returns-then-not-is_apart : goal.returns-then-not-is_apart
returns-then-not-is_apart c =
    let next = next_apart (map (λ f. field_of f.now) c.args.fields.now) c.args.others.now (λ names. map (λ n. n.now) names.items)
    c.loop-n.n c.index-others-n.result c.loop-n-test.true c.index-others-n.is in
    let told = rw c.deref.ensures.value at c.if-not-is_apart.ensures in
    (λ t. cc, λ p. let all = next.0 (c.loop-n.invariant.1 p) in told.1 (all.0, all.1))

pub loop-n-preserved : goal.loop-n-preserved
loop-n-preserved c =
    let next = next_apart (map (λ f. field_of f.now) c.args.fields.now) c.args.others.now (λ names. map (λ n. n.now) names.items)
    c.loop-n.n c.index-others-n.result c.loop-n-test.true c.index-others-n.is in
    let told = rw c.deref.ensures.value at c.if-not-is_apart.ensures in
    let both = told.0 refl in
    (λ h. c.loop-n.invariant.0 (next.1 (both.0, both.1, h)), λ h. (next.0 (c.loop-n.invariant.1 h)).2)
