use Rattle.std.proofs.Common.{◌≡◌, ◌-◌, ◌<◌, length, ap, arith, rules}
use Rattle.schemars_impls.proofs.Words.{vec_len, view, members_view, variant_of, noted_variant}
use Rattle.schemars_shapes.specs.declared.variant.Variant.{Variant}
use Rattle.schemars_impls.proofs.Noting.{last-changed, same-shown, if-ok, if-err, variants_noted}
use Rattle.schemars_impls.proofs.notes.note_variant.Goals as goal

pub returns-in-Some-clause-noted : goal.returns-in-Some-clause-noted
returns-in-Some-clause-noted c =
    let xs = c.args.variants.now.items in
    let n = vec_len c.args.variants.now in
    let long : n ≡ length xs = search rules in
    let some : 0 < n = search rules in
    let x = c.in-Some.variant.now in
    let e : Variant = record { name = x.name; payload = x.payload; notes = c.put.new.map } in
    if-ok c.put.result (λ is. last-changed variant_of (noted_variant c.args.key.now (view c.args.value)) xs (n - 1) x e (omega (arith, long, some))
    c.in-Some.ensures.value (ap (λ ms. record (variant_of x) { notes = ms }) is)) c.put.ensures.ok

pub returns-in-Some-clause-known : goal.returns-in-Some-clause-known
returns-in-Some-clause-known c =
    if-ok c.put.result (λ is. variants_noted c.args.key.now (view c.args.value) _ _ is) (returns-in-Some-clause-noted c)

pub returns-in-Some-clause-unchanged : goal.returns-in-Some-clause-unchanged
returns-in-Some-clause-unchanged c =
    let xs = c.args.variants.now.items in
    let n = vec_len c.args.variants.now in
    let x = c.in-Some.variant.now in
    let e : Variant = record { name = x.name; payload = x.payload; notes = c.put.new.map } in
    if-err c.put.result (λ is. same-shown variant_of xs (n - 1) x e c.in-Some.ensures.value
    (ap (λ entries. record (variant_of x) { notes = members_view entries }) is)) c.put.ensures.err
