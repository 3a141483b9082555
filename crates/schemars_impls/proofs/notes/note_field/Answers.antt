use Rattle.std.proofs.Common.{◌≡◌, ◌-◌, ◌<◌, length, ap, arith, rules}
use Rattle.schemars_impls.proofs.Words.{vec_len, view, members_view, field_of, noted_field}
use Rattle.schemars_shapes.specs.declared.shape.Field.{Field}
use Rattle.schemars_impls.proofs.Noting.{last-changed, same-shown, if-ok, if-err, fields_noted}
use Rattle.schemars_impls.proofs.notes.note_field.Goals as goal

pub returns-in-Some-clause-noted : goal.returns-in-Some-clause-noted
returns-in-Some-clause-noted c =
    let xs = c.args.fields.now.items in
    let n = vec_len c.args.fields.now in
    let long : n ≡ length xs = search rules in
    let some : 0 < n = search rules in
    let x = c.in-Some.field.now in
    let e : Field = record { name = x.name; ty = x.ty; required = x.required; notes = c.put.new.map } in
    if-ok c.put.result (λ is. last-changed field_of (noted_field c.args.key.now (view c.args.value)) xs (n - 1) x e (omega (arith, long, some))
    c.in-Some.ensures.value (ap (λ ms. record (field_of x) { notes = ms }) is)) c.put.ensures.ok

pub returns-in-Some-clause-known : goal.returns-in-Some-clause-known
returns-in-Some-clause-known c =
    if-ok c.put.result (λ is. fields_noted c.args.key.now (view c.args.value) _ _ is) (returns-in-Some-clause-noted c)

pub returns-in-Some-clause-unchanged : goal.returns-in-Some-clause-unchanged
returns-in-Some-clause-unchanged c =
    let xs = c.args.fields.now.items in
    let n = vec_len c.args.fields.now in
    let x = c.in-Some.field.now in
    let e : Field = record { name = x.name; ty = x.ty; required = x.required; notes = c.put.new.map } in
    if-err c.put.result (λ is. same-shown field_of xs (n - 1) x e c.in-Some.ensures.value
    (ap (λ entries. record (field_of x) { notes = members_view entries }) is)) c.put.ensures.err
