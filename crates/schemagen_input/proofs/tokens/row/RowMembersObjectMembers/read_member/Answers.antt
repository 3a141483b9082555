-- The member of each name adds what it says.
use Rattle.std.proofs.Common.{◌≡◌, codes, false, refl, sym, subst, rules}
use Rattle.schemagen_input.proofs.Words.{bytes_eq, object, put, data_of, AreOfRow}
use Rattle.schemagen_input.specs.declared.tokens.row.RowMembers.{RowMembers}
use Rattle.schemagen_input.proofs.Gathering.{row_follows, row_stays}
use Rattle.schemagen_input.proofs.tokens.row.RowMembersObjectMembers.read_member.Goals as goal

pub returns-in_ok-self-in-id-clause-ok : goal.returns-in_ok-self-in-id-clause-ok
returns-in_ok-self-in-id-clause-ok c =
    let done = c.in_ok-self-in-id.ensures.ok in
    let old = c.args.self.now in
    let new : RowMembers = record old { id = c.in_ok-self-in-id.field-0 } in
    let named : c.args.name.now ≡ codes "id" = search rules in (
      done.0,
      done.1,
      λ ms were. subst (λ k. AreOfRow new (object (put k done.0 ms))) (sym named)
          (row_follows (codes "id") done.0 ms old new were refl done.2 refl refl refl refl),
    )

pub returns-in_ok-self-in-name-clause-ok : goal.returns-in_ok-self-in-name-clause-ok
returns-in_ok-self-in-name-clause-ok c =
    let done = c.in_ok-self-in-name.ensures.ok in
    let old = c.args.self.now in
    let new : RowMembers = record old { name = c.in_ok-self-in-name.field-0 } in
    let named : c.args.name.now ≡ codes "name" = search rules in (
      done.0,
      done.1,
      λ ms were. subst (λ k. AreOfRow new (object (put k done.0 ms))) (sym named)
          (row_follows (codes "name") done.0 ms old new were refl refl done.2 refl refl refl),
    )

pub returns-in_ok-self-in-inline-clause-ok : goal.returns-in_ok-self-in-inline-clause-ok
returns-in_ok-self-in-inline-clause-ok c =
    let done = c.in_ok-self-in-inline.ensures.ok in
    let old = c.args.self.now in
    let new : RowMembers = record old { inline = c.in_ok-self-in-inline.field-0 } in
    let named : c.args.name.now ≡ codes "inline" = search rules in (
      done.0,
      done.1,
      λ ms were. subst (λ k. AreOfRow new (object (put k done.0 ms))) (sym named)
          (row_follows (codes "inline") done.0 ms old new were refl refl refl done.2 refl refl),
    )

pub returns-in_ok-self-in-notes-clause-ok : goal.returns-in_ok-self-in-notes-clause-ok
returns-in_ok-self-in-notes-clause-ok c =
    let done = c.in_ok-self-in-notes.ensures.ok in
    let old = c.args.self.now in
    let new : RowMembers = record old { notes = c.in_ok-self-in-notes.field-0 } in
    let named : c.args.name.now ≡ codes "notes" = search rules in (
      done.0,
      done.1,
      λ ms were. subst (λ k. AreOfRow new (object (put k done.0 ms))) (sym named)
          (row_follows (codes "notes") done.0 ms old new were refl refl refl refl done.2 refl),
    )

pub returns-in_ok-self-in-shape-clause-ok : goal.returns-in_ok-self-in-shape-clause-ok
returns-in_ok-self-in-shape-clause-ok c =
    let done = c.in_ok-self-in-shape.ensures.ok in
    let old = c.args.self.now in
    let new : RowMembers = record old { shape = c.in_ok-self-in-shape.field-0 } in
    let named : c.args.name.now ≡ codes "shape" = search rules in (
      done.0,
      done.1,
      λ ms were. subst (λ k. AreOfRow new (object (put k done.0 ms))) (sym named)
          (row_follows (codes "shape") done.0 ms old new were refl refl refl refl refl done.2),
    )

pub returns-in_ok-read_value-in_default-clause-ok : goal.returns-in_ok-read_value-in_default-clause-ok
returns-in_ok-read_value-in_default-clause-ok c =
    let d = data_of c.in_ok-read_value-in_default.field-0 in
    let k = c.args.name.now in
    let not_id : bytes_eq k (codes "id") ≡ false = search rules in
    let not_name : bytes_eq k (codes "name") ≡ false = search rules in
    let not_inline : bytes_eq k (codes "inline") ≡ false = search rules in
    let not_notes : bytes_eq k (codes "notes") ≡ false = search rules in
    let not_shape : bytes_eq k (codes "shape") ≡ false = search rules in (
      d,
      c.in_ok-read_value-in_default.ensures.ok,
      λ ms. row_stays k d ms c.args.self.now not_id not_name not_inline not_notes not_shape,
    )
