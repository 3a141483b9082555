-- The member of each name adds what it says.
use Rattle.std.proofs.Common.{◌≡◌, codes, false, refl, sym, subst, rules}
use Rattle.schemagen_input.proofs.Words.{bytes_eq, object, put, data_of, AreOfField}
use Rattle.schemagen_input.specs.declared.tokens.field.FieldMembers.{FieldMembers}
use Rattle.schemagen_input.proofs.Gathering.{field_follows, field_stays}
use Rattle.schemagen_input.proofs.tokens.field.FieldMembersObjectMembers.read_member.Goals as goal

pub returns-in_ok-self-in-name-clause-ok : goal.returns-in_ok-self-in-name-clause-ok
returns-in_ok-self-in-name-clause-ok c =
    let done = c.in_ok-self-in-name.ensures.ok in
    let old = c.args.self.now in
    let new : FieldMembers = record old { name = c.in_ok-self-in-name.field-0 } in
    let named : c.args.name.now ≡ codes "name" = search rules in (
      done.0,
      done.1,
      λ ms were. subst (λ k. AreOfField new (object (put k done.0 ms))) (sym named)
          (field_follows (codes "name") done.0 ms old new were refl done.2 refl refl refl),
    )

pub returns-in_ok-self-in-type-clause-ok : goal.returns-in_ok-self-in-type-clause-ok
returns-in_ok-self-in-type-clause-ok c =
    let done = c.in_ok-self-in-type.ensures.ok in
    let old = c.args.self.now in
    let new : FieldMembers = record old { ty = c.in_ok-self-in-type.field-0 } in
    let named : c.args.name.now ≡ codes "type" = search rules in (
      done.0,
      done.1,
      λ ms were. subst (λ k. AreOfField new (object (put k done.0 ms))) (sym named)
          (field_follows (codes "type") done.0 ms old new were refl refl done.2 refl refl),
    )

pub returns-in_ok-self-in-required-clause-ok : goal.returns-in_ok-self-in-required-clause-ok
returns-in_ok-self-in-required-clause-ok c =
    let done = c.in_ok-self-in-required.ensures.ok in
    let old = c.args.self.now in
    let new : FieldMembers = record old { required = c.in_ok-self-in-required.field-0 } in
    let named : c.args.name.now ≡ codes "required" = search rules in (
      done.0,
      done.1,
      λ ms were. subst (λ k. AreOfField new (object (put k done.0 ms))) (sym named)
          (field_follows (codes "required") done.0 ms old new were refl refl refl done.2 refl),
    )

pub returns-in_ok-self-in-notes-clause-ok : goal.returns-in_ok-self-in-notes-clause-ok
returns-in_ok-self-in-notes-clause-ok c =
    let done = c.in_ok-self-in-notes.ensures.ok in
    let old = c.args.self.now in
    let new : FieldMembers = record old { notes = c.in_ok-self-in-notes.field-0 } in
    let named : c.args.name.now ≡ codes "notes" = search rules in (
      done.0,
      done.1,
      λ ms were. subst (λ k. AreOfField new (object (put k done.0 ms))) (sym named)
          (field_follows (codes "notes") done.0 ms old new were refl refl refl refl done.2),
    )

pub returns-in_ok-read_value-in_default-clause-ok : goal.returns-in_ok-read_value-in_default-clause-ok
returns-in_ok-read_value-in_default-clause-ok c =
    let d = data_of c.in_ok-read_value-in_default.field-0 in
    let k = c.args.name.now in
    let not_name : bytes_eq k (codes "name") ≡ false = search rules in
    let not_type : bytes_eq k (codes "type") ≡ false = search rules in
    let not_required : bytes_eq k (codes "required") ≡ false = search rules in
    let not_notes : bytes_eq k (codes "notes") ≡ false = search rules in (
      d,
      c.in_ok-read_value-in_default.ensures.ok,
      λ ms. field_stays k d ms c.args.self.now not_name not_type not_required not_notes,
    )
