-- The member of each name adds what it says.
use Rattle.std.proofs.Common.{◌≡◌, codes, false, refl, sym, subst, rules}
use Rattle.schemagen_input.proofs.Words.{bytes_eq, object, put, data_of, AreOfStruct}
use Rattle.schemagen_input.specs.declared.tokens.fields.StructMembers.{StructMembers}
use Rattle.schemagen_input.proofs.Gathering.{struct_follows, struct_stays}
use Rattle.schemagen_input.proofs.tokens.fields.StructMembersObjectMembers.read_member.Goals as goal

pub returns-in_ok-self-in-fields-clause-ok : goal.returns-in_ok-self-in-fields-clause-ok
returns-in_ok-self-in-fields-clause-ok c =
    let done = c.in_ok-self-in-fields.ensures.ok in
    let old = c.args.self.now in
    let new : StructMembers = record old { list = c.in_ok-self-in-fields.field-0 } in
    let named : c.args.name.now ≡ codes "fields" = search rules in (
      done.0,
      done.1,
      λ ms were. subst (λ k. AreOfStruct new (object (put k done.0 ms))) (sym named)
          (struct_follows (codes "fields") done.0 ms old new were refl done.2 refl refl),
    )

pub returns-in_ok-self-in-flatten-clause-ok : goal.returns-in_ok-self-in-flatten-clause-ok
returns-in_ok-self-in-flatten-clause-ok c =
    let done = c.in_ok-self-in-flatten.ensures.ok in
    let old = c.args.self.now in
    let new : StructMembers = record old { flatten = c.in_ok-self-in-flatten.field-0 } in
    let named : c.args.name.now ≡ codes "flatten" = search rules in (
      done.0,
      done.1,
      λ ms were. subst (λ k. AreOfStruct new (object (put k done.0 ms))) (sym named)
          (struct_follows (codes "flatten") done.0 ms old new were refl refl done.2 refl),
    )

pub returns-in_ok-self-in-closed-clause-ok : goal.returns-in_ok-self-in-closed-clause-ok
returns-in_ok-self-in-closed-clause-ok c =
    let done = c.in_ok-self-in-closed.ensures.ok in
    let old = c.args.self.now in
    let new : StructMembers = record old { closed = c.in_ok-self-in-closed.field-0 } in
    let named : c.args.name.now ≡ codes "closed" = search rules in (
      done.0,
      done.1,
      λ ms were. subst (λ k. AreOfStruct new (object (put k done.0 ms))) (sym named)
          (struct_follows (codes "closed") done.0 ms old new were refl refl refl done.2),
    )

pub returns-in_ok-read_value-in_default-clause-ok : goal.returns-in_ok-read_value-in_default-clause-ok
returns-in_ok-read_value-in_default-clause-ok c =
    let d = data_of c.in_ok-read_value-in_default.field-0 in
    let k = c.args.name.now in
    let not_fields : bytes_eq k (codes "fields") ≡ false = search rules in
    let not_flatten : bytes_eq k (codes "flatten") ≡ false = search rules in
    let not_closed : bytes_eq k (codes "closed") ≡ false = search rules in (
      d,
      c.in_ok-read_value-in_default.ensures.ok,
      λ ms. struct_stays k d ms c.args.self.now not_fields not_flatten not_closed,
    )
