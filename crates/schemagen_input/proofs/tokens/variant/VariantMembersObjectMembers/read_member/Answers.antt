-- The member of each name adds what it says.
use Rattle.std.proofs.Common.{◌≡◌, codes, false, refl, sym, subst, rules}
use Rattle.schemagen_input.proofs.Words.{bytes_eq, object, put, data_of, AreOfVariant}
use Rattle.schemagen_input.specs.declared.tokens.variant.VariantMembers.{VariantMembers}
use Rattle.schemagen_input.proofs.Gathering.{variant_follows, variant_stays}
use Rattle.schemagen_input.proofs.tokens.variant.VariantMembersObjectMembers.read_member.Goals as goal

pub returns-in_ok-self-in-name-clause-ok : goal.returns-in_ok-self-in-name-clause-ok
returns-in_ok-self-in-name-clause-ok c =
    let done = c.in_ok-self-in-name.ensures.ok in
    let old = c.args.self.now in
    let new : VariantMembers = record old { name = c.in_ok-self-in-name.field-0 } in
    let named : c.args.name.now ≡ codes "name" = search rules in (
      done.0,
      done.1,
      λ ms were. subst (λ k. AreOfVariant new (object (put k done.0 ms))) (sym named)
          (variant_follows (codes "name") done.0 ms old new were refl done.2 refl refl),
    )

pub returns-in_ok-self-in-notes-clause-ok : goal.returns-in_ok-self-in-notes-clause-ok
returns-in_ok-self-in-notes-clause-ok c =
    let done = c.in_ok-self-in-notes.ensures.ok in
    let old = c.args.self.now in
    let new : VariantMembers = record old { notes = c.in_ok-self-in-notes.field-0 } in
    let named : c.args.name.now ≡ codes "notes" = search rules in (
      done.0,
      done.1,
      λ ms were. subst (λ k. AreOfVariant new (object (put k done.0 ms))) (sym named)
          (variant_follows (codes "notes") done.0 ms old new were refl refl done.2 refl),
    )

pub returns-in_ok-self-in-payload-clause-ok : goal.returns-in_ok-self-in-payload-clause-ok
returns-in_ok-self-in-payload-clause-ok c =
    let done = c.in_ok-self-in-payload.ensures.ok in
    let old = c.args.self.now in
    let new : VariantMembers = record old { payload = c.in_ok-self-in-payload.field-0 } in
    let named : c.args.name.now ≡ codes "payload" = search rules in (
      done.0,
      done.1,
      λ ms were. subst (λ k. AreOfVariant new (object (put k done.0 ms))) (sym named)
          (variant_follows (codes "payload") done.0 ms old new were refl refl refl done.2),
    )

pub returns-in_ok-read_value-in_default-clause-ok : goal.returns-in_ok-read_value-in_default-clause-ok
returns-in_ok-read_value-in_default-clause-ok c =
    let d = data_of c.in_ok-read_value-in_default.field-0 in
    let k = c.args.name.now in
    let not_name : bytes_eq k (codes "name") ≡ false = search rules in
    let not_notes : bytes_eq k (codes "notes") ≡ false = search rules in
    let not_payload : bytes_eq k (codes "payload") ≡ false = search rules in (
      d,
      c.in_ok-read_value-in_default.ensures.ok,
      λ ms. variant_stays k d ms c.args.self.now not_name not_notes not_payload,
    )
