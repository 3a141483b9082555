-- The member of each name adds what it says.
use Rattle.std.proofs.Common.{◌≡◌, codes, false, refl, sym, subst, rules}
use Rattle.schemagen_input.proofs.Words.{bytes_eq, object, put, data_of, AreOfEnum}
use Rattle.schemagen_input.specs.declared.tokens.enums.EnumMembers.{EnumMembers}
use Rattle.schemagen_input.proofs.Gathering.{enum_follows, enum_stays}
use Rattle.schemagen_input.proofs.tokens.enums.EnumMembersObjectMembers.read_member.Goals as goal

pub returns-in_ok-self-in-tag-clause-ok : goal.returns-in_ok-self-in-tag-clause-ok
returns-in_ok-self-in-tag-clause-ok g c =
    let done = c.in_ok-self-in-tag.ensures.ok in
    let old = c.args.self.now in
    let new : EnumMembers _ = record old { tag = c.in_ok-self-in-tag.field-0; plain = false } in
    let named : c.args.name.now ≡ codes "tag" = search rules in (
      done.0,
      done.1,
      λ ms were. subst (λ k. AreOfEnum g.V.Said.value_of g.V.Said.said new (object (put k done.0 ms))) (sym named)
          (enum_follows g.V.Said.value_of g.V.Said.said (codes "tag") done.0 ms old new were refl refl refl done.2 refl refl refl),
    )

pub returns-in_ok-self-in-content-clause-ok : goal.returns-in_ok-self-in-content-clause-ok
returns-in_ok-self-in-content-clause-ok g c =
    let done = c.in_ok-self-in-content.ensures.ok in
    let old = c.args.self.now in
    let new : EnumMembers _ = record old { content = c.in_ok-self-in-content.field-0; internal = false; plain = false } in
    let named : c.args.name.now ≡ codes "content" = search rules in (
      done.0,
      done.1,
      λ ms were. subst (λ k. AreOfEnum g.V.Said.value_of g.V.Said.said new (object (put k done.0 ms))) (sym named)
          (enum_follows g.V.Said.value_of g.V.Said.said (codes "content") done.0 ms old new were refl refl refl refl done.2 refl refl),
    )

pub returns-in_ok-self-in-closed-clause-ok : goal.returns-in_ok-self-in-closed-clause-ok
returns-in_ok-self-in-closed-clause-ok g c =
    let done = c.in_ok-self-in-closed.ensures.ok in
    let old = c.args.self.now in
    let new : EnumMembers _ = record old { closed = c.in_ok-self-in-closed.field-0; plain = false } in
    let named : c.args.name.now ≡ codes "closed" = search rules in (
      done.0,
      done.1,
      λ ms were. subst (λ k. AreOfEnum g.V.Said.value_of g.V.Said.said new (object (put k done.0 ms))) (sym named)
          (enum_follows g.V.Said.value_of g.V.Said.said (codes "closed") done.0 ms old new were refl refl refl refl refl done.2 refl),
    )

pub returns-in_ok-self-in-variants-clause-ok : goal.returns-in_ok-self-in-variants-clause-ok
returns-in_ok-self-in-variants-clause-ok g c =
    let done = c.in_ok-self-in-variants.ensures.ok in
    let old = c.args.self.now in
    let new : EnumMembers _ = record old { variants = c.in_ok-self-in-variants.field-0 } in
    let named : c.args.name.now ≡ codes "variants" = search rules in (
      done.0,
      done.1,
      λ ms were. subst (λ k. AreOfEnum g.V.Said.value_of g.V.Said.said new (object (put k done.0 ms))) (sym named)
          (enum_follows g.V.Said.value_of g.V.Said.said (codes "variants") done.0 ms old new were refl refl refl refl refl refl done.2),
    )

pub returns-in_ok-read_value-in_default-clause-ok : goal.returns-in_ok-read_value-in_default-clause-ok
returns-in_ok-read_value-in_default-clause-ok g c =
    let d = data_of c.in_ok-read_value-in_default.field-0 in
    let k = c.args.name.now in
    let not_tag : bytes_eq k (codes "tag") ≡ false = search rules in
    let not_content : bytes_eq k (codes "content") ≡ false = search rules in
    let not_closed : bytes_eq k (codes "closed") ≡ false = search rules in
    let not_variants : bytes_eq k (codes "variants") ≡ false = search rules in (
      d,
      c.in_ok-read_value-in_default.ensures.ok,
      λ ms. enum_stays g.V.Said.value_of g.V.Said.said k d ms c.args.self.now not_tag not_content not_closed not_variants,
    )
