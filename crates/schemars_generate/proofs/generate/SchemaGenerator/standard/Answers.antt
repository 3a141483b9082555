-- The transforms, the path and the absence of definitions are those that were looked at.
use Rattle.std.proofs.Common.{◌≡◌, ◌∷◌, List, [], length, refl, sym, ap, ◌∙◌, subst, rules, arith}
use Rattle.schemars_generate.proofs.Words.{members_len, members_len-members_view, members_view, path_of, state_of, WritesEarlyFor, draft_of, key_for}
use Rattle.schemars_generate.proofs.generate.SchemaGenerator.standard.Goals as goal

none_left : {A : Type 0} (xs : List A) → length xs ≡ 0 → xs ≡ []
none_left [] zero = refl
none_left (x ∷ xs) zero = absurd (omega (arith, zero))

pub returns-then-len-ne0-clause-none : goal.returns-then-len-ne0-clause-none
returns-then-len-ne0-clause-none g c = λ draft early.
    let none = c.definitions.ensures ∙ ap (λ y. y.definitions) c.self.view_is ∙ early.none in
    let zero : c.len.result ≡ 0 =
    c.len.ensures.len ∙ (sym (members_len-members_view c.definitions.result.now.entries) ∙ ap members_len none) in
    absurd (c.if-len-ne0.true zero)

pub returns-then-eq-clause-some : goal.returns-then-eq-clause-some
returns-then-eq-clause-some g c =
    let inside = c.self.inside in
    let draft = draft_of c.in_ok-standard.standard in
    let es = c.definitions.result.now.entries in
    let empty : es ≡ [] = none_left es (omega (arith, c.if-len-ne0.false, c.len.ensures.len)) in
    let path : path_of (state_of inside.settings inside.types inside.registry) ≡ 47 ∷ key_for draft = search rules in
    subst (WritesEarlyFor draft) c.self.view_is (record {
      transforms = sym c.deref.ensures.value ∙ c.in_ok-standard.ensures.some;
      path = path;
      none = sym c.definitions.ensures ∙ ap members_view empty;
    })
