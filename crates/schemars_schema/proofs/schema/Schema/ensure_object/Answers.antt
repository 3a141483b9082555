-- A truth value made an object accepts what it did.
use Rattle.std.proofs.Common.{◌≡◌, Some, refl, ap, ◌∙◌}
use Rattle.schemars_schema.proofs.Words.{object, as_object, members_view, members_in, accepts}
use Rattle.schemars_schema.proofs.Switched.{accepts-members_in}
use Rattle.schemars_schema.proofs.schema.Schema.ensure_object.Goals as goal

pub returns : goal.returns
returns c =
    let both : Some (members_view c.in-Some.members.now.entries) ≡ Some (members_in c.args.self.now) =
    c.in-Some.ensures.value ∙ ap as_object c.in_ok-make_object.ensures.ok in
    let members : members_view c.in-Some.members.now.entries ≡ members_in c.args.self.now = cc in (
      refl,
      record {
        writes_back = tt;
        value = members;
        says_the_same = λ dialect document patterns n v.
            ap (λ ms. accepts dialect document patterns n (object ms) v) members
            ∙ accepts-members_in dialect document patterns n c.args.self.now v c.in_ok-make_object.ensures.schema;
      },
    )
