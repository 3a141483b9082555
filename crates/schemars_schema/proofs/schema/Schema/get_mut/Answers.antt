-- A write to a member is a write to the object that has it.
use Rattle.std.proofs.Common.{refl, sym, ap, ◌∙◌}
use Rattle.schemars_schema.proofs.Words.{object, view, members_view, members_in, replaced}
use Rattle.schemars_schema.proofs.MapEdits.{when_some}
use Rattle.schemars_schema.proofs.Containers.{object-as_object}
use Rattle.schemars_schema.proofs.schema.Schema.get_mut.Goals as goal

pub returns-in-Some : goal.returns-in-Some
returns-in-Some c =
    let is = object-as_object c.args.self.now (members_view c.in-Some.members.now.entries) c.in-Some.ensures.value in (
      (
        refl,
        λ w. when_some _ (ap object (c.member_mut.follows.holds w) ∙ ap (λ d. object (replaced c.args.key.now (view w) (members_in d)))
            (sym is)),
        ap object c.member_mut.follows.holds-at-none ∙ sym is,
      ),
      rw is c.member_mut.ensures.value,
    )
