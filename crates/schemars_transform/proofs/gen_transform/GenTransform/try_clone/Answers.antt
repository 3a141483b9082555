use Rattle.std.proofs.Common.{refl}
use Rattle.schemars_transform.proofs.Texts.{same_texts}
use Rattle.schemars_transform.proofs.gen_transform.GenTransform.try_clone.Goals as goal

pub returns-in_ok-clone-in-RestrictFormats-clause-copies : goal.returns-in_ok-clone-in-RestrictFormats-clause-copies
returns-in_ok-clone-in-RestrictFormats-clause-copies g c =
    let e = c.in_ok-clone-in-RestrictFormats.ensures.cases in
    rw c.in-RestrictFormats.is (
      c.in_ok-clone-in-RestrictFormats.field-0,
      refl,
      (e.0, same_texts c.in-RestrictFormats.t.allowed_formats.keys c.in_ok-clone-in-RestrictFormats.field-0.allowed_formats.keys e.1),
    )

pub returns-in-AddNullable-clause-copies : goal.returns-in-AddNullable-clause-copies
returns-in-AddNullable-clause-copies g c = rw c.in-AddNullable.is refl

pub returns-in-Own-clause-own : goal.returns-in-Own-clause-own
returns-in-Own-clause-own g c = rw c.in-Own.is (λ e. refl, λ own. refl)
