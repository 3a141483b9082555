-- Without a `const`, the `enum` decides.
use Rattle.std.proofs.Common.{◌≡◌, codes, ap, ◌∙◌}
use Rattle.schemars_render.proofs.Words.{on_ok_weaker, get_member, null_in_enum, null_in_const}
use Rattle.schemars_parts.proofs.Changed.{without-missing}
use Rattle.schemars_render.proofs.nulls.null_in_values.Goals as goal

pub returns-in-None : goal.returns-in-None
returns-in-None c =
    let old = c.args.members.now in
    let same : c.take.new.self ≡ old =
    c.in-None.ensures.rest ∙ without-missing (codes "const") old c.in-None.ensures.value in
    on_ok_weaker c.null_in_enum.result
    (λ put_in.
    put_in ∙ (ap (λ ms. null_in_enum (get_member (codes "enum") ms) ms) same
    ∙ ap (λ o. null_in_const o old) c.in-None.ensures.value))
    c.null_in_enum.ensures
