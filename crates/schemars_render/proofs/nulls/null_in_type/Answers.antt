-- What is there is taken out, and goes in again with null.
use Rattle.std.proofs.Common.{codes, ap, ◌∙◌}
use Rattle.schemars_render.proofs.Words.{on_ok_weaker, null_in_type, type_with_null, assembled_view}
use Rattle.schemars_parts.proofs.Changed.{retaken, without-missing}
use Rattle.schemars_render.proofs.nulls.null_in_type.Goals as goal

pub returns-in_ok-with_null-in-Some : goal.returns-in_ok-with_null-in-Some
returns-in_ok-with_null-in-Some c =
    let old = c.args.members.now in
    let mid = c.take.new.self in
    let first = assembled_view c.in-Some.type_names in
    on_ok_weaker c.put.result
    (λ put_in.
    retaken (codes "type") type_with_null first (assembled_view c.in_ok-with_null-in-Some.with_null) old mid
    c.put.new.self c.in-Some.ensures.ascending c.in-Some.ensures.value
    c.in-Some.ensures.rest c.in_ok-with_null-in-Some.ensures put_in
    ∙ ap (λ o. null_in_type o old) c.in-Some.ensures.value)
    c.put.ensures

pub returns-in-None : goal.returns-in-None
returns-in-None c =
    let old = c.args.members.now in
    c.in-None.ensures.rest
    ∙ (without-missing (codes "type") old c.in-None.ensures.value ∙ ap (λ o. null_in_type o old) c.in-None.ensures.value)
