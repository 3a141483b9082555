-- The properties are taken out, and go in again with one more.
use Rattle.std.proofs.Common.{◌≡◌, codes, ap, ◌∙◌}
use Rattle.schemars_render.proofs.Words.{on_ok_weaker, object, no_members, put, with_member, assembled_view}
use Rattle.schemars_parts.proofs.Changed.{changed_again}
use Rattle.schemars_render.proofs.tagging.put_property.Goals as goal

pub returns : goal.returns
returns c =
    let key = codes "properties" in
    let old = c.args.members.now in
    let mid = c.take_members.new.self in
    let inner = object c.in_ok-properties.properties in
    let change = with_member c.args.name.now (assembled_view c.args.property) in
    let inside : assembled_view c.into_object.result ≡ change inner =
    c.into_object.ensures ∙ ap object c.in_ok-put.ensures in
    on_ok_weaker c.put-2.result
    (λ put_in.
    put_in ∙ (ap (λ e. put key e mid) inside
    ∙ (ap (put key (change inner)) c.in_ok-properties.ensures.rest
    ∙ changed_again key change (object no_members) inner old c.in_ok-properties.ensures.ascending c.in_ok-properties.ensures.value)))
    c.put-2.ensures
