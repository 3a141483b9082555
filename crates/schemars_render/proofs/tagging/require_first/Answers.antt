-- The names are taken out, and go in again with one more.
use Rattle.std.proofs.Common.{◌≡◌, codes, ap, ◌∙◌}
use Rattle.schemars_render.proofs.Words.{on_ok_weaker, string, array, no_items, item, put, with_first, assembled_view, items_assembled}
use Rattle.schemars_parts.specs.declared.assembled.Assembled as part
use Rattle.schemars_parts.proofs.Changed.{changed_again}
use Rattle.schemars_parts.proofs.PartViews.{seen_list, seen_text}
use Rattle.schemars_render.proofs.tagging.require_first.Goals as goal

pub returns : goal.returns
returns c =
    let key = codes "required" in
    let old = c.args.members.now in
    let mid = c.take_items.new.self in
    let ds = items_assembled c.in_ok-names.names.items in
    let change = with_first (string c.args.name.now) in
    let names = c.insert.new.self in
    let more : items_assembled names.items ≡ item (string c.args.name.now) ds =
    ap items_assembled c.in_ok-insert.ensures.items ∙ ap (λ d. item d ds) (seen_text c.args.name) in
    let inside : assembled_view (part.List names) ≡ change (array ds) = seen_list names ∙ ap array more in
    on_ok_weaker c.put.result
    (λ put_in.
    put_in ∙ (ap (λ e. put key e mid) inside
    ∙ (ap (put key (change (array ds))) c.in_ok-names.ensures.rest
    ∙ changed_again key change (array no_items) (array ds) old c.in_ok-names.ensures.ascending c.in_ok-names.ensures.value)))
    c.put.ensures
