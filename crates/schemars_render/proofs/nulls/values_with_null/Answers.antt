-- Null goes behind the others.
use Rattle.std.proofs.Common.{◌≡◌, false, ap, ◌∙◌, rules}
use Rattle.schemars_render.proofs.Words.{null, array, with_item, holds_null, items_assembled}
use Rattle.schemars_render.proofs.Items.{pushed}
use Rattle.schemars_parts.proofs.PartViews.{seen_list, seen_null}
use Rattle.schemars_render.proofs.nulls.values_with_null.Goals as goal

pub returns : goal.returns
returns c =
    let ds = items_assembled c.args.values.items in
    let absent : holds_null ds ≡ false = search rules in
    let more : items_assembled c.push.new.self.items ≡ with_item ds (null) =
    ap items_assembled c.in_ok-push.ensures.items ∙ (pushed c.args.values.items _ ∙ ap (with_item ds) seen_null) in
    rw absent (seen_list c.push.new.self ∙ ap array more)
