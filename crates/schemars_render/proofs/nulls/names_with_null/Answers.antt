-- Null goes behind the others.
use Rattle.std.proofs.Common.{◌≡◌, false, ap, ◌∙◌, codes, rules}
use Rattle.schemars_render.proofs.Words.{string, array, holds_text, with_item, items_assembled}
use Rattle.schemars_render.proofs.Items.{pushed}
use Rattle.schemars_parts.proofs.PartViews.{seen_list, seen_text}
use Rattle.schemars_render.proofs.nulls.names_with_null.Goals as goal

pub returns : goal.returns
returns c =
    let ds = items_assembled c.args.names.items in
    let absent : holds_text (codes "null") ds ≡ false = search rules in
    let more : items_assembled c.push.new.self.items ≡ with_item ds (string (codes "null")) =
    ap items_assembled c.in_ok-push.ensures.items ∙ (pushed c.args.names.items _ ∙ ap (with_item ds) (seen_text _)) in
    rw absent (seen_list c.push.new.self ∙ ap array more)
