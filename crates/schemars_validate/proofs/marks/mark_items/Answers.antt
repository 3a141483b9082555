use Rattle.std.proofs.Common.{◌∙◌, min, option_map}
use Rattle.schemars_validate.proofs.Words.{if◌then◌else◌, items_len, view, items_view, is_placed}
use Rattle.schemars_validate.proofs.Marking.{no_item_marked, placed_marks, mapped_some}
use Rattle.schemars_validate.proofs.marks.mark_items.Goals as goal

pub returns-in_default : goal.returns-in_default
returns-in_default c =
    no_item_marked (is_placed (items_view c.args.schemas.now.first.now) (option_map (λ s. view s.now) c.args.schemas.now.others))
    (view c.args.value.now) c.args.marks.now.items c.in_default.ensures

pub returns : goal.returns
returns c =
    let first = items_view c.args.schemas.now.first.now in
    let others = option_map (λ s. view s.now) c.args.schemas.now.others in
    let count = c.count_of_placed.ensures
    ∙ (λ i. if mapped_some (λ s. view s.now) c.args.schemas.now.others i then items_len (items_view (c.deref.ensures.value i))
    else min (items_len first) (items_len (items_view (c.deref.ensures.value i)))) in
    c.mark_first.ensures
    ∙ placed_marks first others (view c.args.value.now) (items_view c.in-Some.items.now.items) c.args.marks.now.items
    c.count_of_placed.result c.in-Some.ensures count
