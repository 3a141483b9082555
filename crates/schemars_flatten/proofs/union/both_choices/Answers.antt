-- A list of the two.
use Rattle.std.proofs.Common.{ap, ◌∙◌}
use Rattle.schemars_flatten.proofs.Words.{array, no_items, item, items_view, view-Array}
use Rattle.schemars_flatten.proofs.union.both_choices.Goals as goal

pub returns : goal.returns
returns c =
    view-Array c.in_ok-vec.field-0
    ∙ ap array (ap items_view c.in_ok-vec.ensures.items
    ∙ (λ i. item (c.in_ok-first.ensures i) (item (c.in_ok-second.ensures i) no_items)))
