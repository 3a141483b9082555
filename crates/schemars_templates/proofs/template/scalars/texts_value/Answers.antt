use Rattle.std.proofs.Common.{map, refl, ap, ◌∙◌}
use Rattle.schemars_templates.proofs.Words.{string, array, view, view-Array}
use Rattle.schemars_templates.proofs.Items.{no_more}
use Rattle.schemars_templates.proofs.Texts.{items_view-texts}
use Rattle.schemars_templates.proofs.template.scalars.texts_value.Goals as goal

pub returns : goal.returns
returns c =
    let texts = c.args.texts.now in
    let values = c.loop-text.values in
    view-Array values
    ∙ ap array (items_view-texts values.items (map (λ t. t.now) texts)
    (no_more (λ ts. map string (map (λ t. t.now) ts)) texts c.loop-text.text-index (map view values.items) _
    c.loop-text-test.false refl c.loop-text.invariant))
