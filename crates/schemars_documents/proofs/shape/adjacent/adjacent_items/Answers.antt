use Rattle.schemars_documents.proofs.Words.{variant_of, template_view, adjacent_item}
use Rattle.schemars_templates.proofs.Items.{one_more}
use Rattle.schemars_documents.proofs.shape.adjacent.adjacent_items.Goals as goal

pub loop-variant-preserved : goal.loop-variant-preserved
loop-variant-preserved c =
    one_more template_view (adjacent_item c.args.contract c.args.tag.now c.args.content.now c.args.closed) variant_of
    c.loop-variant.items.items c.push.new.self.items _ c.variant-item.result c.args.variants.now c.loop-variant.variant-index
    c.loop-variant-test.true c.variant-item.is c.in_ok-push.ensures.items c.in_ok-item.ensures c.loop-variant.invariant
