use Rattle.std.proofs.Common.{map, refl}
use Rattle.schemars_templates.proofs.Words.{property_view}
use Rattle.schemars_templates.proofs.Items.{no_more}
use Rattle.schemars_templates.proofs.template.maps.names.Goals as goal

pub returns : goal.returns
returns c =
    no_more (λ es. map (λ e. e.0) (map property_view es)) c.args.properties.now c.loop-property.property-index
    (map (λ n. n.now) c.loop-property.names.items) _ c.loop-property-test.false refl c.loop-property.invariant
