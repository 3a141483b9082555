-- The names so far, and those of the properties that are left.
use Rattle.std.proofs.Common.{◌≡◌, ◌++◌, map, drop}
use Rattle.schemars_templates.specs.View.{property_view}
use Rattle.schemars_templates.proofs.template.maps.names.Given as goal

abbrev pub invariant-loop-property : goal.invariant-loop-property
invariant-loop-property l =
    map (λ n. n.now) l.names.items ++ map (λ e. e.0) (map property_view (drop l.property-index l.properties))
    ≡ map (λ e. e.0) (map property_view l.properties)
