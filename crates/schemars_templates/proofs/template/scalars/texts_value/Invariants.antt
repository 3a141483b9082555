-- The texts so far, and those that are left.
use Rattle.std.proofs.Common.{◌≡◌, ◌++◌, map, drop}
use Rattle.schemars_templates.proofs.Words.{string, view}
use Rattle.schemars_templates.proofs.template.scalars.texts_value.Given as goal

abbrev pub invariant-loop-text : goal.invariant-loop-text
invariant-loop-text l =
    map view l.values.items ++ map string (map (λ t. t.now) (drop l.text-index l.texts)) ≡ map string (map (λ t. t.now) l.texts)
