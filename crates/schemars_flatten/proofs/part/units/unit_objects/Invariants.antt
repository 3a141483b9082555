-- The objects so far, and then those of what is left, are the objects of the whole.
use Rattle.std.proofs.Common.{◌≡◌, drop}
use Rattle.schemars_flatten.proofs.Words.{items_view, appended, unit_objects}
use Rattle.schemars_flatten.proofs.part.units.unit_objects.Given as goal

abbrev pub invariant-loop-text : goal.invariant-loop-text
invariant-loop-text l = appended (items_view l.units.items) (unit_objects (items_view (drop l.text-index l.texts)))
    ≡ unit_objects (items_view l.texts)
