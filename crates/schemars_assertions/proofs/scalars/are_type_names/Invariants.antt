-- The items that are left decide.
use Rattle.std.proofs.Common.{◌≡◌, drop}
use Rattle.schemars_assertions.proofs.Words.{items_view, are_type_names, texts_of}
use Rattle.schemars_assertions.proofs.scalars.are_type_names.Given as goal

abbrev pub invariant-loop-value : goal.invariant-loop-value
invariant-loop-value l =
    are_type_names (texts_of (items_view (drop l.value-index l.values))) ≡ are_type_names (texts_of (items_view l.values))
