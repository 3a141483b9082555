-- The rows below are asked one step less deep.
use Rattle.std.proofs.Common.{◌≡◌, ◌+◌, ◌*◌, ◌++◌, map, drop}
use Rattle.schemars_belonging.proofs.Words.{flattened_of, flattened_enums, enums_within, without_options}
use Rattle.schemars_belonging.proofs.enums.+enums.Given as goal

abbrev pub decreases-add_enums : goal.decreases-add_enums
decreases-add_enums l = 3 * l.steps + 1

abbrev pub decreases-add_row_enums : goal.decreases-add_row_enums
decreases-add_row_enums l = 3 * l.steps

abbrev pub decreases-add_shape_enums : goal.decreases-add_shape_enums
decreases-add_shape_enums l = 3 * l.steps + 2

abbrev pub invariant-add_enums-loop-part : goal.invariant-add_enums-loop-part
invariant-add_enums-loop-part l =
    l.found.items
    ++ flattened_enums (λ p. enums_within l.types l.steps (without_options l.types p.ty)) (map flattened_of (drop l.part-index l.parts))
    ≡ l.fn.found.items
    ++ flattened_enums (λ p. enums_within l.types l.steps (without_options l.types p.ty)) (map flattened_of l.parts)
