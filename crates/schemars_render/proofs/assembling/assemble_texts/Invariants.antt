-- The texts so far, and those that are left.
use Rattle.std.proofs.Common.{◌≡◌, ◌++◌, map, drop}
use Rattle.schemars_render.proofs.Words.{string, assembled_view}
use Rattle.schemars_render.proofs.assembling.assemble_texts.Given as goal

abbrev pub invariant-loop-text : goal.invariant-loop-text
invariant-loop-text l =
    map assembled_view l.parts.items ++ map string (map (λ t. t.now) (drop l.text-index l.texts.items))
    ≡ map string (map (λ t. t.now) l.texts.items)
