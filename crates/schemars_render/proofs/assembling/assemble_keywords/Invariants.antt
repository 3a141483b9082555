-- The members so far, and then the keywords that are left, are all.
use Rattle.std.proofs.Common.{◌≡◌, ◌++◌, map, drop}
use Rattle.schemars_render.proofs.Words.{scalar_keyword, named_view}
use Rattle.schemars_render.proofs.assembling.assemble_keywords.Given as goal

abbrev pub invariant-loop-keyword : goal.invariant-loop-keyword
invariant-loop-keyword l =
    map named_view l.members.items ++ map scalar_keyword (drop l.keyword-index l.keywords.items) ≡ map scalar_keyword l.keywords.items
