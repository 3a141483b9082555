-- What was said so far, and what the other parts say.
use Rattle.std.proofs.Common.{◌≡◌, drop, map}
use Rattle.schemars_assertions.proofs.Words.{both, all_of, meant}
use Rattle.schemars_assertions.proofs.verdict.all_of.Given as goal

abbrev pub invariant-loop-part : goal.invariant-loop-part
invariant-loop-part l =
    both (meant l.says) (all_of (map meant (drop l.part-index l.parts))) ≡ all_of (map meant l.parts)
