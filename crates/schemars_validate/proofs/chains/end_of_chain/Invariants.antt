-- The chain so far, and how many references are left.
use Rattle.schemars_validate.proofs.Words.{view}
use Rattle.schemars_validate.specs.Chains.{EndsAt}
use Rattle.schemars_validate.proofs.chains.end_of_chain.Given as goal

abbrev pub invariant-loop-last : goal.invariant-loop-last
invariant-loop-last l = EndsAt l.dialect (view l.document) l.first l.left l.last.name.now l.last.left

abbrev pub decreases-loop-last : goal.decreases-loop-last
decreases-loop-last l = l.last.left
