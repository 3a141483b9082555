-- Ranks fall from a newtype to what it holds.
use Rattle.schemars_types.specs.Edges.{rank}
use Rattle.schemars_types.proofs.keys.+takes_all.Given as goal

abbrev pub decreases-takes_all : goal.decreases-takes_all
decreases-takes_all l = rank l.types.now l.n
