use Rattle.std.proofs.Common.{◌≡◌, ◌-◌, ℕ, suc, length}
use Rattle.schemars_types.specs.declared.contract.Contract.{Contract}
use Rattle.schemars_build.proofs.Words.{place_of_owner}
use Rattle.schemars_build.proofs.names.extend.Given as goal

abbrev pub invariant-growing : goal.invariant-growing
invariant-growing l = (m : ℕ) (d : Contract) → place_of_owner m d l.places.items ≡ place_of_owner m d l.initial.places.items

abbrev pub decreases-growing : goal.decreases-growing
decreases-growing l = suc l.n - length l.places.items
