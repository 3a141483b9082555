use Rattle.std.proofs.Common.{refl}
use Rattle.schemars_build.proofs.Words.{place_of_owner}
use Rattle.schemars_build.proofs.PlacedLemmas.{placed_same}
use Rattle.schemars_build.proofs.names.Names.extend.Goals as goal

pub invariant_of-self : goal.invariant_of-self
invariant_of-self c = record {
  same = c.self.invariant.same;
  placed = placed_same c.self.inside.owners.items c.self.inside.owners.items (λ n d. place_of_owner n d c.self.inside.places.items)
      (λ n d. place_of_owner n d c.extend.new.places.items) refl c.extend.ensures.same c.self.invariant.placed;
  used = c.self.invariant.used;
}
