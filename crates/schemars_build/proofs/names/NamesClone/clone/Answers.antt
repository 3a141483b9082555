use Rattle.std.proofs.Common.{◌≡◌, ◌∙◌, sym, string_bytes, ℕ, Some, subst, ap}
use Rattle.schemars_build.proofs.Words.{get_by_text, Text, Naming, naming_of, AreUsed, place_of_owner}
use Rattle.schemars_build.proofs.PlacedLemmas.{placed_same}
use Rattle.schemars_build.proofs.TriedLemmas.{lookup_copied}
use Rattle.schemars_build.proofs.Copies.{as_long, equal_copied, names_copied}
use Rattle.schemars_build.proofs.names.NamesClone.clone.Goals as goal

pub invariant_of-result : goal.invariant_of-result
invariant_of-result c = record {
  used = used;
  placed = placed_same c.self.inside.owners.items c.in_ok-clone.field-0.items (λ m d. place_of_owner m d c.self.inside.places.items)
      (λ m d. place_of_owner m d c.in_ok-clone-3.field-0.items)
      (equal_copied c.self.inside.owners.items c.in_ok-clone.field-0.items c.in_ok-clone.ensures.cases.0)
      (λ m d. ap (place_of_owner m d) (equal_copied c.self.inside.places.items c.in_ok-clone-3.field-0.items c.in_ok-clone-3.ensures.cases.0))
      c.self.invariant.placed;
  same =
      as_long (λ x y. y ≡ x) c.self.inside.owners.items c.in_ok-clone.field-0.items c.in_ok-clone.ensures.cases.0
      ∙ c.self.invariant.same
      ∙ sym (as_long (λ s t. string_bytes t ≡ string_bytes s) c.self.inside.given.keys c.in_ok-clone-2.field-0.keys
      c.in_ok-clone-2.ensures.cases);
}
  where
    names_same : naming_of c.in_ok-clone.field-0.items c.in_ok-clone-2.field-0.keys
        ≡ naming_of c.self.inside.owners.items c.self.inside.given.keys
    names_same = names_copied c.self.inside.owners.items c.in_ok-clone.field-0.items c.self.inside.given.keys c.in_ok-clone-2.field-0.keys
        c.in_ok-clone.ensures.cases.0 c.in_ok-clone-2.ensures.cases

    used : (base : Text) (count : ℕ) → get_by_text c.in_ok-clone-4.field-0 base ≡ Some count
        → AreUsed (naming_of c.in_ok-clone.field-0.items c.in_ok-clone-2.field-0.keys) base count
    used base count found = subst (λ (names : Naming). AreUsed names base count) (sym names_same)
        (c.self.invariant.used base count
        (sym (lookup_copied base c.self.inside.tried.entries c.in_ok-clone-4.field-0.entries c.in_ok-clone-4.ensures.cases) ∙ found))

pub returns : goal.returns
returns c = record {
  cases = names_copied c.self.inside.owners.items c.in_ok-clone.field-0.items c.self.inside.given.keys c.in_ok-clone-2.field-0.keys
      c.in_ok-clone.ensures.cases.0 c.in_ok-clone-2.ensures.cases
      ∙ c.self.view_is;
}
