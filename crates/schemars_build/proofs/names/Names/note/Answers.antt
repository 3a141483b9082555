use Rattle.std.proofs.Common.{◌≡◌, ◌⊎◌, sym, subst, Some, inl, inr, ℕ}
use Rattle.schemars_build.proofs.Words.{get_by_text, Text, Naming, naming_of, AreUsed}
use Rattle.schemars_build.proofs.names.Names.note.Goals as goal

pub invariant_of-self : goal.invariant_of-self
invariant_of-self c = record {
  same = c.self.invariant.same;
  placed = c.self.invariant.placed;
  used = λ base count found. by base count (c.note.ensures base count found);
}
  where
    names : Naming
    names = naming_of c.self.inside.owners.items c.self.inside.given.keys

    given : AreUsed names c.args.base.now c.args.count
    given = subst (λ (ns : Naming). AreUsed ns c.args.base.now c.args.count) (sym c.self.view_is) c.requires

    by : (base : Text) (count : ℕ)
        → (get_by_text c.self.inside.tried base ≡ Some count) ⊎ ((base ≡ c.args.base.now) × (count ≡ c.args.count))
        → AreUsed names base count
    by base count (inl h) = c.self.invariant.used base count h
    by base count (inr h) = subst (λ b. AreUsed names b count) (sym h.0)
        (subst (λ k. AreUsed names c.args.base.now k) (sym h.1) given)
