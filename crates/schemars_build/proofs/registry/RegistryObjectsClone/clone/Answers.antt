use Rattle.std.proofs.Common.{◌≡◌, ◌∙◌, ◌≤◌, length, sym, subst, string_bytes}
use Rattle.schemars_build.proofs.registry.RegistryObjectsClone.clone.Goals as goal
use Rattle.schemars_shapes.proofs.Copies.{map_copied}

pub invariant_of-result : goal.invariant_of-result
invariant_of-result c = subst (λ names. c.self.inside.kept ≤ length names) (sym c.in_ok-clone.ensures.cases) c.self.invariant

pub returns : goal.returns
returns c =
    let begun = map_copied string_bytes c.self.inside.begun.items c.in_ok-clone-3.field-0.items c.in_ok-clone-3.ensures.cases.0 in
    let same : _ ≡ _ =
    λ i. record {
      names = c.in_ok-clone.ensures.cases i;
      definitions = c.in_ok-clone-2.ensures.cases i;
      begun = begun i;
      kept = c.self.inside.kept;
      has_root_reference = c.self.inside.has_root_reference;
      pending = c.in_ok-clone-4.ensures.cases i;
    } in
    record { cases = same ∙ c.self.view_is }
