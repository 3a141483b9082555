use Rattle.std.proofs.Common.{◌∙◌, sym, subst}
use Rattle.schemars_types.proofs.Words.{RefersWithin}
use Rattle.schemars_types.proofs.Copies.{map-row_of-copied}
use Rattle.schemars_types.proofs.table.TypesClone.clone.Goals as goal

pub invariant_of-result : goal.invariant_of-result
invariant_of-result c = subst RefersWithin (sym (map-row_of-copied c.self.inside.slots.entries c.in_ok-clone.field-0.entries
    c.in_ok-clone.ensures.cases)) c.self.invariant

pub returns : goal.returns
returns c = record {
  cases = map-row_of-copied c.self.inside.slots.entries c.in_ok-clone.field-0.entries c.in_ok-clone.ensures.cases
      ∙ c.self.view_is;
}
