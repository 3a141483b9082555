-- What the documents of a table's rows are made from.
use Rattle.std.specs.Prelude.{List, Bool}
use Rattle.schemars_types.specs.Rows.{Row}
use Rattle.schemars_types.specs.declared.contract.Contract.{Contract}
use Rattle.schemars_documents.specs.declared.template.basis.Basis as src

pub record Basis : Type 0 where
  pub rows : List Row
  pub contract : Contract
  -- whether the variants of an untagged enum have their names as titles
  pub titles : Bool

abbrev pub basis_of : src.Basis → Basis
basis_of b = record { rows = b.types.now; contract = b.contract; titles = b.titles }
