-- Tables that are plain under a contract, in which each row has the fields and enums of its shape.
use Rattle.std.proofs.Common.{◌≡◌, ℕ, length, Some}
use Rattle.schemars_meaning.proofs.Words.{Entry, entry_at, shape_fields, flattened_in, enums_within, part_enums, Basis, IsPlainUnder}
use Rattle.schemars_types.specs.Effective.{row_fields, shape_enums}

pub record IsSettled (basis : Basis) : Type 0 where
  pub plain : IsPlainUnder basis.contract basis.rows
  pub fields : (n : ℕ) (e : Entry) → entry_at basis.rows n ≡ Some e
      → row_fields basis.rows n ≡ shape_fields (flattened_in basis.rows) e.shape
  pub enums : (n : ℕ) (e : Entry) → entry_at basis.rows n ≡ Some e
      → enums_within basis.rows (length basis.rows) n ≡ shape_enums (part_enums basis.rows) n e.shape
