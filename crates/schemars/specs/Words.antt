-- The words of an implementation of `JsonSchema`: what a type says of its row and of those of its parts, and what its groups of calls keep.
pub use Rattle.std.specs.Prelude.{codes}
pub use Rattle.schemars_impls.specs.Describes.{Making, Always, OfOne, OfTwo, OfAll, Unsaid}
pub use Rattle.schemars_shapes.specs.Shape.{field_of, flattened_of, variant_of, internal_variant_of}
pub use Rattle.schemars_impls.specs.Dictionary.{Dictionary, TypeRow, KeepsTo, RefusesAs, Describes, RefusesPart, own}
pub use Rattle.schemars_impls.specs.Fields.{FieldsAreKnown, PartsAreKnown, VariantsAreKnown}
pub use Rattle.schemars_impls.specs.Keeps.{KeepsRows}
pub use Rattle.schemars_impls.specs.OwnRows.{IsNumber, IsReserved}
unfoldable pub use Rattle.schemars_impls.specs.Dictionary.{IsIn, alone, of_one, of_two}
unfoldable pub use Rattle.schemars_impls.specs.OwnRows.{IsOptionOf, IsSeqOf, IsSetOf, IsArrayOf, IsMapOf}
