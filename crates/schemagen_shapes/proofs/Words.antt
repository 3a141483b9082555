-- Words that many proofs of this crate name.
pub use Rattle.schemagen_json.specs.BorrowedValue.{items_data}
pub use Rattle.schemagen_shapes.specs.Forms.{field_in, flattened_from, internal_variant_in, number_in, read_each, variant_in}
pub use Rattle.schemars_shapes.specs.Shape.{field_of, flattened_of, internal_variant_of, variant_of}
pub use Rattle.serde_json.specs.Data.{Data}
