-- Words of the proofs about rows that types describe.
pub use Rattle.schemars_accepted.specs.Numbered.{AreNumbers, FieldTold, Members, Nothing, OneValue, PayloadTold, Values, VariantTold, field_ids, fields_by, number_in, of_ids, payload_by, payload_ids, variant_ids, variants_by}
unfoldable pub use Rattle.schemars_accepted.specs.Numbered.{fields_made, variants_made}
pub use Rattle.schemars_accepted.specs.OwnLaws.{are_numbers}
pub use Rattle.schemars_impls.proofs.Keeping.{keeps-refl, keeps-trans, place_of-kept}
pub use Rattle.schemars_impls.specs.Describes.{Adds, IsMade, places_of}
pub use Rattle.schemars_impls.specs.Fields.{bare_variant, plain_field}
pub use Rattle.schemars_impls.specs.Keeps.{Keeps}
pub use Rattle.schemars_schema.specs.Json.{Text}
pub use Rattle.schemars_shapes.specs.Shape.{Entry, Field, Payload, Tagging, Variant, bare_fields, enum, field_of, internal_variant_of, newtype_payload, no_payload, struct, struct_payload, tuple_payload, variant_of, without_notes}
pub use Rattle.schemars_types.specs.Rows.{Row, place_of}
