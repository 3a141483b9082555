-- What a variant has beside its name, seen through a borrow.
use Rattle.std.specs.Prelude.{Option, Some, None}
use Rattle.schemars_shapes.specs.Shape.{Fields, fields_of, Payload, no_payload, newtype_payload, tuple_payload, struct_payload}
use Rattle.schemars_shapes.specs.declared.any_variant.AnyPayload.{AnyPayload}
use Rattle.schemars_shapes.specs.declared.any_variant.AnyPayload.TheVariants.{Unit, Newtype, Tuple, Struct}

abbrev pub any_payload_of : AnyPayload → Payload
any_payload_of Unit = no_payload
any_payload_of (Newtype n) = newtype_payload n
any_payload_of (Tuple parts) = tuple_payload parts.now
any_payload_of (Struct fields) = struct_payload (fields_of fields.now)

-- the fields of a struct variant
abbrev pub payload_fields : Payload → Option Fields
payload_fields (struct_payload x) = Some x
payload_fields _ = None
