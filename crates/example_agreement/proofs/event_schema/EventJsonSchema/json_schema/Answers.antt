use Rattle.schemars_impls.proofs.Placing.{adds_then}
use Rattle.schemars_accepted.proofs.Made.{enum_made, unit_then, newtype_then, tuple_then, members_then, variants_none, field_then, fields_none}
use Rattle.example_agreement.proofs.event_schema.EventJsonSchema.json_schema.Goals as goal

pub returns-clause-made : goal.returns-clause-made
returns-clause-made c = enum_made _ _ _ _ _ _ _ c.external_entry.ensures.value c.new-variants.ensures.items
    (unit_then c.in_ok-add_unit.ensures.adds
    (newtype_then c.in_ok-add_newtype.ensures.adds c.in_ok-add_newtype.ensures.keeps
    (tuple_then c.in_ok-add_tuple.ensures.adds c.new-moved.ensures.items
    (adds_then c.in_ok-add_one.ensures.adds c.in_ok-add_one-2.ensures.adds)
    (members_then c.in_ok-add_struct.ensures.adds c.new-joined.ensures.items
    (field_then c.in_ok-add_field.ensures.adds c.in_ok-add_field.ensures.keeps
    (field_then c.in_ok-add_field-2.ensures.adds c.in_ok-add_field-2.ensures.keeps fields_none))
    variants_none))))
