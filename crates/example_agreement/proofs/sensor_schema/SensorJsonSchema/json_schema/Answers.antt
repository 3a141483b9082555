use Rattle.schemars_accepted.proofs.Made.{struct_made, field_then, fields_none}
use Rattle.example_agreement.proofs.sensor_schema.SensorJsonSchema.json_schema.Goals as goal

pub returns-clause-made : goal.returns-clause-made
returns-clause-made c = struct_made _ _ _ _ _ _ _ c.struct_entry.ensures.value c.new-fields.ensures.items
    (field_then c.in_ok-add_field.ensures.adds c.in_ok-add_field.ensures.keeps
    (field_then c.in_ok-add_field-2.ensures.adds c.in_ok-add_field-2.ensures.keeps
    (field_then c.in_ok-add_field-3.ensures.adds c.in_ok-add_field-3.ensures.keeps
    (field_then c.in_ok-add_field-4.ensures.adds c.in_ok-add_field-4.ensures.keeps
    (field_then c.in_ok-add_field-5.ensures.adds c.in_ok-add_field-5.ensures.keeps
    (field_then c.in_ok-add_field-6.ensures.adds c.in_ok-add_field-6.ensures.keeps fields_none))))))
