-- The object's members are those of the schema that is that object, now and when the loan ends.
use Rattle.std.proofs.Common.{ap, ◌∙◌}
use Rattle.schemars_schema.proofs.Words.{ghost_name_of, as_object, view-Object, read_of}
use Rattle.schemars_schema.proofs.schema.Schema.as_object_mut.Goals as goal

pub returns : goal.returns
returns c = (
  λ t. read_of (ghost_name_of c.as_object_mut.result) (λ w. view-Object w t) (c.self.view_is t),
  record { writes_back = _; value = c.as_object_mut.ensures.value ∙ ap as_object c.self.view_is },
)
