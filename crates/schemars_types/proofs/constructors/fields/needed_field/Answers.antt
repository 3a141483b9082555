use Rattle.std.proofs.Common.{true}
use Rattle.serde_json.specs.View.{members_view}
use Rattle.schemars_types.proofs.constructors.fields.needed_field.Goals as goal

pub returns : goal.returns
returns c = λ i. record {
  name = c.in_ok-from_str.ensures.ok i;
  ty = c.args.ty;
  required = record { deserialize = true; serialize = true };
  notes = members_view (c.new.ensures.empty i);
}
