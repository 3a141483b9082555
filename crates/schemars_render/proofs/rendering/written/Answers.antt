use Rattle.schemars_render.proofs.Words.{has_float-json, assembled_view}
use Rattle.schemars_render.proofs.rendering.written.Goals as goal

pub returns : goal.returns
returns c = record {
  text = (c.requires, c.in_ok-text.ensures (has_float-json (assembled_view c.args.schema) c.requires));
  schema = c.of.ensures;
  needs = c.needs_if_asked-needs.ensures;
}
