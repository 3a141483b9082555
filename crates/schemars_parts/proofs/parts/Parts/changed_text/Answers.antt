-- The text is that of what was made of the schema, whose numbers are 64-bit whole numbers.
use Rattle.std.proofs.Common.{ap, ◌∙◌}
use Rattle.schemars_parts.proofs.Words.{has_float-json, ordered_text, assembled_view, made_by}
use Rattle.schemars_parts.proofs.parts.Parts.changed_text.Goals as goal

pub returns-in_ok-text-in-Ok : goal.returns-in_ok-text-in-Ok
returns-in_ok-text-in-Ok c =
    c.in_ok-text-in-Ok.ensures (has_float-json (assembled_view c.in-Ok.schema) (c.is_whole.ensures c.if-is_whole.true))
    ∙ ap ordered_text (c.in-Ok.ensures ∙ ap (made_by c.args.transforms.now) c.self.view_is)
