use Rattle.std.proofs.Common.{ap, sym, ◌∙◌}
use Rattle.schemars_documents.proofs.Words.{finished, seen_finished}
use Rattle.schemars_documents.proofs.Literals.{literal_document-schema}
use Rattle.schemars_documents.proofs.entry.literal_template.Goals as goal

pub returns : goal.returns
returns c = seen_finished c.in_ok-clone.field-0
    ∙ ap finished (c.in_ok-clone.ensures.cases ∙ sym (literal_document-schema c.args.schema.now c.as_value.ensures.schema))
