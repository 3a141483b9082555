use Rattle.std.proofs.Common.{map, refl}
use Rattle.schemars_documents.proofs.Words.{field_of, required_names, no_more}
use Rattle.schemars_documents.proofs.documents.required_names.Goals as goal

pub returns : goal.returns
returns c =
    no_more (λ fs. required_names c.args.contract (map field_of fs)) c.args.fields.now c.loop-field.field-index
    (map (λ n. n.now) c.loop-field.names.items) _ c.loop-field-test.false refl c.loop-field.invariant
