use Rattle.std.proofs.Common.{◌≡◌, ◌++◌, map, drop}
use Rattle.schemars_documents.proofs.Words.{field_of, required_names}
use Rattle.schemars_documents.proofs.documents.required_names.Given as goal

abbrev pub invariant-loop-field : goal.invariant-loop-field
invariant-loop-field l =
    map (λ n. n.now) l.names.items ++ required_names l.contract (map field_of (drop l.field-index l.fields))
    ≡ required_names l.contract (map field_of l.fields)
