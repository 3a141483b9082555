use Rattle.std.proofs.Common.{◌∙◌, ap, codes}
use Rattle.schemars_types.proofs.Words.{string, inserted, version_pattern}
use Rattle.schemars_types.proofs.constructors.scalars.version_schema.Goals as goal

pub returns : goal.returns
returns c =
    c.in_ok-insert_text-2.ensures
    ∙ ap (inserted (codes "pattern") (string version_pattern))
    (c.in_ok-insert_text.ensures ∙ ap (inserted (codes "type") (string (codes "string"))) c.default-schema.ensures)
