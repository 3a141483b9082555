-- The test decides.
use Rattle.std.proofs.Common.{◌≡◌, true, sym, ◌∙◌}
use Rattle.schemars_builders.specs.Keywords.{validates}
use Rattle.schemars_builders.proofs.keywords.insert_validation_property.Goals as goal

pub returns-clause-ok : goal.returns-clause-ok
returns-clause-ok c =
    let is : validates c.args.required_type.now c.args.schema.now ≡ true =
    sym c.validates.ensures ∙ c.if-not-validates.false in
    rw is c.set_keyword.ensures.ok
