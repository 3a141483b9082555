use Rattle.std.proofs.Common.{ap, ◌∙◌}
use Rattle.schemars_build.proofs.Words.{is_used}
use Rattle.schemars_build.proofs.NamingLemmas.{is_used-naming_of}
use Rattle.schemars_build.proofs.names.Names.is_used.Goals as goal

pub returns : goal.returns
returns c =
    c.contains.ensures
    ∙ is_used-naming_of c.args.name.now c.self.inside.owners.items c.self.inside.given.keys c.self.invariant.same
    ∙ ap (is_used c.args.name.now) c.self.view_is
