use Rattle.std.proofs.Common.{length, ap, ◌∙◌, sym, subst}
use Rattle.schemars_build.proofs.Words.{IsOneToOne}
use Rattle.schemars_build.proofs.NamingLemmas.{length-naming_of, one_to_one}
use Rattle.schemars_build.proofs.names.Names.len.Goals as goal

pub returns-clause-len : goal.returns-clause-len
returns-clause-len c =
    c.len.ensures.len
    ∙ sym (length-naming_of c.self.inside.owners.items c.self.inside.given.keys c.self.invariant.same)
    ∙ ap length c.self.view_is

pub returns-clause-one_to_one : goal.returns-clause-one_to_one
returns-clause-one_to_one c = subst IsOneToOne c.self.view_is (one_to_one c.self.inside.owners.items c.self.inside.given.keys
    c.self.invariant.same c.len.ensures.unique)
