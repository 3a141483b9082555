use Rattle.std.proofs.Common.{subst}
use Rattle.schemars_definitions.proofs.Words.{HasKeysOnce, definition_in}
use Rattle.schemars_definitions.proofs.ByName.{once-by_name}
use Rattle.schemars_definitions.proofs.texts.Texts.into_definitions_text.Goals as goal

pub returns-in_err-sort-clause-once : goal.returns-in_err-sort-clause-once
returns-in_err-sort-clause-once g c = subst HasKeysOnce c.self.view_is (once-by_name definition_in c.self.inside.definitions.entries)

pub definitions_text-requires : goal.definitions_text-requires
definitions_text-requires g c = c.sort.ensures.ordered g.C.Change.made c.self.invariant

pub returns-clause-once : goal.returns-clause-once
returns-clause-once g c = subst HasKeysOnce c.self.view_is (once-by_name definition_in c.self.inside.definitions.entries)
