use Rattle.std.proofs.Common.{None, refl, sym, subst}
use Rattle.schemars_definitions.proofs.Words.{hash_map_updates_text, definition_in, AreOrdered}
use Rattle.schemars_definitions.proofs.ByName.{removed-by_name}
use Rattle.schemars_definitions.proofs.EntryEdits.{ordered-remove}
use Rattle.schemars_definitions.proofs.by_name.remove.Goals as goal

pub returns-clause-value : goal.returns-clause-value
returns-clause-value c = removed-by_name definition_in c.args.name.now None c.args.definitions.now.entries c.shift_remove.new.self.entries
    (hash_map_updates_text c.args.name.now c.args.definitions.now c.shift_remove.new.self None c.shift_remove.ensures.updates) refl

pub returns-clause-ordered : goal.returns-clause-ordered
returns-clause-ordered c = λ made all. subst (AreOrdered made) (sym c.shift_remove.ensures.entries)
    (ordered-remove made _ c.args.definitions.now.entries all)
