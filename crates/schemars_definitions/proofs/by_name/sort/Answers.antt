use Rattle.schemars_definitions.proofs.Words.{All-permutation, on_ok_weaker, IsOrdered, definition_in}
use Rattle.schemars_definitions.proofs.ByName.{sorted_by_name}
use Rattle.schemars_definitions.proofs.EntryEdits.{all_ordered, each_ordered}
use Rattle.schemars_definitions.proofs.by_name.sort.Goals as goal

pub returns-clause-sorted : goal.returns-clause-sorted
returns-clause-sorted c = on_ok_weaker c.sort_keys.result (λ sorted.
    sorted_by_name definition_in c.args.definitions.now.entries c.sort_keys.new.self.entries sorted
    c.sort_keys.ensures.unique c.sort_keys.ensures.reordered.2) c.sort_keys.ensures.sorted

pub returns-clause-ordered : goal.returns-clause-ordered
returns-clause-ordered c = λ made all. all_ordered made c.sort_keys.new.self.entries
    (All-permutation (λ e. IsOrdered made e.1) c.args.definitions.now.entries c.sort_keys.new.self.entries c.sort_keys.ensures.reordered.0
    (each_ordered made c.args.definitions.now.entries all))
