use Rattle.std.proofs.Common.{◌≡◌, true, Some, ap, ◌∙◌, sym, rules}
use Rattle.schemars_types.proofs.Words.{entry_of, entry_eq, entry_at, same_entry}
use Rattle.schemars_types.proofs.TableLemmas.{defined-same}
use Rattle.schemars_types.proofs.table.Types.define.Goals as goal

pub returns-in-Some-entry-clause-ok : goal.returns-in-Some-entry-clause-ok
returns-in-Some-entry-clause-ok c =
    let equal : entry_eq (entry_of c.in-Some-entry.present.now) (entry_of c.args.entry) ≡ true = search rules in
    let there : entry_at c.args.self.now c.args.n ≡ Some (entry_of c.args.entry) =
    sym c.in-Some-entry.ensures ∙ ap Some (same_entry _ _ equal) in
    sym (defined-same c.args.n (entry_of c.args.entry) c.args.self.now there)

pub returns-in-None-clause-ok : goal.returns-in-None-clause-ok
returns-in-None-clause-ok c = search rules
