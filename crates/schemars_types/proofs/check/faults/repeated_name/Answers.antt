-- The names of a row are those of its entry, and a row without one has none.
use Rattle.std.proofs.Common.{List, [], sym, ap, subst, string_bytes, IfOk}
use Rattle.schemars_types.proofs.Words.{MatchOption, option_map_or, Text, AreDistinctLists, IsFirstRepeated, Entry, names_of}
use Rattle.schemars_types.proofs.Names.{differ_undefined}
use Rattle.schemars_types.proofs.check.faults.repeated_name.Goals as goal

pub returns-in-None : goal.returns-in-None
returns-in-None c = differ_undefined c.args.types.now c.args.n (sym c.in-None.ensures)

pub returns-in-Some : goal.returns-in-Some
returns-in-Some c =
    let same = ap (λ o. option_map_or (λ (e : Entry). names_of e.shape) o []) c.in-Some.ensures in
    subst (λ (names : List (List Text)). IfOk c.repeated_name.result
    (λ r. MatchOption r (AreDistinctLists names) (λ s. IsFirstRepeated names (string_bytes s)))) same c.repeated_name.ensures
