use Rattle.std.proofs.Common.{[], ap, sym}
use Rattle.schemars_types.proofs.Words.{option_map_or, Entry, shape_of, numbers_of}
use Rattle.schemars_types.proofs.Ascending.{none_if}
use Rattle.schemars_types.proofs.check.faults.refers_to_none.Goals as goal

pub returns-in-Some : goal.returns-in-Some
returns-in-Some c = none_if _ _ (numbers_of (shape_of c.in-Some.entry.now.shape)) _ c.is_none.ensures c.first_unknown.ensures
    (sym (ap (λ o. option_map_or (λ (e : Entry). numbers_of e.shape) o []) c.in-Some.ensures))

pub returns-in-None : goal.returns-in-None
returns-in-None c = sym (ap (λ o. option_map_or (λ (e : Entry). numbers_of e.shape) o []) c.in-None.ensures)
