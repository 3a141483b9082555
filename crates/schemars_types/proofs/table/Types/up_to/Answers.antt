-- The bound is written first, and the texts of the items stand round it.
use Rattle.std.proofs.Common.{refl, ◌≡◌, ◌++◌, rules, append_assoc, codes, decimal}
use Rattle.schemars_types.proofs.table.Types.up_to.Goals as goal

pub register_around-requires : goal.register_around-requires
register_around-requires c = refl

pub returns-clause-ok : goal.returns-clause-ok
returns-clause-ok c =
    let after : c.as_str.result.now ≡ codes "; up to " ++ (decimal c.args.cap ++ codes "]") = search rules in
    let name : c.as_str-2.result.now ≡ codes "Array_up_to_size_" ++ (decimal c.args.cap ++ codes "_of_") = search rules in
    simp append_assoc at (rw (after, name) at c.register_around.ensures.ok)

pub returns-clause-refused : goal.returns-clause-refused
returns-clause-refused c =
    let after : c.as_str.result.now ≡ codes "; up to " ++ (decimal c.args.cap ++ codes "]") = search rules in
    rw after at c.register_around.ensures.refused
