-- The length is written first, and the texts of the items stand behind it.
use Rattle.std.proofs.Common.{refl, ◌≡◌, ◌++◌, ◌==◌, false, rules, append_assoc, codes, decimal, arith}
use Rattle.std.proofs.lemmas.Bool.Decides.{nat_tests}
use Rattle.schemars_types.proofs.table.Types.array.Goals as goal

pub register_around-requires : goal.register_around-requires
register_around-requires c = refl

pub returns-clause-ok : goal.returns-clause-ok
returns-clause-ok c =
    let sized : (c.args.len == 0) ≡ false = grind (arith, nat_tests) in
    let before : c.as_str.result.now ≡ codes "[" ++ (decimal c.args.len ++ codes "; ") = search rules in
    let name : c.as_str-2.result.now ≡ codes "Array_size_" ++ (decimal c.args.len ++ codes "_of_") = search rules in
    rw sized (simp append_assoc at (rw (before, name) at c.register_around.ensures.ok))

pub returns-clause-refused : goal.returns-clause-refused
returns-clause-refused c =
    let sized : (c.args.len == 0) ≡ false = grind (arith, nat_tests) in
    let before : c.as_str.result.now ≡ codes "[" ++ (decimal c.args.len ++ codes "; ") = search rules in
    rw sized (simp append_assoc at (rw before at c.register_around.ensures.refused))
