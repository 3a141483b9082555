-- The lists so far, and those of the enums that are left.
use Rattle.std.proofs.Common.{◌≡◌, ◌++◌, drop, map}
use Rattle.schemars_documents.specs.PlainTable.{enum_names_at}
use Rattle.schemars_plain.proofs.enums.add_enum_names.Given as goal

abbrev pub invariant-loop-n : goal.invariant-loop-n
invariant-loop-n l =
    map (λ names. map (λ n. n.now) names.items) l.lists.items ++ map (enum_names_at l.types) (drop l.n-index l.enums)
    ≡ map (λ names. map (λ n. n.now) names.items) l.fn.lists.items ++ map (enum_names_at l.types) l.enums
