use Rattle.std.proofs.Common.{◌≡◌, ◌++◌, ◌∙◌, map, ap, subst, IfOk, string_bytes, rules, codes}
use Rattle.schemars_types.proofs.Words.{join_by, Text, name_at}
use Rattle.schemars_types.proofs.Joined.{all_joined}
use Rattle.schemars_types.proofs.table.texts.tuple_name.Goals as goal

pub returns : goal.returns
returns c =
    let at = name_at c.args.types.now in
    let joined : string_bytes c.in_ok-names.names ≡ join_by (λ t. t) (codes "_and_") (map at c.args.parts.now) =
    c.in_ok-names.ensures.ok
    ∙ (ap (join_by (λ t. t.now) (codes "_and_")) c.deref.ensures.value
    ∙ all_joined (codes "_and_") at c.args.parts.now c.loop-n.n-index c.loop-n.names.items c.loop-n-test.false c.loop-n.invariant) in
    subst (λ (t : Text). IfOk c.format.result (λ s. string_bytes s ≡ codes "Tuple_of_" ++ t)) joined (search rules)
