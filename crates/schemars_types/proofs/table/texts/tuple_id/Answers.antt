use Rattle.std.proofs.Common.{◌≡◌, ◌++◌, ◌∙◌, map, ap, subst, IfOk, string_bytes, rules, codes}
use Rattle.schemars_types.proofs.Words.{join_by, Text, id_at}
use Rattle.schemars_types.proofs.Joined.{all_joined}
use Rattle.schemars_types.proofs.table.texts.tuple_id.Goals as goal

pub returns : goal.returns
returns c =
    let at = id_at c.args.types.now in
    let joined : string_bytes c.in_ok-ids.ids ≡ join_by (λ t. t) (codes ",") (map at c.args.parts.now) =
    c.in_ok-ids.ensures.ok
    ∙ (ap (join_by (λ t. t.now) (codes ",")) c.deref.ensures.value
    ∙ all_joined (codes ",") at c.args.parts.now c.loop-n.n-index c.loop-n.ids.items c.loop-n-test.false c.loop-n.invariant) in
    subst (λ (t : Text). IfOk c.format.result (λ s. string_bytes s ≡ codes "(" ++ (t ++ codes ")"))) joined (search rules)
