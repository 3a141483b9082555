use Rattle.std.proofs.Common.{◌≡◌, [], length, drop, map, Some, refl, sym, ◌∙◌, subst, arith, rules}
use Rattle.std.proofs.lemmas.List.{drop_all}
use Rattle.std.proofs.lemmas.Result.{on_ok_weaker}
use Rattle.serde.specs.Event.{Logs, seq_begins}
use Rattle.example_agreement.specs.Trees.{tree_view, branches_of, SendsBranches, count_all}
use Rattle.example_agreement.proofs.tree.+send.Goals as goal

pub send_children-returns : goal.send_children-returns
send_children-returns g t c =
    let xs = c.deref-child-items.result.now in
    let all = c.args.children.now.items in
    let first = g.S.Serializer.written c.begin_seq.new.self in
    let last = g.S.Serializer.written c.loop-child.out in
    let len : c.len.result ≡ length all = search rules in
    let begun = subst (λ n. Logs (g.S.Serializer.written c.args.out.now) first (seq_begins (Some n))) (len ∙ sym
    (count_all all)) c.in_ok-begin_seq.ensures in
    let none : drop c.loop-child.child-index xs ≡ [] = drop_all c.loop-child.child-index xs (omega arith) in
    let sent = subst (λ ys. SendsBranches (branches_of (map tree_view ys)) first last) c.deref-child-items.ensures.value
    (c.loop-child.invariant last (subst (λ ys. SendsBranches (branches_of (map tree_view ys)) last last) (sym none) refl)) in
    on_ok_weaker c.end_seq.result (λ e. (first, last, begun, sent, e)) c.end_seq.ensures
