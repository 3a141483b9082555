use Rattle.std.proofs.Common.{◌≡◌, ◌∙◌, ◌++◌, refl, ap, sym, map, append_assoc}
use Rattle.schemars_templates.proofs.Words.{map-append, asks_of, object_with, ask_of, template_view, node_view, value_view, keyword_view, property_view}
use Rattle.schemars_templates.proofs.Items.{no_more}
use Rattle.schemars_templates.proofs.Answering.{seen_members, answers_asked}
use Rattle.schemars_templates.proofs.Templates.{seen_object, seen_named}
use Rattle.schemars_templates.proofs.template.+add_asks.Goals as goal

-- No template is left, so nothing more is asked.
pub add_node_asks-returns-after-loop-keyword : goal.add_node_asks-returns-after-loop-keyword
add_node_asks-returns-after-loop-keyword t c =
    no_more (λ es. asks_of (object_with (map keyword_view es))) c.deref-keyword-items.result.now c.loop-keyword.keyword-index
    (map ask_of c.loop-keyword.asks.items) _ c.loop-keyword-test.false refl c.loop-keyword.invariant
    ∙ ap (λ u. map ask_of c.args.asks.now.items ++ asks_of u)
    (ap (λ es. object_with (map keyword_view es)) c.deref-keyword-items.ensures.value
    ∙ sym (ap node_view c.in-Object.is ∙ seen_object c.in-Object.keywords))

pub add_value_asks-returns-after-loop-named : goal.add_value_asks-returns-after-loop-named
add_value_asks-returns-after-loop-named t c =
    no_more (λ es. asks_of (object_with (map property_view es))) c.deref-named-items.result.now c.loop-named.named-index
    (map ask_of c.loop-named.asks.items) _ c.loop-named-test.false refl c.loop-named.invariant
    ∙ ap (λ u. map ask_of c.args.asks.now.items ++ asks_of u)
    (ap (λ es. object_with (map property_view es)) c.deref-named-items.ensures.value
    ∙ sym (ap value_view c.in-Named.is ∙ seen_named c.in-Named.schemas))

pub add_node_asks-returns-in_ok-extend_from_slice-in-WithMembers : goal.add_node_asks-returns-in_ok-extend_from_slice-in-WithMembers
add_node_asks-returns-in_ok-extend_from_slice-in-WithMembers t c =
    let inner = c.in-WithMembers.inner in
    let members = c.in-WithMembers.members in
    let old = map ask_of c.args.asks.now.items in
    let own = asks_of (template_view inner.value) in
    let more = map ask_of members.items in
    let whole : asks_of (node_view c.args.node.now) ≡ own ++ more =
    ap (λ u. asks_of (node_view u)) c.in-WithMembers.is
    ∙ (ap asks_of (seen_members inner members) ∙ answers_asked (template_view inner.value) more) in
    let first : map ask_of c.add_asks-in-WithMembers.new.asks.items ≡ old ++ own =
    c.in_ok-add_asks-in-WithMembers.ensures ∙ ap (λ u. old ++ asks_of (template_view u)) c.deref-in-WithMembers.ensures in
    ap (map ask_of) c.in_ok-extend_from_slice-in-WithMembers.ensures.items
    ∙ (map-append ask_of c.add_asks-in-WithMembers.new.asks.items c.deref-in-WithMembers-2.result.now
    ∙ (ap (λ xs. xs ++ map ask_of c.deref-in-WithMembers-2.result.now) first
    ∙ (ap (λ xs. (old ++ own) ++ map ask_of xs) c.deref-in-WithMembers-2.ensures.value
    ∙ (append_assoc old own more ∙ ap (λ xs. old ++ xs) (sym whole)))))
