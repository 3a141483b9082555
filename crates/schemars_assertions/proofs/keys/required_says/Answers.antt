use Rattle.std.proofs.Common.{◌≡◌, true, false, ap, sym, ◌∙◌}
use Rattle.schemars_assertions.proofs.Words.{view, items_view, members_view, are_texts}
use Rattle.schemars_assertions.proofs.Texts.{keys_there, no_keys}
use Rattle.schemars_assertions.proofs.keys.required_says.Goals as goal

pub returns-in-Some-as_array : goal.returns-in-Some-as_array
returns-in-Some-as_array c =
    let ks = items_view c.in-Some-as_array.keys.now.items in
    let texts : are_texts ks ≡ true =
    ap (λ vs. are_texts (items_view vs)) (sym c.deref.ensures.value) ∙ (sym c.are_texts.ensures ∙ c.if-are_texts.true) in
    let there = keys_there (view c.in-Some.required.now) (view c.args.value.now) ks (members_view c.in-Some-as_object.members.now.entries)
    c.in-Some-as_array.ensures c.in-Some-as_object.ensures texts in
    rw (c.in-Some.is, there, c.verdict_of.ensures, c.have_all.ensures, c.deref-in-Some-as_array.ensures.value)

pub returns-in_default-as_array : goal.returns-in_default-as_array
returns-in_default-as_array c =
    let ks = items_view c.in-Some-as_array.keys.now.items in
    let texts : are_texts ks ≡ false =
    ap (λ vs. are_texts (items_view vs)) (sym c.deref.ensures.value) ∙ (sym c.are_texts.ensures ∙ c.if-are_texts.false) in
    let none = no_keys (view c.in-Some.required.now) (view c.args.value.now) ks (members_view c.in-Some-as_object.members.now.entries)
    c.in-Some-as_array.ensures c.in-Some-as_object.ensures texts in
    rw (c.in-Some.is, none)
