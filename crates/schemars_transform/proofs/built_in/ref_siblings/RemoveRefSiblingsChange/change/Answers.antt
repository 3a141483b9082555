-- The reference that is taken out goes to the end of `allOf`.
use Rattle.std.proofs.Common.{Some, sym, ap, ◌∙◌, codes}
use Rattle.schemars_transform.proofs.Words.{if◌then◌else◌, on_ok_weaker, object, array, no_items, get, view, members_view, removed, changed_at, with_last, referring, reference_moved}
use Rattle.schemars_transform.proofs.built_in.ref_siblings.RemoveRefSiblingsChange.change.Goals as goal

pub returns : goal.returns
returns c =
    let s = c.args.schema.now in
    let key = codes "allOf" in
    let target = view c.in-Some.target in
    let old = members_view c.in_ok-members.members.now.entries in
    on_ok_weaker c.append_at.result
    (λ h. ap object h
    ∙ (ap (λ d. object (changed_at key (with_last d) (array no_items) old)) c.in_ok-moved.ensures
    ∙ (ap (λ ms. object (changed_at key (with_last (referring target)) (array no_items) ms)) c.in_ok-members.ensures.value
    ∙ (ap (reference_moved (Some target)) c.in-Some.ensures.removed
    ∙ (ap (λ o. reference_moved o (removed (codes "$ref") s)) c.in-Some.ensures.value
    ∙ ap (λ b. if b then s else reference_moved (get (codes "$ref") s) (removed (codes "$ref") s))
    (sym c.if-has_one_member.false ∙ c.has_one_member.ensures))))))
    c.append_at.ensures
