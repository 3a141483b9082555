use Rattle.std.proofs.Common.{◌≡◌, Bool, false, List, [], ◌∷◌, length, map, ap, subst, ◌∙◌, sym, refl, true≢false, IfOk}
use Rattle.schemars_documents.proofs.Words.{◌==◌, variant_of, node_view, any_of_template, payload_item, untagged_template}
use Rattle.schemars_shapes.specs.declared.variant.Variant.{Variant}
use Rattle.schemars_types.specs.declared.contract.Contract.{Contract}
use Rattle.schemars_documents.proofs.shape.enums.untagged_template.Goals as goal

one_at_least : (contract : Contract) (titles : Bool) (xs : List Variant) → (length xs == 0) ≡ false
    → any_of_template (map (payload_item contract titles) (map variant_of xs)) ≡ untagged_template contract titles (map variant_of xs)
one_at_least contract titles [] some = absurd (true≢false some)
one_at_least contract titles (x ∷ xs) some = refl

pub returns : goal.returns
returns c =
    let variants = c.args.variants.now in
    let all = ap any_of_template c.in_ok-items.ensures
    ∙ one_at_least c.args.contract c.args.titles variants (sym c.is_empty.ensures ∙ c.if-is_empty.false) in
    subst (λ u. IfOk c.any_of.result (λ t. node_view t ≡ u)) all c.any_of.ensures
