-- A bare unit adds nothing, and another variant its item.
use Rattle.std.proofs.Common.{◌≡◌, ◌∷◌, ◌++◌, ◌+◌, ◌∙◌, [], Bool, map, drop, ap, sym, append_assoc}
use Rattle.schemars_documents.proofs.Words.{at_drop_more, map-append, if◌then◌else◌, variant_of, noted, template_view, named_template, other_items}
use Rattle.schemars_documents.proofs.shape.enums.other_items.Goals.{then-not-is_bare_unit+in_ok-item+in_ok-push, else-not-is_bare_unit}
use Rattle.schemars_documents.proofs.shape.enums.other_items.Goals as goal

pub loop-variant-preserved : goal.loop-variant-preserved
loop-variant-preserved c =
    let contract = c.args.contract in
    let variants = c.args.variants.now in
    let i = c.loop-variant.variant-index in
    let x = variant_of c.variant-item.result in
    let before = map template_view c.loop-variant.items.items in
    let rest = map variant_of (drop (i + 1) variants) in
    let more = other_items contract rest in
    let item = noted x.notes (named_template contract x.name x.payload) in
    let so_far : before ++ other_items contract (x ∷ rest) ≡ other_items contract (map variant_of variants) =
    ap (λ y. before ++ other_items contract (variant_of y ∷ rest)) c.variant-item.is
    ∙ (sym (at_drop_more
    (λ ys. before ++ other_items contract (map variant_of ys)) variants i c.variant-item.result c.loop-variant-test.true)
    ∙ c.loop-variant.invariant) in
    let with_bare = λ (b : Bool). before ++ (if b then more else item ∷ more) in
    elim c.if-not-is_bare_unit.branch [
      | then-not-is_bare_unit+in_ok-item+in_ok-push w ↦
          let pushed : map template_view w.push.new.self.items ≡ before ++ item ∷ [] =
          ap (map template_view) w.in_ok-push.ensures.items
          ∙ (map-append template_view c.loop-variant.items.items _ ∙ ap (λ t. before ++ t ∷ []) w.in_ok-item.ensures) in
          ap (λ v. map template_view v.items ++ more) w.items-is
          ∙ (ap (λ ts. ts ++ more) pushed
          ∙ (append_assoc before (item ∷ []) more
          ∙ (ap with_bare (sym w.if-not-is_bare_unit.true ∙ c.is_bare_unit.ensures) ∙ so_far)))
      | else-not-is_bare_unit w ↦
          ap (λ v. map template_view v.items ++ more) w.items-is
          ∙ (ap with_bare (sym w.if-not-is_bare_unit.false ∙ c.is_bare_unit.ensures) ∙ so_far)
    ]
