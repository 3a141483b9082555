use Rattle.std.proofs.Common.{◌≡◌, ◌<◌, ◌≤◌, ◌+◌, ◌-◌, ◌++◌, ◌∷◌, [], map, length, take, reverse, refl, ap, ◌∙◌, subst, arith, rules, get_or, slice_index_or}
use Rattle.schemars_build.proofs.Words.{IfOk-weaker, ask_of, plan_of, IsTemplate, row_asked, document_rank, measure_of_asked, asked, IsNext, HasFirst, map_more, common_steps}
use Rattle.schemars_build.proofs.Innermost.{last_got, reverse_added}
use Rattle.schemars_build.proofs.Making.{asks_known, last_is_first, asking_goes_on, asking_goes_less, closing_goes_on, closing_goes_less}
use Rattle.schemars_build.proofs.Ending.{asks_lower}
use Rattle.schemars_build.proofs.build.step.Goals as goal

pub reply_to-requires-clause-known : goal.reply_to-requires-clause-known
reply_to-requires-clause-known g c =
    let plan = plan_of c.args.plan.now in
    let xs = c.args.making.now.items in
    let x = c.in-Some.document.now in
    let here : x ≡ slice_index_or xs (length xs - 1) x = search rules in
    let template : IsTemplate plan x = last_is_first (IsTemplate plan) xs (reverse xs) x (length xs) refl refl here c.requires.first in
    let i = length x.answers.items in
    let a = c.in-Some-next.ask in
    let less : i < length x.asks.items = grind (arith, common_steps) in
    let asks : get_or x.asks.items i a ≡ a = grind (arith, common_steps) in
    subst (λ q. row_asked (ask_of q) < length plan.rows) asks (asks_known plan x c.requires.checked template i a less)

-- the rows have all answered
pub finish_document-requires : goal.finish_document-requires
finish_document-requires g c =
    let plan = plan_of c.args.plan.now in
    let xs = c.args.making.now.items in
    let y = c.in-Some-pop.document in
    let x = c.in-Some.document.now in
    let here : x ≡ slice_index_or xs (length xs - 1) x = search rules in
    let ds = reverse c.pop.new.self.items in
    let are : reverse xs ≡ y ∷ ds = ap reverse c.in-Some-pop.ensures.items ∙ reverse_added c.pop.new.self.items y in
    let same : x ≡ y = here ∙ last_got xs ds y x (length xs) refl are in
    let answered : length x.asks.items ≤ length x.answers.items = grind (arith, common_steps) in
    record {
      checked = c.requires.checked;
      template = subst (λ zs. HasFirst (IsTemplate plan) zs) are c.requires.first;
      all_answered = subst (λ d. length d.asks.items ≤ length d.answers.items) same answered;
    }

pub returns-in-Some-next-clause-goes_on : goal.returns-in-Some-next-clause-goes_on
returns-in-Some-next-clause-goes_on g c =
    let plan = plan_of c.args.plan.now in
    let xs = c.args.making.now.items in
    let x = c.in-Some.document.now in
    let here : x ≡ slice_index_or xs (length xs - 1) x = search rules in
    let template : IsTemplate plan x = last_is_first (IsTemplate plan) xs (reverse xs) x (length xs) refl refl here c.requires.first in
    let i = length x.answers.items in
    let a = c.in-Some-next.ask in
    let less : i < length x.asks.items = grind (arith, common_steps) in
    let asks : get_or x.asks.items i a ≡ a = grind (arith, common_steps) in
    let now = c.args.registry.now in
    let new = c.reply_to.new.registry in
    let es = reverse xs in
    let fs = reverse c.reply_to.new.making.items in
    let more : map ask_of (take (i + 1) x.asks.items) ≡ map ask_of (take i x.asks.items) ++ ask_of a ∷ [] =
    map_more ask_of x.asks.items i a less ∙ ap (λ q. map ask_of (take i x.asks.items) ++ ask_of q ∷ []) asks in
    let next : IsNext x x.in_definition (asked (ask_of a)) =
    record { ask = ask_of a; is = refl; inside = refl; less = less; next = more } in
    IfOk-weaker c.reply_to.result _ _ (λ o h first start all at.
    let same : x ≡ at.inner = here ∙ last_got xs at.around at.inner x (length xs) refl at.are in
    asking_goes_on plan first start all now new es fs o at x.in_definition (ask_of a) _
    (subst (λ d. IsNext d x.in_definition (asked (ask_of a))) same next) h) c.reply_to.ensures.replies

pub returns-in-Some-next-clause-less : goal.returns-in-Some-next-clause-less
returns-in-Some-next-clause-less g c =
    let plan = plan_of c.args.plan.now in
    let xs = c.args.making.now.items in
    let x = c.in-Some.document.now in
    let here : x ≡ slice_index_or xs (length xs - 1) x = search rules in
    let template : IsTemplate plan x = last_is_first (IsTemplate plan) xs (reverse xs) x (length xs) refl refl here c.requires.first in
    let i = length x.answers.items in
    let a = c.in-Some-next.ask in
    let less : i < length x.asks.items = grind (arith, common_steps) in
    let asks : get_or x.asks.items i a ≡ a = grind (arith, common_steps) in
    let now = c.args.registry.now in
    let new = c.reply_to.new.registry in
    let es = reverse xs in
    let fs = reverse c.reply_to.new.making.items in
    let low : measure_of_asked plan now (ask_of a) < document_rank plan now now.pending x.row x.purpose =
    subst (λ q. measure_of_asked plan now (ask_of q) < document_rank plan now now.pending x.row x.purpose) asks
    (asks_lower plan now x c.requires.checked template i a less) in
    IfOk-weaker c.reply_to.result _ _ (λ o h first start all at.
    let same : x ≡ at.inner = here ∙ last_got xs at.around at.inner x (length xs) refl at.are in
    asking_goes_less plan first start all now new es fs o at x.in_definition (ask_of a) (measure_of_asked plan now (ask_of a))
    (subst (λ d. measure_of_asked plan now (ask_of a) < document_rank plan now now.pending d.row d.purpose) same low) h) c.reply_to.ensures.replies

pub returns-clause-goes_on : goal.returns-clause-goes_on
returns-clause-goes_on g c =
    let plan = plan_of c.args.plan.now in
    let xs = c.args.making.now.items in
    let y = c.in-Some-pop.document in
    let ds = reverse c.pop.new.self.items in
    let are : reverse xs ≡ y ∷ ds = ap reverse c.in-Some-pop.ensures.items ∙ reverse_added c.pop.new.self.items y in
    IfOk-weaker c.finish_document.result _ _ (λ o h first start all at. closing_goes_on plan first start all c.args.registry.now c.finish_document.new.registry
    (reverse xs) (reverse c.finish_document.new.making.items) o at y ds are h) c.finish_document.ensures.replies

pub returns-clause-less : goal.returns-clause-less
returns-clause-less g c =
    let plan = plan_of c.args.plan.now in
    let xs = c.args.making.now.items in
    let y = c.in-Some-pop.document in
    let ds = reverse c.pop.new.self.items in
    let are : reverse xs ≡ y ∷ ds = ap reverse c.in-Some-pop.ensures.items ∙ reverse_added c.pop.new.self.items y in
    IfOk-weaker c.finish_document.result _ _ (λ o h first start all at. closing_goes_less plan first start all c.args.registry.now c.finish_document.new.registry
    (reverse xs) (reverse c.finish_document.new.making.items) o at y ds are h) c.finish_document.ensures.replies
