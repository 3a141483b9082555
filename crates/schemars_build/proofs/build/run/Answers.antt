use Rattle.std.proofs.Common.{◌≡◌, ◌<◌, [], List, reverse, None, Some, refl, ap, sym, ◌∙◌, subst}
use Rattle.schemars_build.proofs.Words.{plan_of, wanted, IsTaken, Step, measure_of_turn, IfOk-weaker, AreWaiting, AreMaking, IsReply, measure_of_making}
use Rattle.schemars_build.specs.declared.build.Document.{Document}
use Rattle.schemars_build.proofs.Making.{taken_goes, taken_home, taken_left, goes_on_undone, making_first}
use Rattle.schemars_build.proofs.build.run.Goals as goal

pub going-init : goal.going-init
going-init g c =
    let plan = plan_of c.args.plan.now in
    let first = c.args.in_definition in
    let start = c.args.registry.now in
    let all = wanted c.args.request in
    let replied = c.in_ok-answer.ensures.replies in
    let none : reverse c.new-making.result.items ≡ [] = ap reverse c.new-making.ensures.items in
    let P : List Document → Type 0 = λ ds. AreWaiting plan first start all first start all ds in
    record {
      outside = first;
      old = start;
      want = all;
      around = reverse c.new-making.result.items;
      reply = replied.reply;
      given = replied.given;
      waiting = subst P (sym none) (refl, refl, refl);
      replied = replied.replied;
    }

pub returns-in_err-last-clause-rolled_back : goal.returns-in_err-last-clause-rolled_back
returns-in_err-last-clause-rolled_back g c = goes_on_undone (plan_of c.args.plan.now) c.args.in_definition c.args.registry.now (wanted c.args.request)
    c.going.registry (reverse c.going.making.items) c.going.answer c.going.invariant

pub returns-in_err-answer-2-clause-rolled_back : goal.returns-in_err-answer-2-clause-rolled_back
returns-in_err-answer-2-clause-rolled_back g c = c.in_err-answer-2.ensures.rolled_back ∙ goes_on_undone (plan_of c.args.plan.now) c.args.in_definition
    c.args.registry.now (wanted c.args.request) c.going.registry (reverse c.going.making.items) c.going.answer c.going.invariant

pub returns-in-Some-clause-rolled_back : goal.returns-in-Some-clause-rolled_back
returns-in-Some-clause-rolled_back g c = goes_on_undone (plan_of c.args.plan.now) c.args.in_definition c.args.registry.now
    (wanted c.args.request) c.going.registry (reverse c.going.making.items) c.going.answer c.going.invariant

-- nothing waits
home : (g : _) (c : goal.After-drop-making-in-Some g) → Step (plan_of c.args.plan.now) c.args.registry.now c.going.registry
    × IsReply (plan_of c.args.plan.now) c.args.in_definition c.args.registry.now c.going.registry (wanted c.args.request) c.in-Some.answer
home g c =
    let fs = reverse c.deliver.new.making.items in
    let taken : IsTaken (reverse c.going.making.items) c.going.answer fs (Some c.in-Some.answer) =
    subst (λ o. IsTaken (reverse c.going.making.items) c.going.answer fs o) c.in-Some.is c.in_ok-last.ensures in
    taken_home (plan_of c.args.plan.now) c.args.in_definition c.args.registry.now (wanted c.args.request) c.going.registry
    (reverse c.going.making.items) c.going.answer fs c.in-Some.answer taken c.going.invariant

pub returns-in-Some-clause-step : goal.returns-in-Some-clause-step
returns-in-Some-clause-step g c = IfOk-weaker c.into_schema.result _ _ (λ s is. (home g c).0) c.into_schema.ensures

pub returns-in-Some-clause-is : goal.returns-in-Some-clause-is
returns-in-Some-clause-is g c =
    IfOk-weaker c.into_schema.result _ _ (λ s is.
    subst (IsReply (plan_of c.args.plan.now) c.args.in_definition c.args.registry.now c.going.registry (wanted c.args.request)) (sym is)
    (home g c).1) c.into_schema.ensures

pub step-requires-clause-first : goal.step-requires-clause-first
step-requires-clause-first g c =
    let plan = plan_of c.args.plan.now in
    let all = wanted c.args.request in
    let es = reverse c.deliver.new.making.items in
    let taken : IsTaken (reverse c.going.making.items) c.going.answer es None =
    subst (λ o. IsTaken (reverse c.going.making.items) c.going.answer es o) c.in_default.is c.in_ok-last.ensures in
    making_first plan c.args.in_definition c.args.registry.now all c.going.registry es
    (taken_goes plan c.args.in_definition c.args.registry.now all c.going.registry (reverse c.going.making.items) c.going.answer es taken
    c.going.invariant)

-- what is taken
are_taken : (g : _) (c : goal.In_ok-answer-2 g) → IsTaken (reverse c.going.making.items) c.going.answer (reverse c.deliver.new.making.items) None
are_taken g c = subst (λ o. IsTaken (reverse c.going.making.items) c.going.answer (reverse c.deliver.new.making.items) o) c.in_default.is
    c.in_ok-last.ensures

at : (g : _) (c : goal.In_ok-answer-2 g)
    → AreMaking (plan_of c.args.plan.now) c.args.in_definition c.args.registry.now (wanted c.args.request) c.going.registry
    (reverse c.deliver.new.making.items)
at g c = taken_goes (plan_of c.args.plan.now) c.args.in_definition c.args.registry.now (wanted c.args.request) c.going.registry
    (reverse c.going.making.items) c.going.answer (reverse c.deliver.new.making.items) (are_taken g c) c.going.invariant

pub going-smaller : goal.going-smaller
going-smaller g c =
    let plan = plan_of c.args.plan.now in
    let es = reverse c.deliver.new.making.items in
    let same : measure_of_making plan c.going.registry es ≡ measure_of_turn plan c.going.registry (reverse c.going.making.items) c.going.answer =
    taken_left plan c.args.in_definition c.args.registry.now (wanted c.args.request) c.going.registry
    (reverse c.going.making.items) c.going.answer es
    (are_taken g c) c.going.invariant in
    subst (λ k. measure_of_turn plan c.step.new.registry (reverse c.step.new.making.items) c.in_ok-answer-2.answer < k) same
    (c.in_ok-answer-2.ensures.less c.args.in_definition c.args.registry.now (wanted c.args.request) (at g c))

pub going-preserved : goal.going-preserved
going-preserved g c = c.in_ok-answer-2.ensures.goes_on c.args.in_definition c.args.registry.now (wanted c.args.request) (at g c)
