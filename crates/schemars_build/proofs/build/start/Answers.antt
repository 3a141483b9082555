use Rattle.std.proofs.Common.{Option, reverse, sym, subst}
use Rattle.schemars_build.proofs.Words.{IfOk, IfOk-weaker, Data, ask_of, plan_of, Wanted, own, wanted, HasReplied, asked}
use Rattle.schemars_build.proofs.Making.{leads_at_once, replied_through}
use Rattle.schemars_build.proofs.build.start.Goals as goal

pub returns-in-Own-clause-replies : goal.returns-in-Own-clause-replies
returns-in-Own-clause-replies g c =
    let plan = plan_of c.args.plan.now in
    let inside = c.args.in_definition in
    let old = c.args.registry.now in
    let ds = reverse c.args.making.now.items in
    let new = c.start_own.new.registry in
    let es = reverse c.start_own.new.making.items in
    let H : Wanted → Option Data → Type 0 = λ w. HasReplied plan inside old w ds (λ r. Unit {0}) new es in
    subst (λ q. IfOk c.start_own.result (H (wanted q))) (sym c.in-Own.is)
    (IfOk-weaker c.start_own.result _ (H (own c.in-Own.n))
    (λ o h. replied_through plan inside old (own c.in-Own.n) old (own c.in-Own.n) ds _ _ new es o
    (leads_at_once plan inside old (own c.in-Own.n)) (λ r like. tt) h) c.start_own.ensures.replies)

pub returns-in-Asked-clause-replies : goal.returns-in-Asked-clause-replies
returns-in-Asked-clause-replies g c =
    let plan = plan_of c.args.plan.now in
    let inside = c.args.in_definition in
    let old = c.args.registry.now in
    let ds = reverse c.args.making.now.items in
    let new = c.reply_to.new.registry in
    let es = reverse c.reply_to.new.making.items in
    let a = asked (ask_of c.in-Asked.ask) in
    let H : Wanted → Option Data → Type 0 = λ w. HasReplied plan inside old w ds (λ r. Unit {0}) new es in
    subst (λ q. IfOk c.reply_to.result (H (wanted q))) (sym c.in-Asked.is)
    (IfOk-weaker c.reply_to.result _ (H a) (λ o h. replied_through plan inside old a old a ds _ _ new es o
    (leads_at_once plan inside old a) (λ r like. tt) h) c.reply_to.ensures.replies)
