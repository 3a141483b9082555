use Rattle.std.proofs.Common.{◌≡◌, ◌≤◌, length, reverse, refl, ap, ◌∙◌, arith, rules}
use Rattle.schemars_build.proofs.Words.{plan_of, own, IsInMaking, IsOpened, answer, document, measure_of_own_document}
use Rattle.schemars_build.specs.declared.build.Document.{Document}
use Rattle.schemars_build.specs.declared.build.Purpose.TheVariants as purpose
use Rattle.schemars_build.proofs.Innermost.{reverse_added}
use Rattle.schemars_build.proofs.Making.{leads_at_once, opened_now, opened_reply, filled_made, closes_own}
use Rattle.schemars_build.proofs.Ending.{opened_within, own_within}
use Rattle.schemars_build.proofs.build.start_own.Goals as goal

pub returns-clause-replies : goal.returns-clause-replies
returns-clause-replies g c =
    let plan = plan_of c.args.plan.now in
    let inside = c.args.in_definition in
    let old = c.args.registry.now in
    let n = c.args.n in
    let p = purpose.Own c.in_ok-entered.entered in
    let d : Document = record {
      row = n;
      purpose = p;
      in_definition = inside;
      template = c.in_ok-template.template;
      asks = c.in_ok-asks.asks;
      answers = c.in_ok-answers.answers;
    } in
    let opened : IsOpened plan inside n p d =
    opened_now plan d c.requires.known c.in_ok-template.ensures c.in_ok-asks.ensures c.in_ok-answers.ensures.items in
    record {
      reply = document d;
      given = (refl, ap reverse c.in_ok-push.ensures.items ∙ reverse_added c.args.making.now.items d);
      replied = opened_reply plan inside inside old (own n) old c.enter.new.self n p d opened (leads_at_once plan inside old (own n))
          (refl, c.in_ok-entered.ensures.is_new, c.in_ok-entered.ensures.ok);
      is_like = opened_within plan inside n p d c.enter.new.self (measure_of_own_document plan old n) opened
          (own_within plan old c.enter.new.self n c.in_ok-entered.ensures.ok);
    }

pub returns-then-is_empty-clause-replies : goal.returns-then-is_empty-clause-replies
returns-then-is_empty-clause-replies g c =
    let plan = plan_of c.args.plan.now in
    let inside = c.args.in_definition in
    let old = c.args.registry.now in
    let mid = c.enter.new.self in
    let n = c.args.n in
    let p = purpose.Own c.in_ok-entered.entered in
    let d : Document = record {
      row = n;
      purpose = p;
      in_definition = inside;
      template = c.in_ok-template.template;
      asks = c.in_ok-asks.asks;
      answers = c.new.result;
    } in
    let none : length d.asks.items ≡ 0 = search rules in
    let all : length d.asks.items ≤ length d.answers.items = omega (arith, none) in
    let h : IsInMaking plan inside old (own n) mid d = opened_reply plan inside inside old (own n) old mid n p d
    (opened_now plan d c.requires.known c.in_ok-template.ensures c.in_ok-asks.ensures c.new.ensures.items)
    (leads_at_once plan inside old (own n))
    (refl, c.in_ok-entered.ensures.is_new, c.in_ok-entered.ensures.ok) in
    let s = c.in_ok-answer.answer in
    let filled = filled_made plan inside old (own n) mid d h all s c.requires.checked c.in_ok-answer.ensures in
    record {
      reply = answer s;
      given = (refl, refl);
      replied = closes_own plan inside old (own n) mid d h s filled c.in_ok-entered.entered c.leave.new.self refl c.leave.ensures;
      is_like = tt;
    }
