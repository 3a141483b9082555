use Rattle.std.proofs.Common.{reverse, refl, ap, ◌∙◌}
use Rattle.schemars_build.proofs.Words.{plan_of}
use Rattle.schemars_build.specs.declared.build.Document.{Document}
use Rattle.schemars_build.proofs.Innermost.{reverse_added}
use Rattle.schemars_build.proofs.Making.{opened_now}
use Rattle.schemars_build.proofs.build.push_document.Goals as goal

pub returns : goal.returns
returns c =
    let d : Document = record {
      row = c.args.n;
      purpose = c.args.purpose;
      in_definition = c.args.in_definition;
      template = c.in_ok-template.template;
      asks = c.in_ok-asks.asks;
      answers = c.in_ok-answers.answers;
    } in (
      d,
      opened_now (plan_of c.args.plan.now) d c.requires.known c.in_ok-template.ensures c.in_ok-asks.ensures c.in_ok-answers.ensures.items,
      (refl, ap reverse c.in_ok-push.ensures.items ∙ reverse_added c.args.making.now.items d),
    )
