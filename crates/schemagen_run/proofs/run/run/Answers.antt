-- What is told of a run over a table or an example is told of the words that ask for it.
use Rattle.std.proofs.Common.{inl, inr, subst, rules}
use Rattle.schemagen_run.proofs.Vocabulary.{IfErr-weaker, Asks}
use Rattle.schemagen_run.proofs.Writing.{line_for}
use Rattle.schemagen_run.proofs.run.run.Goals as goal

pub returns-in-Some-Types-clause-document : goal.returns-in-Some-Types-clause-document
returns-in-Some-Types-clause-document g c =
    let at = c.in-Some-Types in
    let asks = subst (Asks c.args.words.now) at.field-0-is at.ensures in
    record {
      bad_table = λ is. ((at.asked, asks), c.run_types.ensures.bad_table is);
      faulty = IfErr-weaker c.run_types.result _ _ (λ e told fault. ((at.asked, asks), told fault)) c.run_types.ensures.faulty;
      unplaced = λ is.
          let (bytes, consumed, end, table) = c.run_types.ensures.unplaced is in
          (bytes, consumed, end, (at.asked, asks, table));
      not_whole = search rules;
    }

pub returns-in-Some-Types-clause-output : goal.returns-in-Some-Types-clause-output
returns-in-Some-Types-clause-output g c =
    let at = c.in-Some-Types in
    let asks = subst (Asks c.args.words.now) at.field-0-is at.ensures in
    line_for _ _ _ _ c.run_types.result _ _ (λ given Q line. inl (at.asked, asks, line)) c.run_types.ensures.output

pub returns-in-Some-Sample-clause-output : goal.returns-in-Some-Sample-clause-output
returns-in-Some-Sample-clause-output g c =
    let at = c.in-Some-Sample in
    let asks = subst (Asks c.args.words.now) at.field-0-is at.ensures in
    line_for _ _ _ _ c.run_sample.result _ _ (λ given Q line. inr (at.dialect, asks, line)) c.run_sample.ensures.output
