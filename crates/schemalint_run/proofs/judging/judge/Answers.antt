-- The verdict on the table is one on the text.
use Rattle.std.proofs.Common.{rules}
use Rattle.schemalint_run.proofs.Words.{IsAccepted}
use Rattle.schemalint_run.proofs.Judged.{judged}
use Rattle.schemalint_run.proofs.judging.judge.Goals as goal

pub returns : goal.returns
returns c =
    let accepted : IsAccepted c.in-Ok.table.0 = search rules in
    judged _ _ c.args.bytes.now _ c.in-Ok.ensures.ok accepted c.in_ok-verdict.ensures
