-- By the tests of the table.
use Rattle.std.proofs.Common.{rules}
use Rattle.schemalint_run.proofs.Words.{IsPlainTable}
use Rattle.schemalint_run.proofs.Judged.{verdict_plain, verdict_under}
use Rattle.schemalint_run.proofs.judging.verdict_of.Goals as goal

pub returns-then-branch : goal.returns-then-branch
returns-then-branch c =
    let plain : IsPlainTable c.args.types.now = search rules in
    verdict_plain _ plain

pub returns : goal.returns
returns c =
    let other : ¬ (IsPlainTable c.args.types.now) = search rules in
    rw c.verdict_for.ensures
    (verdict_under _ c.in_ok-reading.reading c.in_ok-writing.writing other c.in_ok-reading.ensures c.in_ok-writing.ensures)
