-- Lines whose last byte is a newline are whole.
use Rattle.std.proofs.Common.{rules, string_bytes}
use Rattle.schemalint_run.proofs.Ended.{ended}
use Rattle.schemalint_run.proofs.judging.ended.Goals as goal

pub returns-then-ends_with : goal.returns-then-ends_with
returns-then-ends_with c = ended (string_bytes c.args.lines) (search rules)
