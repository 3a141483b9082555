-- Of the part at the place nothing is kept any more.
use Rattle.std.proofs.Common.{ap, set}
use Rattle.schemars_validate.specs.declared.memo.Memo.{Memo, out-Memo}
use Rattle.schemars_validate.proofs.Keeping.{part_emptied}
use Rattle.schemars_validate.proofs.memo.Memo.take.Goals as goal

pub returns-then-place-len-clause-keeps : goal.returns-then-place-len-clause-keeps
returns-then-place-len-clause-keeps c =
    part_emptied c.args.self.now c.new.result _ c.args.place c.new.ensures
    (ap (λ (e : Memo). set (out-Memo c.args.self.now).parts.items c.args.place e) c.replace.ensures.after)
