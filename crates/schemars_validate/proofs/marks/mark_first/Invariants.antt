-- So many are marked.
use Rattle.std.proofs.Common.{◌≡◌}
use Rattle.schemars_validate.specs.Judged.{first_marked}
use Rattle.schemars_validate.proofs.marks.mark_first.Given as goal

abbrev pub invariant-loop-place : goal.invariant-loop-place
invariant-loop-place l = l.marks.items ≡ first_marked l.place l.fn.marks.items
