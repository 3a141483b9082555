-- Those that are left decide.
use Rattle.std.proofs.Common.{◌≡◌, drop}
use Rattle.schemars_readable.specs.Unread.{is_told}
use Rattle.schemars_readable.proofs.unread.is_told.Given as goal

abbrev pub invariant-loop-it : goal.invariant-loop-it
invariant-loop-it l = is_told (drop l.it-index l.unread) l.place l.keyword ≡ is_told l.unread l.place l.keyword
