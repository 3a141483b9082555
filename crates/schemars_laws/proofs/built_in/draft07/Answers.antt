use Rattle.std.proofs.Common.{codes, refl}
use Rattle.schemars_laws.proofs.Words.{differ}
use Rattle.schemars_laws.proofs.Drafts.{draft07-law}
use Rattle.schemars_laws.proofs.built_in.draft07.Goals as goal

pub returns : goal.returns
returns c = (
  draft07-law (codes "$defs") refl (differ (codes "$defs") (codes "properties") refl),
  draft07-law (codes "definitions") refl (differ (codes "definitions") (codes "properties") refl),
)
