use Rattle.std.proofs.Common.{codes, refl}
use Rattle.schemars_laws.proofs.Words.{differ}
use Rattle.schemars_laws.proofs.Drafts.{draft2019_09-law}
use Rattle.schemars_laws.proofs.built_in.draft2019_09.Goals as goal

pub returns : goal.returns
returns c = (
  draft2019_09-law (codes "$defs") refl (differ (codes "$defs") (codes "properties") refl),
  draft2019_09-law (codes "definitions") refl (differ (codes "definitions") (codes "properties") refl),
)
