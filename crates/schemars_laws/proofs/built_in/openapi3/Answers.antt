use Rattle.schemars_laws.proofs.Chain.{openapi3-law}
use Rattle.schemars_laws.proofs.built_in.openapi3.Goals as goal

pub returns : goal.returns
returns c = openapi3-law
