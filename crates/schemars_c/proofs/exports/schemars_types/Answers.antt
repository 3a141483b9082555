-- The number of a refusal is that of no text.
use Rattle.std.proofs.Common.{rules, refl}
use Rattle.schemars_c.proofs.exports.schemars_types.Goals as goal

pub returns-in-Err-clause-handed : goal.returns-in-Err-clause-handed
returns-in-Err-clause-handed c = record {
  done = search rules;
  no_room = search rules;
  refused = λ _ _. ((refl, refl), c.in-Err.ensures.refused);
}
