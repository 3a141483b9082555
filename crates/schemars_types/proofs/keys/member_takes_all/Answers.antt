-- A member without a type of its own takes texts, which is a key option.
use Rattle.std.proofs.Common.{sym, ap}
use Rattle.schemars_types.proofs.Words.{is_none, payload_of, all_options, member_options}
use Rattle.schemars_types.proofs.keys.member_takes_all.Goals as goal

pub returns-in-Unit : goal.returns-in-Unit
returns-in-Unit c = sym (ap (λ p. is_none (member_options (all_options c.args.types.now) (payload_of p))) c.in-Unit.is)
