use Rattle.std.proofs.Common.{rules}
use Rattle.schemars_schema.proofs.encoding.is_hex_digit.Goals as goal

pub returns : goal.returns
returns c = search rules
