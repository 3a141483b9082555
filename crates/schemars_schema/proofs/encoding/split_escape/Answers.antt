-- An escape at the front is one byte.
use Rattle.std.proofs.Common.{arith, sym}
use Rattle.schemars_schema.proofs.Encodings.{escape_first}
use Rattle.schemars_schema.proofs.encoding.split_escape.Goals as goal

pub returns-in-37-clause-splits : goal.returns-in-37-clause-splits
returns-in-37-clause-splits c =
    rw (c.hex_value.ensures.value, c.hex_value-in-37.ensures.value)
    (escape_first c.args.bytes.now (omega arith) (omega arith) (sym c.if-is_hex_digit.ensures) (sym c.if-is_hex_digit-2.ensures))
