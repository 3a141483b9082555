-- The token so far, and then the encoding of what is left, is the whole.
use Rattle.std.proofs.Common.{◌≡◌, ◌++◌, drop, string_bytes}
use Rattle.schemars_schema.specs.Encoding.{encoded}
use Rattle.schemars_schema.proofs.encoding.encoded.Given as goal

abbrev pub invariant-loop-byte : goal.invariant-loop-byte
invariant-loop-byte l = string_bytes l.token ++ encoded (drop l.byte-index l.name) ≡ encoded l.name
