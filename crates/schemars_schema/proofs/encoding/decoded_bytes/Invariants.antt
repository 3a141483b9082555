-- The bytes so far, and then what is left decodes to, are the whole.
use Rattle.std.proofs.Common.{◌≡◌, ◌++◌, length}
use Rattle.schemars_schema.specs.Encoding.{percent_decoded_bytes}
use Rattle.schemars_schema.proofs.encoding.decoded_bytes.Given as goal

abbrev pub invariant-loop-rest : goal.invariant-loop-rest
invariant-loop-rest l = l.bytes.items ++ percent_decoded_bytes l.rest ≡ percent_decoded_bytes l.text

abbrev pub decreases-loop-rest : goal.decreases-loop-rest
decreases-loop-rest l = length l.rest
