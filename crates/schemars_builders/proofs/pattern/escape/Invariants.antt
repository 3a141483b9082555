-- The pattern so far is that of the characters so far.
use Rattle.std.proofs.Common.{◌≡◌, string_bytes, encode_utf8_all}
use Rattle.schemars_builders.specs.Pattern.{escaped}
use Rattle.schemars_builders.proofs.pattern.escape.Given as goal

abbrev pub invariant-loop-character : goal.invariant-loop-character
invariant-loop-character l = string_bytes l.pattern ≡ escaped (encode_utf8_all l.yielded)
