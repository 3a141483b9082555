-- The key so far, and then what is left unescapes to, is the whole.
use Rattle.std.proofs.Common.{◌≡◌, ◌++◌, length, string_bytes}
use Rattle.schemars_schema.proofs.Words.{shadow, Utf8, unescape}
use Rattle.schemars_schema.proofs.schema.pointer.unescaped.Given as goal

abbrev pub invariant-loop-before : goal.invariant-loop-before
invariant-loop-before l = shadow (Utf8 l.rest) × (string_bytes l.key ++ unescape l.rest ≡ unescape l.token)

abbrev pub decreases-loop-before : goal.decreases-loop-before
decreases-loop-before l = length l.rest
