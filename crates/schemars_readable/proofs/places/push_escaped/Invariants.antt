-- The characters so far are added.
use Rattle.std.proofs.Common.{◌≡◌, ◌++◌, string_bytes}
use Rattle.schemars_readable.specs.Standing.{escaped_characters}
use Rattle.schemars_readable.proofs.places.push_escaped.Given as goal

abbrev pub invariant-loop-c : goal.invariant-loop-c
invariant-loop-c l = string_bytes l.whole ≡ string_bytes l.fn.whole ++ escaped_characters l.yielded
