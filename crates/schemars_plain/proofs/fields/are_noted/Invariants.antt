-- The fields that are left decide.
use Rattle.std.proofs.Common.{drop, map}
use Rattle.schemars_plain.proofs.Words.{◌↔◌, field_of, AreNoted}
use Rattle.schemars_plain.proofs.fields.are_noted.Given as goal

abbrev pub invariant-loop-field : goal.invariant-loop-field
invariant-loop-field l =
    AreNoted (map (λ f. field_of f.now) (drop l.field-index l.fields)) ↔ AreNoted (map (λ f. field_of f.now) l.fields)
