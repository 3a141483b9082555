-- The fields that are left decide.
use Rattle.std.proofs.Common.{drop, map}
use Rattle.schemars_plain.proofs.Words.{◌↔◌, field_of, IsNoName}
use Rattle.schemars_plain.proofs.names.is_no_name.Given as goal

abbrev pub invariant-loop-field : goal.invariant-loop-field
invariant-loop-field l =
    IsNoName l.name (map (λ f. field_of f.now) (drop l.field-index l.fields)) ↔ IsNoName l.name (map (λ f. field_of f.now) l.fields)
