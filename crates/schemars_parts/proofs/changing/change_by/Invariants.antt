-- What is left to do makes of the schema so far what all transforms make of the schema at first.
use Rattle.std.proofs.Common.{◌≡◌, drop}
use Rattle.schemars_parts.proofs.Words.{IfSome, made_by, needs_of, assembled_view}
use Rattle.schemars_parts.proofs.changing.change_by.Given as goal

abbrev pub invariant-loop-transform : goal.invariant-loop-transform
invariant-loop-transform l = record {
  made : made_by (drop l.transform-index l.transforms) (assembled_view l.schema) ≡ made_by l.transforms (assembled_view l.fn.schema);
  known : IfSome l.known (λ n. n ≡ needs_of (assembled_view l.schema));
}
