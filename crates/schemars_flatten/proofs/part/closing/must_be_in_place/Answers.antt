-- Where there may be a reference, nothing is removed.
use Rattle.std.proofs.Common.{sym, ◌∙◌}
use Rattle.schemars_flatten.proofs.Unchanged.{reference_unchanged}
use Rattle.schemars_flatten.proofs.part.closing.must_be_in_place.Goals as goal

pub returns-clause-unchanged : goal.returns-clause-unchanged
returns-clause-unchanged c =
    λ passes. reference_unchanged c.args.inline c.args.schema.now (sym c.asks_for_place.ensures ∙ passes)
