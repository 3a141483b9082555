-- For numbers the other type is asked.
use Rattle.std.proofs.Common.{sym, ◌∙◌}
use Rattle.schemars_builders.proofs.keywords.validates.Goals as goal

pub returns-then-eq : goal.returns-then-eq
returns-then-eq c =
    rw (sym c.has_type.ensures ∙ c.if-has_type.false, sym c.eq.ensures ∙ c.if-eq.true) c.has_type-then-eq.ensures
