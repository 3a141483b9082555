-- One of the two names.
use Rattle.std.specs.Prelude.{bytes_eq, codes}
use Rattle.schemars_flatten.proofs.Parts.{first_listed, second_listed}
use Rattle.schemars_flatten.proofs.union.is_joined.Goals as goal

pub returns-then-eq : goal.returns-then-eq
returns-then-eq c =
    first_listed c.eq.result (bytes_eq c.args.key.now (codes "required"))
    (bytes_eq c.args.key.now (codes "allOf")) c.eq.ensures
    c.if-eq.true

pub returns-else-eq : goal.returns-else-eq
returns-else-eq c =
    second_listed c.eq-else-eq.result c.eq.result (bytes_eq c.args.key.now (codes "required"))
    (bytes_eq c.args.key.now (codes "allOf"))
    c.eq.ensures c.if-eq.false c.eq-else-eq.ensures
