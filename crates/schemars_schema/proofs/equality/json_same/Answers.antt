-- Sameness of JSON values is identity, and a float is the same as nothing.
use Rattle.std.proofs.Common.{sym, ap, ◌∙◌}
use Rattle.schemars_schema.proofs.Words.{view, json_same}
use Rattle.schemars_schema.proofs.Equalities.{json_same-is, json_same-refl, json_same-float, json_same-float_right}
use Rattle.schemars_schema.proofs.equality.json_same.Goals as goal

pub returns-clause-same : goal.returns-clause-same
returns-clause-same c = λ json. (
  λ t. json_same-is (view c.args.a.now) (view c.args.b.now) (sym c.are_alike.ensures ∙ t),
  λ e. c.are_alike.ensures ∙ ap (json_same (view c.args.a.now)) (sym e) ∙ json_same-refl (view c.args.a.now) json,
)

pub returns-clause-float : goal.returns-clause-float
returns-clause-float c = λ x is. c.are_alike.ensures ∙ rw is (json_same-float x (view c.args.b.now))

pub returns-clause-other_float : goal.returns-clause-other_float
returns-clause-other_float c = λ x is. c.are_alike.ensures ∙ rw is (json_same-float_right x (view c.args.a.now))
