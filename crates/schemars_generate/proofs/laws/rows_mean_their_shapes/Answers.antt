use Rattle.schemars_meaning.proofs.Equation.{means_by_shape}
use Rattle.schemars_generate.proofs.laws.rows_mean_their_shapes.Goals as goal

pub returns : goal.returns
returns c = λ rows checked. means_by_shape rows checked
