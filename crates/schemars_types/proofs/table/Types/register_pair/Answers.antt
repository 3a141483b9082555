use Rattle.schemars_types.proofs.Words.{err_from_is_err_and, shape_of}
use Rattle.schemars_types.proofs.Registered.{unknown_among}
use Rattle.schemars_types.proofs.table.Types.register_pair.Goals as goal

pub returns-in-Some-clause-refused : goal.returns-in-Some-clause-refused
returns-in-Some-clause-refused c =
    unknown_among c.args.self.now (shape_of c.args.shape) _ c.len.result _ c.requires c.len.ensures.len c.in-Some.ensures

pub returns-in_err-id-clause-refused : goal.returns-in_err-id-clause-refused
returns-in_err-id-clause-refused c =
    let p = err_from_is_err_and c.from_residual.result c.from_residual.ensures.1 in
    rw (p.1, p.2)
    (unknown_among c.args.self.now (shape_of c.args.shape) _ c.len.result _ c.requires c.len.ensures.len c.in_default.ensures)

pub register_row-requires : goal.register_row-requires
register_row-requires c =
    unknown_among c.args.self.now (shape_of c.args.shape) _ c.len.result _ c.requires c.len.ensures.len c.in_default.ensures

pub returns-clause-ok : goal.returns-clause-ok
returns-clause-ok c = rw (c.in_ok-id.ensures.id, c.in_ok-id.ensures.name) at c.register_row.ensures.ok

pub returns-clause-refused : goal.returns-clause-refused
returns-clause-refused c = rw c.in_ok-id.ensures.id at c.register_row.ensures.refused
