use Rattle.schemars_types.proofs.table.texts.texts_around.Goals as goal

pub returns-clause-id : goal.returns-clause-id
returns-clause-id c = rw c.id_at-id.ensures at c.in_ok-id.ensures.ok

pub returns-clause-name : goal.returns-clause-name
returns-clause-name c = rw c.name_at-name.ensures at c.in_ok-name.ensures.ok
