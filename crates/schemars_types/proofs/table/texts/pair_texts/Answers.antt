use Rattle.schemars_types.proofs.table.texts.pair_texts.Goals as goal

pub returns-clause-id : goal.returns-clause-id
returns-clause-id c = rw (c.id_at-first_id.ensures, c.id_at-second_id.ensures) at c.in_ok-id.ensures.ok

pub returns-clause-name : goal.returns-clause-name
returns-clause-name c = rw (c.name_at-first_name.ensures, c.name_at-second_name.ensures) at c.in_ok-name.ensures.ok
