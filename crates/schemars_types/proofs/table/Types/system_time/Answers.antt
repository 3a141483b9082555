use Rattle.schemars_types.proofs.table.Types.system_time.Goals as goal

pub returns-clause-ok : goal.returns-clause-ok
returns-clause-ok c = c.register_time.ensures.ok

pub returns-clause-refused : goal.returns-clause-refused
returns-clause-refused c = c.register_time.ensures.refused
