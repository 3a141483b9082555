-- Equal rows are the same row.
use Rattle.std.proofs.Common.{◌≡◌, sym, ◌∙◌, rules}
use Rattle.schemars_types.proofs.Words.{begins_with}
use Rattle.schemars_types.proofs.Extensions.{begins-same, begins-first}
use Rattle.schemars_types.proofs.table.Types.begins_with.Goals as goal

-- what the slots give is what the tables give
value : (c : goal.After-slots_begin_with) → c.slots_begin_with.result ≡ begins_with c.args.self.now c.args.first.now
value c = search rules

pub returns-clause-same : goal.returns-clause-same
returns-clause-same c = λ t. begins-same c.args.self.now c.args.first.now (sym (value c) ∙ t)

pub returns-clause-begins : goal.returns-clause-begins
returns-clause-begins c = λ plain is. value c ∙ begins-first c.args.self.now c.args.first.now plain is
