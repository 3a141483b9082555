-- The root is one of the rows.
use Rattle.schemagen_input.proofs.Roots.{is_input, is_no_input, has_root}
use Rattle.schemagen_input.proofs.text.rooted_table.Goals as goal

pub returns-clause-ok : goal.returns-clause-ok
returns-clause-ok c = λ d found.
    let table = c.in-Ok.ensures.ok d found in (
      is_input d c.in-Ok.table.0 c.in-Ok.table.1 c.len.result table.0 c.len.ensures.len c.if-not-is_row.false,
      has_root c.in-Ok.table.0 c.in-Ok.table.1 c.len.result table.1 c.len.ensures.len c.if-not-is_row.false,
    )

pub returns-then-not-is_row-clause-bad_table : goal.returns-then-not-is_row-clause-bad_table
returns-then-not-is_row-clause-bad_table c = λ bad d found.
    let table = c.in-Ok.ensures.ok d found in
    is_no_input d c.in-Ok.table.0 c.in-Ok.table.1 c.len.result table.0 c.len.ensures.len c.if-not-is_row.true
