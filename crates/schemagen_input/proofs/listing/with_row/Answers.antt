-- A row joins the list, unless the value says none.
use Rattle.std.proofs.Common.{◌≡◌, None, subst, rules}
use Rattle.schemagen_input.proofs.Words.{AreBegun, IsRowIn}
use Rattle.schemagen_input.proofs.RowByRow.{without_row}
use Rattle.schemagen_input.proofs.listing.with_row.Goals as goal

pub returns-in_default-row : goal.returns-in_default-row
returns-in_default-row c = λ ds d row begun.
    let none : c.args.row ≡ None = search rules in
    without_row ds d (subst (λ r. IsRowIn r d) none row)

pub returns-in-Ok : goal.returns-in-Ok
returns-in-Ok c = λ ds d row begun.
    c.in-Ok.ensures.ok ds d (subst (λ r. IsRowIn r d) c.in-Some-row.is row) (subst (λ l. AreBegun l ds) c.in-Some.is begun)
