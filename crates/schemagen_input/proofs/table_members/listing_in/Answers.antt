-- The rows of a list are those that it says as a member.
use Rattle.std.proofs.Common.{Some, map, sym}
use Rattle.schemagen_input.proofs.Words.{IfOk-weaker, data_of}
use Rattle.schemagen_input.proofs.TableMembers.{list_in}
use Rattle.schemagen_input.proofs.table_members.listing_in.Goals as goal

pub returns-in-Some : goal.returns-in-Some
returns-in-Some c =
    let is = sym c.in-Some.ensures in
    IfOk-weaker c.list_rows.result _ _
    (λ listing begun. list_in listing (Some (data_of c.args.value.now)) (map data_of c.in-Some.rows.now.items) is (rw (sym c.deref.ensures.value) begun))
    c.list_rows.ensures
