-- A value whose member is no list of rows is no table.
use Rattle.std.proofs.Common.{◌≡◌, None, codes, subst, rules}
use Rattle.schemagen_input.proofs.Words.{get, IsListIn}
use Rattle.schemagen_input.proofs.TableMembers.{has_no_list}
use Rattle.schemagen_input.proofs.table_members.TableMembers.into_table.Goals as goal

pub returns-in_default-listing-clause-bad : goal.returns-in_default-listing-clause-bad
returns-in_default-listing-clause-bad c = λ _ d found.
    let none : c.args.self.listing ≡ None = search rules in
    has_no_list d (subst (λ o. IsListIn o (get (codes "types") d)) none found.listing)
