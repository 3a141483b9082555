-- What was put in is found again.
use Rattle.std.proofs.Common.{◌≡◌, if◌then◌else◌, Some, None, IfOk, rules}
use Rattle.schemars_schema.proofs.Words.{object, members_view, placed_at}
use Rattle.schemars_schema.proofs.PlacedFound.{found_there}
use Rattle.schemars_schema.proofs.schema.Schema.merge_at.Goals as goal

pub returns-in-Some-clause-found : goal.returns-in-Some-clause-found
returns-in-Some-clause-found c =
    let new = members_view c.args.members.entries in
    let after = object (members_view c.place.new.into.entries) in
    let merged : IfOk c.place.result (λ done. placed_at c.args.pointer.now new c.args.self.now ≡ (if done then Some after else None)) =
    search rules in
    found_there c.place.result c.args.pointer.now new c.args.self.now after merged
