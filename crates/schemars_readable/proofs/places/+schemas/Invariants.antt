-- The schemas so far, and those that are left.
use Rattle.std.proofs.Common.{◌≡◌, ◌++◌, drop}
use Rattle.schemars_readable.proofs.Words.{items_view, members_view, schemas_inside, schemas_listed, schemas_named, standing}
use Rattle.schemars_readable.proofs.places.+schemas.Given as goal

abbrev pub invariant-add_inside-loop-keyword : goal.invariant-add_inside-loop-keyword
invariant-add_inside-loop-keyword l =
    standing l.places.items ++ schemas_inside l.pointer (members_view l.keyword-iterator)
    ≡ standing l.fn.places.items ++ schemas_inside l.pointer (members_view l.keywords.entries)

abbrev pub invariant-add_items-loop-n : goal.invariant-add_items-loop-n
invariant-add_items-loop-n l =
    standing l.places.items ++ schemas_listed l.at l.n (items_view (drop l.n l.items.items))
    ≡ standing l.fn.places.items ++ schemas_listed l.at 0 (items_view l.items.items)

abbrev pub invariant-add_members-loop-name : goal.invariant-add_members-loop-name
invariant-add_members-loop-name l =
    standing l.places.items ++ schemas_named l.at (members_view l.name-iterator)
    ≡ standing l.fn.places.items ++ schemas_named l.at (members_view l.members.entries)
