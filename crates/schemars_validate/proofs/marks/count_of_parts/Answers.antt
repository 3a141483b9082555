-- A list has as many parts as items, and an object as members.
use Rattle.std.proofs.Common.{arith}
use Rattle.schemars_validate.proofs.Words.{view}
use Rattle.schemars_validate.proofs.Marking.{list_parts, object_parts, no_parts}
use Rattle.schemars_validate.proofs.marks.count_of_parts.Goals as goal

pub returns-in-Some : goal.returns-in-Some
returns-in-Some c =
    let counted = list_parts (view c.args.value.now) c.in-Some.items.now.items c.in-Some.ensures in
    omega (arith, counted, c.len.ensures, c.in-Some.items.now.ok.0)

pub returns-in-Some-as_object : goal.returns-in-Some-as_object
returns-in-Some-as_object c =
    let counted = object_parts (view c.args.value.now) c.in-Some-as_object.members.now.entries c.in-Some-as_object.ensures in
    omega (arith, counted, c.len-in-Some-as_object.ensures)

pub returns-in-None : goal.returns-in-None
returns-in-None c = no_parts (view c.args.value.now) c.in_default.ensures c.in-None.ensures
