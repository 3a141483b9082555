-- The value of `anyOf` is changed in its place.
use Rattle.std.proofs.Common.{codes}
use Rattle.schemars_flatten.proofs.Words.{on_ok_weaker, view, on_some, with_empty_object}
use Rattle.schemars_flatten.proofs.Lists.{list_changed}
use Rattle.schemars_flatten.proofs.part.optional.admit_anything.Goals as goal

pub returns-in-Some : goal.returns-in-Some
returns-in-Some c =
    let new = c.change_list.new.choice in
    on_ok_weaker c.change_list.result
    (λ changed. list_changed (codes "anyOf") with_empty_object c.args.schema.now (view c.in-Some.choice.now) (view new)
    (c.get_mut.follows.lender new) c.in-Some.ensures.value changed
    (on_some c.get_mut.result c.in-Some.choice c.in-Some.is (c.get_mut.follows.holds new)))
    c.change_list.ensures
