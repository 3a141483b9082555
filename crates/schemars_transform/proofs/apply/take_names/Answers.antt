-- The members are taken from where they stood.
use Rattle.schemars_transform.proofs.Words.{view, members_view, IfSome_then, on_some}
use Rattle.schemars_transform.proofs.Taken.{taken_there, left_there}
use Rattle.schemars_transform.proofs.apply.take_names.Goals as goal

pub returns-in-Some-clause-some : goal.returns-in-Some-clause-some
returns-in-Some-clause-some c =
    IfSome_then c.take_members.result c.take_members.ensures.some (λ names both. taken_there c.args.key.now c.args.schema.now (view c.in-Some.value.now)
    (view c.take_members.new.value) (c.get_mut.follows.lender c.take_members.new.value) (members_view names.entries)
    c.in-Some.ensures.value both
    (on_some c.get_mut.result c.in-Some.value c.in-Some.is (c.get_mut.follows.holds c.take_members.new.value)))

pub returns-in-Some-clause-none : goal.returns-in-Some-clause-none
returns-in-Some-clause-none c = λ none.
    left_there c.args.key.now c.args.schema.now (view c.in-Some.value.now) (view c.take_members.new.value)
    (c.get_mut.follows.lender c.take_members.new.value) c.in-Some.ensures.value (c.take_members.ensures.none none)
    (on_some c.get_mut.result c.in-Some.value c.in-Some.is (c.get_mut.follows.holds c.take_members.new.value))
