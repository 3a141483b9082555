-- The type, without null, goes back where it stood.
use Rattle.schemars_transform.proofs.Words.{view, on_some}
use Rattle.schemars_transform.proofs.Names.{type_changed}
use Rattle.schemars_transform.proofs.built_in.nullable.take_null_out.Goals as goal

pub returns-in-Some : goal.returns-in-Some
returns-in-Some c =
    type_changed c.args.schema.now (view c.in-Some.types.now) (view c.remove_null.new.types) (c.get_mut.follows.lender
    c.remove_null.new.types) c.in-Some.ensures.value c.remove_null.ensures
    (on_some c.get_mut.result c.in-Some.types c.in-Some.is (c.get_mut.follows.holds c.remove_null.new.types))
