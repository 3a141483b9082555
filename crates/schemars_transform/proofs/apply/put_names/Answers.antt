-- The object goes where a value stood.
use Rattle.schemars_transform.proofs.Words.{view, members_view, view-Object, on_some}
use Rattle.serde_json.specs.declared.value.Value.TheVariants.{Object}
use Rattle.schemars_transform.proofs.Taken.{put_there, put_nowhere}
use Rattle.schemars_transform.proofs.apply.put_names.Goals as goal

pub returns-in-Some : goal.returns-in-Some
returns-in-Some c = λ ms was.
    put_there c.args.key.now c.args.schema.now (view (Object c.args.names)) (c.get_mut.follows.lender (Object c.args.names))
    (members_view c.args.names.entries) ms (view-Object c.args.names)
    (on_some c.get_mut.result c.in-Some.value c.in-Some.is (c.get_mut.follows.holds (Object c.args.names))) was

pub returns-in_default : goal.returns-in_default
returns-in_default c = λ ms was.
    put_nowhere c.args.key.now c.args.schema.now c.get_mut.follows.lender-at-none (members_view c.args.names.entries) ms
    c.in_default.ensures.value c.get_mut.follows.holds-at-none was
