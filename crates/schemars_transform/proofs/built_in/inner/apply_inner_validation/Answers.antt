use Rattle.schemars_transform.proofs.Words.{view, on_some}
use Rattle.schemars_transform.proofs.Items.{items_changed}
use Rattle.schemars_transform.proofs.built_in.inner.apply_inner_validation.Goals as goal

pub returns-in-Some : goal.returns-in-Some
returns-in-Some g c =
    items_changed g.T.Transform.makes c.args.t.now c.at_schema.new.t c.args.schema.now (view c.in-Some.items.now) (view
    c.at_schema.new.value) (c.get_mut.follows.lender c.at_schema.new.value) c.at_schema.result
    c.in-Some.ensures.value c.at_schema.ensures (on_some c.get_mut.result c.in-Some.items c.in-Some.is (c.get_mut.follows.holds
    c.at_schema.new.value))
