use Rattle.std.proofs.Common.{ap, ◌∙◌, option_map, sym}
use Rattle.schemars_transform.proofs.Words.{view}
use Rattle.schemars_transform.proofs.Moves.{both_moved}
use Rattle.schemars_transform.proofs.built_in.prefix_items.ReplacePrefixItemsChange.change.Goals as goal

pub returns-in_ok-_none : goal.returns-in_ok-_none
returns-in_ok-_none c =
    both_moved c.args.schema.now (view c.in-Some.prefix) (view c.in-Some-2.items) c.remove.new.self c.put.new.schema
    c.put-in-Some-2.new.schema c.in-Some.ensures.value c.in-Some.ensures.removed
    c.in_ok-items.ensures.ok (ap (option_map view) (sym c.in-Some-2.is) ∙ c.in_ok-items.ensures.old) c.in_ok-_none.ensures.ok
