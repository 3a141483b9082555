-- The names that stay are those that are not null.
use Rattle.std.proofs.Common.{ap, ◌∙◌, not, rules}
use Rattle.schemars_transform.proofs.Words.{filter_same, view, items_view, is_null_name}
use Rattle.schemars_transform.proofs.Names.{without_null-filter}
use Rattle.schemars_transform.proofs.built_in.nullable.without_null.Goals as goal

pub returns : goal.returns
returns c =
    ap items_view (filter_same _ (λ v. not (is_null_name (view v))) _ (λ x b f' k. search rules) _ _ c.retain.ensures.filtered) ∙
    without_null-filter c.args.names.items
