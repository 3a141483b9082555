-- The first of the examples is the first item of the list.
use Rattle.std.proofs.Common.{Some, sym, ap, ◌∙◌}
use Rattle.schemars_transform.proofs.Words.{array, view, items_view, view-Array, first_as_example}
use Rattle.schemars_transform.proofs.built_in.single_example.put_first.Goals as goal

pub returns-in_ok-_old : goal.returns-in_ok-_old
returns-in_ok-_old c =
    let items = sym c.into_iter.ensures.rest ∙ c.in-Some.ensures.items in
    let is = ap view c.in-Array.is ∙ (view-Array c.in-Array.list ∙ ap (λ vs. array (items_view vs)) items) in
    c.in_ok-_old.ensures.ok ∙ ap (λ d. first_as_example (Some d) c.args.schema.now) (sym is)
