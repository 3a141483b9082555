-- The one value of the list is that of the key taken out.
use Rattle.std.proofs.Common.{Some, ap, ◌∙◌, codes}
use Rattle.schemars_transform.proofs.Words.{array, view, items_view, view-Array, inserted, removed, value_as_enum}
use Rattle.schemars_transform.proofs.built_in.const_value.ReplaceConstValueChange.change.Goals as goal

pub returns-in_ok-_old : goal.returns-in_ok-_old
returns-in_ok-_old c =
    let one = view-Array c.in_ok-values.values ∙ ap (λ xs. array (items_view xs)) c.in_ok-values.ensures.items in
    c.in_ok-_old.ensures.ok ∙ (ap (λ d. inserted (codes "enum") d c.remove.new.self) one
    ∙ (ap (value_as_enum (Some (view c.in-Some.value))) c.in-Some.ensures.removed
    ∙ ap (λ o. value_as_enum o (removed (codes "const") c.args.schema.now)) c.in-Some.ensures.value))
