-- The value moves from the one key to the other, and then the names are added.
use Rattle.std.proofs.Common.{ap, ◌∙◌, codes}
use Rattle.schemars_transform.proofs.Words.{on_ok_weaker, view, inserted, removed, with_properties, closed_by}
use Rattle.schemars_transform.proofs.built_in.unevaluated.ReplaceUnevaluatedPropertiesChange.change.Goals as goal

pub returns : goal.returns
returns c =
    on_ok_weaker c.add_properties.result
    (λ h. h
    ∙ (ap with_properties c.in_ok-_old.ensures.ok
    ∙ (ap (λ s. with_properties (inserted (codes "additionalProperties") (view c.in-Some.rest) s)) c.in-Some.ensures.removed
    ∙ ap (λ o. closed_by o (removed (codes "unevaluatedProperties") c.args.schema.now)) c.in-Some.ensures.value)))
    c.add_properties.ensures
