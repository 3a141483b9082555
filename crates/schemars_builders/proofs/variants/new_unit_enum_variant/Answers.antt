-- Two members, put in one after the other.
use Rattle.std.proofs.Common.{ap, ◌∙◌, codes}
use Rattle.schemars_builders.proofs.Words.{string, object, put, members_view}
use Rattle.schemars_builders.proofs.variants.new_unit_enum_variant.Goals as goal

pub returns : goal.returns
returns c =
    let type = string (codes "string") in
    let first =
    c.in_ok-put.ensures.ok
    ∙ (ap (λ d. put (codes "type") d (members_view c.new-members.result.entries)) c.in_ok-text.ensures
    ∙ ap (λ es. put (codes "type") type (members_view es)) c.new-members.ensures.empty) in
    let second =
    c.in_ok-put-2.ensures.ok
    ∙ (ap (λ d. put (codes "const") d (members_view c.put.new.map.entries)) c.in_ok-name.ensures
    ∙ ap (put (codes "const") (string c.args.variant.now)) first) in
    c.from.ensures ∙ ap object second
