use Rattle.std.proofs.Common.{◌∙◌, ◌++◌, ap, map, List}
use Rattle.schemars_belonging.proofs.Words.{on_ok_weaker, Text, fields_of, effective, flattened_in, Given, given_of}
use Rattle.schemars_belonging.proofs.FieldMembers.{names_given}
use Rattle.schemars_belonging.proofs.claims.claim_fields.Goals as goal

pub returns : goal.returns
returns c =
    on_ok_weaker c.claim_names.result
    (λ h. h ∙ ap (λ (ts : List Text). map (λ k. k.now) c.args.claimed.now.items ++ ts)
    (ap (λ (gs : List Given). map (λ g. g.name) gs) (ap (λ xs. map given_of xs) c.deref.ensures.value ∙ c.in_ok-list.ensures)
    ∙ names_given c.args.contract (effective (flattened_in c.args.types.now) (fields_of c.args.fields.now))))
    c.claim_names.ensures
