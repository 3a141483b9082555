-- The laws of a token, at the name itself and at the token that is made.
use Rattle.std.proofs.Common.{sym, ap, ◌∙◌}
use Rattle.schemars_schema.proofs.Words.{encoded}
use Rattle.schemars_schema.proofs.Encodings.{all_stay, some_change, token_decodes, token_leads, token_is_one}
use Rattle.schemars_schema.proofs.encoding.encode_ref_name.Goals as goal

pub returns-then-all_stay-clause-encoded : goal.returns-then-all_stay-clause-encoded
returns-then-all_stay-clause-encoded c = sym (all_stay c.args.name.now
    (rw c.as_bytes.ensures.value at (sym c.all_stay.ensures ∙ c.if-all_stay.true)))

pub returns-then-all_stay-clause-decodes : goal.returns-then-all_stay-clause-decodes
returns-then-all_stay-clause-decodes c =
    token_decodes c.args.name.now c.args.name.now c.utf8.name (sym (all_stay c.args.name.now
    (rw c.as_bytes.ensures.value at (sym c.all_stay.ensures ∙ c.if-all_stay.true))))

pub returns-then-all_stay-clause-leads_to_member : goal.returns-then-all_stay-clause-leads_to_member
returns-then-all_stay-clause-leads_to_member c =
    token_leads c.args.name.now c.args.name.now c.utf8.name (sym (all_stay c.args.name.now
    (rw c.as_bytes.ensures.value at (sym c.all_stay.ensures ∙ c.if-all_stay.true))))

pub returns-in_err-token-clause-borrows : goal.returns-in_err-token-clause-borrows
returns-in_err-token-clause-borrows c = λ same.
    absurd (some_change c.args.name.now (rw c.as_bytes.ensures.value at (sym c.all_stay.ensures ∙ c.if-all_stay.false)) same)

pub returns-clause-borrows : goal.returns-clause-borrows
returns-clause-borrows c = λ same.
    some_change c.args.name.now (rw c.as_bytes.ensures.value at (sym c.all_stay.ensures ∙ c.if-all_stay.false)) same

pub returns-clause-decodes : goal.returns-clause-decodes
returns-clause-decodes c = token_decodes c.args.name.now _ c.utf8.name (c.in_ok-token.ensures ∙ ap encoded c.as_bytes-2.ensures.value)

pub returns-clause-one_token : goal.returns-clause-one_token
returns-clause-one_token c = token_is_one c.args.name.now _ (c.in_ok-token.ensures ∙ ap encoded c.as_bytes-2.ensures.value)

pub returns-clause-leads_to_member : goal.returns-clause-leads_to_member
returns-clause-leads_to_member c = token_leads c.args.name.now _ c.utf8.name (c.in_ok-token.ensures ∙ ap encoded c.as_bytes-2.ensures.value)
