-- A text without an escape is its own decoding, and no other is.
use Rattle.std.proofs.Common.{sym, ap, ◌∙◌, true≢false}
use Rattle.schemars_schema.proofs.Words.{IsUtf8-string_bytes, percent_decoded_bytes}
use Rattle.schemars_schema.proofs.Encodings.{percent_decoded-plain, percent_decoded-changed, decoded_text, decoded_none}
use Rattle.schemars_schema.proofs.encoding.percent_decode.Goals as goal

pub returns-then-not-has_escape-clause-decoded : goal.returns-then-not-has_escape-clause-decoded
returns-then-not-has_escape-clause-decoded c =
    sym (percent_decoded-plain c.args.text.now c.utf8.text (rw c.as_bytes.ensures.value at
    (sym c.has_escape.ensures ∙ c.if-not-has_escape.true)))

pub returns-in_err-bytes-clause-borrows : goal.returns-in_err-bytes-clause-borrows
returns-in_err-bytes-clause-borrows c = λ same.
    absurd (percent_decoded-changed c.args.text.now (rw c.as_bytes.ensures.value at
    (sym c.has_escape.ensures ∙ c.if-not-has_escape.false)) same)

pub returns-in-Ok-clause-decoded : goal.returns-in-Ok-clause-decoded
returns-in-Ok-clause-decoded c =
    let bytes = c.in_ok-bytes.ensures ∙ ap percent_decoded_bytes c.as_bytes-2.ensures.value in
    decoded_text c.args.text.now _ (ap (λ v. v.items) c.in-Ok.ensures.ok ∙ bytes) (IsUtf8-string_bytes c.in-Ok.decoded)

pub returns-in-Ok-clause-borrows : goal.returns-in-Ok-clause-borrows
returns-in-Ok-clause-borrows c = λ same.
    percent_decoded-changed c.args.text.now (rw c.as_bytes.ensures.value at (sym c.has_escape.ensures ∙ c.if-not-has_escape.false)) same

pub returns-clause-decoded : goal.returns-clause-decoded
returns-clause-decoded c =
    decoded_none c.args.text.now c.in_ok-bytes.bytes.items (c.in_ok-bytes.ensures ∙ ap percent_decoded_bytes c.as_bytes-2.ensures.value)
    (λ text. true≢false (sym (c.in-Err.ensures.succeeds text)))

pub returns-clause-borrows : goal.returns-clause-borrows
returns-clause-borrows c = λ same.
    percent_decoded-changed c.args.text.now (rw c.as_bytes.ensures.value at (sym c.has_escape.ensures ∙ c.if-not-has_escape.false)) same
