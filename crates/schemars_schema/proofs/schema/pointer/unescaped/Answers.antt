-- What a `~` and the byte after it stand for.
use Rattle.std.proofs.Common.{[], ◌∷◌, ◌++◌, Some, None, string_bytes, sym, ap, ◌∙◌, arith}
use Rattle.schemars_schema.proofs.Words.{split_parts, strip_prefix_char, encode, unescape, unescape_plain}
use Rattle.schemars_schema.proofs.Pointers.{unescape_over, unescape_tilde, unescape_slash, unescape_alone, utf8_after, key_goes_on}
use Rattle.schemars_schema.proofs.schema.pointer.unescaped.Goals as goal

pub loop-before-preserved-in-Some-strip_prefix : goal.loop-before-preserved-in-Some-strip_prefix
unfolding encode
loop-before-preserved-in-Some-strip_prefix c =
    let before = c.in-Some.before.now in
    let after = c.in-Some.after.now in
    let more = c.in-Some-strip_prefix.more.now in
    let parts = split_parts 126 c.loop-before.rest.now (Some (c.in-Some.before, c.in-Some.after)) c.in-Some.ensures.cases (omega arith) in
    let next = strip_prefix_char 48 after (Some c.in-Some-strip_prefix.more) c.in-Some-strip_prefix.ensures.cases (omega arith) in (
      utf8_after [] more 48 (omega arith) (rw next at (utf8_after before after 126 (omega arith)
          (rw (parts.0) at c.loop-before.invariant.0))),
      key_goes_on (string_bytes c.loop-before.key) before (126 ∷ []) (unescape more) (unescape c.loop-before.rest.now)
          (unescape c.args.token.now) _ _ c.in_ok-push_str.ensures.bytes
          c.in_ok-push.ensures.bytes (ap unescape parts.0 ∙ unescape_over before after parts.1
          ∙ rw next (ap (λ l. before ++ l) (unescape_tilde more))) c.loop-before.invariant.1,
    )

pub loop-before-preserved-in-Some-strip_prefix-2 : goal.loop-before-preserved-in-Some-strip_prefix-2
unfolding encode
loop-before-preserved-in-Some-strip_prefix-2 c =
    let before = c.in-Some.before.now in
    let after = c.in-Some.after.now in
    let more = c.in-Some-strip_prefix-2.more.now in
    let parts = split_parts 126 c.loop-before.rest.now (Some (c.in-Some.before, c.in-Some.after)) c.in-Some.ensures.cases (omega arith) in
    let next = strip_prefix_char 49 after (Some c.in-Some-strip_prefix-2.more) c.in-Some-strip_prefix-2.ensures.cases (omega arith) in (
      utf8_after [] more 49 (omega arith) (rw next at (utf8_after before after 126 (omega arith)
          (rw (parts.0) at c.loop-before.invariant.0))),
      key_goes_on (string_bytes c.loop-before.key) before (47 ∷ []) (unescape more) (unescape c.loop-before.rest.now)
          (unescape c.args.token.now) _ _ c.in_ok-push_str.ensures.bytes
          c.in_ok-push-2.ensures.bytes (ap unescape parts.0 ∙ unescape_over before after parts.1
          ∙ rw next (ap (λ l. before ++ l) (unescape_slash more))) c.loop-before.invariant.1,
    )

pub loop-before-preserved : goal.loop-before-preserved
unfolding encode
loop-before-preserved c =
    let before = c.in-Some.before.now in
    let after = c.in-Some.after.now in
    let parts = split_parts 126 c.loop-before.rest.now (Some (c.in-Some.before, c.in-Some.after)) c.in-Some.ensures.cases (omega arith) in
    let no_tilde = strip_prefix_char 48 after None c.in_default-strip_prefix.ensures.cases (omega arith) in
    let no_slash = strip_prefix_char 49 after None c.in_default-strip_prefix-2.ensures.cases (omega arith) in (
      utf8_after before after 126 (omega arith) (rw (parts.0) at c.loop-before.invariant.0),
      key_goes_on (string_bytes c.loop-before.key) before (126 ∷ []) (unescape after) (unescape c.loop-before.rest.now)
          (unescape c.args.token.now) _ _ c.in_ok-push_str.ensures.bytes
          c.in_ok-push-3.ensures.bytes (ap unescape parts.0 ∙ unescape_over before after parts.1
          ∙ ap (λ l. before ++ l) (unescape_alone after no_tilde no_slash)) c.loop-before.invariant.1,
    )

pub returns : goal.returns
returns c =
    let none = split_parts 126 c.loop-before.rest.now None c.in_default.ensures.cases (omega arith) in
    c.in_ok-push_str-2.ensures.bytes ∙ ap (λ l. string_bytes c.loop-before.key ++ l) (sym (unescape_plain c.loop-before.rest.now none))
    ∙ c.loop-before.invariant.1
