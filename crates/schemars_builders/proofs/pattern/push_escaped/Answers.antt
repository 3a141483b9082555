-- A special character is a backslash and itself, and another is itself.
use Rattle.std.proofs.Common.{◌≡◌, ◌++◌, [], ◌∷◌, string_bytes, append_assoc, arith, sym, ap, ◌∙◌}
use Rattle.schemars_builders.proofs.Words.{encode_ascii, encode_utf8, escaped}
use Rattle.schemars_builders.proofs.Escapes.{escaped-special, escaped-plain, pushed}
use Rattle.schemars_builders.proofs.pattern.push_escaped.Goals as goal
use Rattle.schemars_builders.proofs.pattern.push_escaped.Goals.{then-is_special+in_ok-push, else-is_special}

pub returns : goal.returns
returns c =
    let old = string_bytes c.args.pattern.now in
    let character = encode_utf8 c.args.character in
    elim c.if-is_special.branch [
      | then-is_special+in_ok-push w ↦
          let is : escaped character ≡ 92 ∷ character =
          escaped-special c.args.character (sym c.is_special.ensures ∙ w.if-is_special.true) in
          let before : string_bytes c.if-is_special.pattern ≡ old ++ 92 ∷ [] =
          ap string_bytes w.pattern-is
          ∙ (w.in_ok-push.ensures.bytes ∙ ap (λ l. old ++ l) (encode_ascii 92 (omega arith))) in
          pushed c.push-2.result _ (string_bytes c.if-is_special.pattern) character _ c.push-2.ensures.bytes
          (ap (λ l. l ++ character) before ∙ (append_assoc old (92 ∷ []) character ∙ ap (λ l. old ++ l) (sym is)))
      | else-is_special w ↦
          let is : escaped character ≡ character =
          escaped-plain c.args.character (sym c.is_special.ensures ∙ w.if-is_special.false) in
          pushed c.push-2.result _ (string_bytes c.if-is_special.pattern) character _ c.push-2.ensures.bytes
          (ap (λ p. string_bytes p ++ character) w.pattern-is ∙ ap (λ l. old ++ l) (sym is))
    ]
