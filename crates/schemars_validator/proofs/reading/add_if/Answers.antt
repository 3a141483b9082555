-- A text that is added is in the set, and no other one is new.
use Rattle.std.proofs.Common.{rules, ◌≡◌, ◌∙◌, ◌&&◌, ◌||◌, true, bytes_eq, string_bytes, ap, sym}
use Rattle.schemars_validator.proofs.Words.{list_any, put_text}
use Rattle.schemars_validator.proofs.reading.add_if.Goals as goal

pub returns-in_ok-insert : goal.returns-in_ok-insert
returns-in_ok-insert c = λ t.
    let k = c.in_ok-from_str.field-0 in
    let same : string_bytes k ≡ c.args.text.now = search rules in
    let wanted : c.args.wanted ≡ true = search rules in
    put_text c.args.found.now c.insert.new.self k t c.in_ok-insert.field-0 (search rules) (search rules)
    ∙ ap (λ u. list_any (λ x. bytes_eq t (string_bytes x)) c.args.found.now.keys || (bytes_eq t u && true)) same
    ∙ ap (λ w. list_any (λ x. bytes_eq t (string_bytes x)) c.args.found.now.keys || (bytes_eq t c.args.text.now && w)) (sym wanted)
