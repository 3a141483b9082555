-- A text says itself.
use Rattle.std.proofs.Common.{◌≡◌, ◌≢◌, ℕ, List, [], ◌∷◌, Bor, ap, sym, ◌∙◌, arith, rules}
use Rattle.json.specs.Token as spec
use Rattle.schemagen_input.proofs.Words.{token_of, string, data_of, nothing_read, string_read, read_at}
use Rattle.json.specs.declared.token.Token.TheVariants.{String}
use Rattle.schemagen_input.proofs.OtherKinds.{not_string}
use Rattle.schemagen_input.proofs.tokens.single.read_text.Goals as goal

pub returns-in_err-token-clause-not_json : goal.returns-in_err-token-clause-not_json
returns-in_err-token-clause-not_json c = λ is. nothing_read c.args.depth c.args.reader.now [] (grind arith)

pub returns-in_ok-from_str-in-String-clause-ok : goal.returns-in_ok-from_str-in-String-clause-ok
returns-in_ok-from_str-in-String-clause-ok c =
    let text = c.in-String.text.now in
    let first : c.args.reader.now ≡ spec.string text ∷ c.next.new.self = grind (arith, c.in-String.is) in
    (string text, string_read c.args.depth c.args.reader.now c.next.new.self text first, search rules)

pub returns-in_ok-read_value_from-in_default-clause-ok : goal.returns-in_ok-read_value_from-in_default-clause-ok
returns-in_ok-read_value_from-in_default-clause-ok c =
    let t = c.in_ok-token.token in
    let rest = c.next.new.self in
    let d = data_of c.in_ok-read_value_from-in_default.field-0 in
    let is = c.in_ok-read_value_from-in_default.ensures.ok in
    let first : c.args.reader.now ≡ token_of t ∷ rest = grind arith in
    let other : (s : Bor (List ℕ)) → t ≢ String s = search rules in
    (d, ap (read_at c.args.depth) first ∙ is, sym (not_string c.args.depth t rest c.read_value_from.new.reader d is other))
