-- A list says what its items say.
use Rattle.std.proofs.Common.{◌≡◌, [], ◌∷◌, option_and_then, ap, sym, ◌∙◌, arith, rules}
use Rattle.schemagen_input.proofs.Words.{IfOk-weaker, Token, parse_map, token_of, array, items_of, data_of, nothing_read, array_opened, array_too_deep, read_at, read_each}
use Rattle.schemagen_input.proofs.OtherKinds.{not_array}
use Rattle.schemagen_input.proofs.tokens.said.read_list.Goals as goal

pub returns-in_err-token-clause-not_json : goal.returns-in_err-token-clause-not_json
returns-in_err-token-clause-not_json g c = λ is. nothing_read c.args.depth c.args.reader.now [] (grind arith)

pub returns-then-depth-eq0-clause-not_json : goal.returns-then-depth-eq0-clause-not_json
returns-then-depth-eq0-clause-not_json g c = λ is.
    let first : c.args.reader.now ≡ Token.begin_array ∷ c.next.new.self = grind (arith, c.in-BeginArray.is) in
    let none : c.args.depth ≡ 0 = omega arith in
    ap (λ k. read_at k c.args.reader.now) none ∙ array_too_deep c.args.reader.now c.next.new.self first

pub returns-else-depth-eq0-clause-ok : goal.returns-else-depth-eq0-clause-ok
returns-else-depth-eq0-clause-ok g c =
    let first : c.args.reader.now ≡ Token.begin_array ∷ c.next.new.self = grind (arith, c.in-BeginArray.is) in
    IfOk-weaker c.read_items.result _ _ (λ v found. (
      array (items_of found.0),
      array_opened c.args.depth c.args.reader.now c.next.new.self (omega arith) first ∙ ap (parse_map array) found.1,
      found.2,
    )) c.read_items.ensures.ok

pub returns-else-depth-eq0-clause-not_json : goal.returns-else-depth-eq0-clause-not_json
returns-else-depth-eq0-clause-not_json g c = λ is.
    let first : c.args.reader.now ≡ Token.begin_array ∷ c.next.new.self = grind (arith, c.in-BeginArray.is) in
    array_opened c.args.depth c.args.reader.now c.next.new.self (omega arith) first ∙ ap (parse_map array) (c.read_items.ensures.not_json is)

pub returns-in_ok-read_value_from-in_default-clause-ok : goal.returns-in_ok-read_value_from-in_default-clause-ok
returns-in_ok-read_value_from-in_default-clause-ok g c =
    let t = c.in_ok-token.token in
    let rest = c.next.new.self in
    let d = data_of c.in_ok-read_value_from-in_default.field-0 in
    let is = c.in_ok-read_value_from-in_default.ensures.ok in
    let first : c.args.reader.now ≡ token_of t ∷ rest = grind arith in
    let none = not_array c.args.depth t rest c.read_value_from.new.reader d is (search rules) in
    (d, ap (read_at c.args.depth) first ∙ is, sym (ap (option_and_then (read_each g.T.Said.said)) none))
