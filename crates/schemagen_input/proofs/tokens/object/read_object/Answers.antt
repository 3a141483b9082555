-- An object says what its members say.
use Rattle.std.proofs.Common.{◌≡◌, [], ◌∷◌, refl, ap, ◌∙◌, arith, rules}
use Rattle.schemagen_input.proofs.Words.{Token, parse_map, token_of, object, nothing_read, object_opened, object_too_deep, read_at, data_of}
use Rattle.schemagen_input.proofs.OtherKinds.{not_object}
use Rattle.schemagen_input.proofs.tokens.object.read_object.Goals as goal

pub returns-in_err-token-clause-not_json : goal.returns-in_err-token-clause-not_json
returns-in_err-token-clause-not_json g c = λ is. nothing_read c.args.depth c.args.reader.now [] (grind arith)

pub returns-then-depth-eq0-clause-not_json : goal.returns-then-depth-eq0-clause-not_json
returns-then-depth-eq0-clause-not_json g c = λ is.
    let first : c.args.reader.now ≡ Token.begin_object ∷ c.next.new.self = grind (arith, c.in-BeginObject.is) in
    let none : c.args.depth ≡ 0 = omega arith in
    ap (λ k. read_at k c.args.reader.now) none ∙ object_too_deep c.args.reader.now c.next.new.self first

pub returns-in_err-members-in-BeginObject-clause-not_json : goal.returns-in_err-members-in-BeginObject-clause-not_json
returns-in_err-members-in-BeginObject-clause-not_json g c = λ is.
    let first : c.args.reader.now ≡ Token.begin_object ∷ c.next.new.self = grind (arith, c.in-BeginObject.is) in
    object_opened c.args.depth c.args.reader.now c.next.new.self (omega arith) first
    ∙ ap (parse_map object) (c.read_members.ensures.not_json (search (rules, is)))

pub returns-in_ok-members-in-BeginObject-clause-ok : goal.returns-in_ok-members-in-BeginObject-clause-ok
returns-in_ok-members-in-BeginObject-clause-ok g c =
    let first : c.args.reader.now ≡ Token.begin_object ∷ c.next.new.self = grind (arith, c.in-BeginObject.is) in
    let found = c.in_ok-members-in-BeginObject.ensures.ok in (
      object found.0,
      object_opened c.args.depth c.args.reader.now c.next.new.self (omega arith) first ∙ ap (parse_map object) found.1,
      (found.0, refl, found.2),
    )

pub returns-in_ok-read_value_from-in_default-clause-ok : goal.returns-in_ok-read_value_from-in_default-clause-ok
returns-in_ok-read_value_from-in_default-clause-ok g c =
    let t = c.in_ok-token.token in
    let rest = c.next.new.self in
    let d = data_of c.in_ok-read_value_from-in_default.field-0 in
    let is = c.in_ok-read_value_from-in_default.ensures.ok in
    let first : c.args.reader.now ≡ token_of t ∷ rest = grind arith in
    (d, ap (read_at c.args.depth) first ∙ is, not_object c.args.depth t rest c.read_value_from.new.reader d is (search rules))
