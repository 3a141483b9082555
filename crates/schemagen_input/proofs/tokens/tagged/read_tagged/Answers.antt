-- A text says something, and so does an object with one member.
use Rattle.std.proofs.Common.{◌≡◌, ◌≢◌, ℕ, List, [], ◌∷◌, Bor, ap, sym, ◌∙◌, arith, rules}
use Rattle.schemagen_input.proofs.Words.{Token, parse_map, token_of, object, string, data_of, nothing_read, string_read, object_opened, object_too_deep, read_at}
use Rattle.json.specs.declared.token.Token.TheVariants.{BeginObject, String}
use Rattle.schemagen_input.proofs.OtherKinds.{not_tagged}
use Rattle.schemagen_input.proofs.tokens.tagged.read_tagged.Goals as goal

pub returns-in_err-token-clause-not_json : goal.returns-in_err-token-clause-not_json
returns-in_err-token-clause-not_json g c = λ is. nothing_read c.args.depth c.args.reader.now [] (grind arith)

pub returns-then-depth-eq0-clause-not_json : goal.returns-then-depth-eq0-clause-not_json
returns-then-depth-eq0-clause-not_json g c = λ is.
    let first : c.args.reader.now ≡ Token.begin_object ∷ c.next.new.self = grind (arith, c.in-BeginObject.is) in
    let none : c.args.depth ≡ 0 = omega arith in
    ap (λ k. read_at k c.args.reader.now) none ∙ object_too_deep c.args.reader.now c.next.new.self first

pub returns-in_err-members-in-BeginObject-clause-not_json : goal.returns-in_err-members-in-BeginObject-clause-not_json
returns-in_err-members-in-BeginObject-clause-not_json g c = λ is.
    let first : c.args.reader.now ≡ Token.begin_object ∷ c.next.new.self = grind (arith, c.in-BeginObject.is) in
    object_opened c.args.depth c.args.reader.now c.next.new.self (omega arith) first
    ∙ ap (parse_map object) (c.read_members.ensures.not_json (search (rules, is)))

pub returns-in_ok-members-in-BeginObject-clause-ok : goal.returns-in_ok-members-in-BeginObject-clause-ok
returns-in_ok-members-in-BeginObject-clause-ok g c =
    let first : c.args.reader.now ≡ Token.begin_object ∷ c.next.new.self = grind (arith, c.in-BeginObject.is) in
    let found = c.in_ok-members-in-BeginObject.ensures.ok in (
      object found.0,
      object_opened c.args.depth c.args.reader.now c.next.new.self (omega arith) first ∙ ap (parse_map object) found.1,
      c.into_said.ensures found.0 found.2,
    )

pub returns-in-String-clause-ok : goal.returns-in-String-clause-ok
returns-in-String-clause-ok g c =
    let text = c.in-String.text.now in
    let first : c.args.reader.now ≡ Token.string text ∷ c.next.new.self = grind (arith, c.in-String.is) in
    (string text, string_read c.args.depth c.args.reader.now c.next.new.self text first, c.of_text.ensures)

pub returns-in_ok-read_value_from-in_default-clause-ok : goal.returns-in_ok-read_value_from-in_default-clause-ok
returns-in_ok-read_value_from-in_default-clause-ok g c =
    let t = c.in_ok-token.token in
    let rest = c.next.new.self in
    let d = data_of c.in_ok-read_value_from-in_default.field-0 in
    let is = c.in_ok-read_value_from-in_default.ensures.ok in
    let first : c.args.reader.now ≡ token_of t ∷ rest = grind arith in
    let not_text : (s : Bor (List ℕ)) → t ≢ String s = search rules in
    let not_members : t ≢ BeginObject = search rules in (
      d,
      ap (read_at c.args.depth) first ∙ is,
      sym (not_tagged c.args.depth t rest c.read_value_from.new.reader d is g.T.Tagged.said_by g.T.Tagged.said_under not_text not_members),
    )
