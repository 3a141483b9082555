-- An object has what its members have.
use Rattle.std.proofs.Common.{◌≡◌, [], ◌∷◌, ap, ◌∙◌, arith}
use Rattle.schemagen_input.proofs.Words.{IfOk-weaker, Token, parse_map, object, nothing_read, object_opened}
use Rattle.schemagen_input.proofs.table_members.read_document.Goals as goal

pub returns-in_err-token-clause-not_json : goal.returns-in_err-token-clause-not_json
returns-in_err-token-clause-not_json c = λ is. nothing_read 127 c.args.reader.now [] (grind arith)

pub returns-in-BeginObject-clause-ok : goal.returns-in-BeginObject-clause-ok
returns-in-BeginObject-clause-ok c =
    let first : c.args.reader.now ≡ Token.begin_object ∷ c.next.new.self = grind (arith, c.in-BeginObject.is) in
    IfOk-weaker c.read_members.result _ _ (λ f found. (
      object found.0,
      object_opened 127 c.args.reader.now c.next.new.self (omega arith) first ∙ ap (parse_map object) found.1,
      found.2,
    )) c.read_members.ensures.ok

pub returns-in-BeginObject-clause-not_json : goal.returns-in-BeginObject-clause-not_json
returns-in-BeginObject-clause-not_json c = λ is.
    let first : c.args.reader.now ≡ Token.begin_object ∷ c.next.new.self = grind (arith, c.in-BeginObject.is) in
    object_opened 127 c.args.reader.now c.next.new.self (omega arith) first ∙ ap (parse_map object) (c.read_members.ensures.not_json is)
