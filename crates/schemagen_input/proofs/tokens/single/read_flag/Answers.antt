-- A truth value says itself.
use Rattle.std.proofs.Common.{◌≡◌, ◌≢◌, Bool, [], ◌∷◌, refl, ap, sym, ◌∙◌, arith, rules}
use Rattle.json.specs.Token as spec
use Rattle.schemagen_input.proofs.Words.{token_of, boolean, data_of, nothing_read, boolean_read, read_at}
use Rattle.json.specs.declared.token.Token.TheVariants.{Bool as Truth}
use Rattle.schemagen_input.proofs.OtherKinds.{not_truth}
use Rattle.schemagen_input.proofs.tokens.single.read_flag.Goals as goal

pub returns-in_err-token-clause-not_json : goal.returns-in_err-token-clause-not_json
returns-in_err-token-clause-not_json c = λ is. nothing_read c.args.depth c.args.reader.now [] (grind arith)

pub returns-in-Bool-clause-ok : goal.returns-in-Bool-clause-ok
returns-in-Bool-clause-ok c =
    let flag = c.in-Bool.flag in
    let first : c.args.reader.now ≡ spec.boolean flag ∷ c.next.new.self = grind (arith, c.in-Bool.is) in
    (boolean flag, boolean_read c.args.depth c.args.reader.now c.next.new.self flag first, refl)

pub returns-in_ok-read_value_from-in_default-clause-ok : goal.returns-in_ok-read_value_from-in_default-clause-ok
returns-in_ok-read_value_from-in_default-clause-ok c =
    let t = c.in_ok-token.token in
    let rest = c.next.new.self in
    let d = data_of c.in_ok-read_value_from-in_default.field-0 in
    let is = c.in_ok-read_value_from-in_default.ensures.ok in
    let first : c.args.reader.now ≡ token_of t ∷ rest = grind arith in
    let other : (b : Bool) → t ≢ Truth b = search rules in
    (d, ap (read_at c.args.depth) first ∙ is, sym (not_truth c.args.depth t rest c.read_value_from.new.reader d is other))
