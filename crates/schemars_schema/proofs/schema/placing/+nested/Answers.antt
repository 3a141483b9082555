-- A pointer is a token and a pointer.
use Rattle.std.proofs.Common.{Some, None, ◌<◌, length, sym, ap, ◌∙◌, arith, rules}
use Rattle.schemars_schema.proofs.Words.{strip_prefix_char, object, view, members_view, view-Object}
use Rattle.schemars_schema.proofs.Placings.{below_nothing, below_first, below_is_shorter, placed_nested}
use Rattle.schemars_schema.proofs.schema.placing.+nested.Goals as goal

pub returns-in_default : goal.returns-in_default
returns-in_default t c =
    rw (below_nothing c.args.pointer.now (strip_prefix_char 47 c.args.pointer.now None c.in_default.ensures.cases (omega arith)))
    (ap Some (sym (view-Object c.args.members)))

pub nested-requires : goal.nested-requires
nested-requires t c =
    let slash = strip_prefix_char 47 c.args.pointer.now (Some c.in-Some.tokens) c.in-Some.ensures.cases (omega arith) in
    let shorter : length c.split_token.result.1.now < length c.args.pointer.now =
    below_is_shorter c.args.pointer.now c.in-Some.tokens.now c.split_token.result.0.now c.split_token.result.1.now slash
    c.split_token.ensures in
    (search rules, tt)

pub returns : goal.returns
returns t c =
    let slash = strip_prefix_char 47 c.args.pointer.now (Some c.in-Some.tokens) c.in-Some.ensures.cases (omega arith) in
    let all = below_first c.args.pointer.now c.in-Some.tokens.now c.split_token.result.0.now c.split_token.result.1.now slash
    c.split_token.ensures in
    let inner = view c.in_ok-inner.inner in
    placed_nested _ _ _ (members_view c.args.members.entries) inner all c.in_ok-inner.ensures
    ∙ ap Some (ap object (rw c.new-outer.ensures.empty at (rw c.in_ok-key.ensures at (sym c.in_ok-_none.ensures.ok)))
    ∙ sym (view-Object c.insert_member.new.members))
