-- Each member adds what it says.
use Rattle.std.proofs.Common.{◌≡◌, ◌-◌, Some, ◌∙◌, arith, rules}
use Rattle.schemagen_input.proofs.Words.{read_key, value, read_key-shorter, put, member_read, member_refused, name_refused, members_closed}
use Rattle.schemagen_input.proofs.tokens.object.read_members.Goals as goal

pub returns-in_err-name-clause-not_json : goal.returns-in_err-name-clause-not_json
returns-in_err-name-clause-not_json g c = λ is.
    let l = c.keys in
    l.invariant.3 ∙ name_refused (value c.args.depth) l.invariant.1 l.invariant.0 l.reader c.in_err-name.ensures.value

pub returns-in_err-read_member-clause-not_json : goal.returns-in_err-read_member-clause-not_json
returns-in_err-read_member-clause-not_json g c = λ is.
    let l = c.keys in
    let behind = c.next_key.new.self in
    let named : read_key l.reader ≡ Some (Some c.in-Some.name.now, behind) = grind arith in
    l.invariant.3
    ∙ member_refused (value c.args.depth) l.invariant.1 l.invariant.0 c.in-Some.name.now l.reader behind named
    (c.read_member.ensures.not_json (search (rules, is)))

pub keys-preserved : goal.keys-preserved
keys-preserved g c =
    let l = c.keys in
    let n = l.invariant.0 in
    let ms = l.invariant.1 in
    let name = c.in-Some.name in
    let behind = c.next_key.new.self in
    let named : read_key l.reader ≡ Some (Some name.now, behind) = grind arith in
    let done = c.in_ok-read_member.ensures in
    let d = done.ok.0 in
    let rest = c.read_member.new.reader in
    let less = read_key-shorter l.reader (Some name.now) behind named in
    let lesser = done.shorter in (
      n - 1,
      put name.now d ms,
      omega (arith, l.invariant.2),
      l.invariant.3
          ∙ member_read (value c.args.depth) ms n name.now l.reader behind rest d (omega (arith, l.invariant.2)) named done.ok.1,
      done.ok.2 ms l.invariant.4,
      omega (arith, l.invariant.5),
    )

pub returns-clause-ok : goal.returns-clause-ok
returns-clause-ok g c =
    let l = c.keys in
    let closed = members_closed (value c.args.depth) l.invariant.1 l.invariant.0 l.reader c.next_key.new.self l.invariant.2 (grind arith) in
    (l.invariant.1, l.invariant.3 ∙ closed, l.invariant.4)
