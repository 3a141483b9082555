-- A member keeps the name alone, or there are several.
use Rattle.std.proofs.Common.{◌≡◌, true, false, rules}
use Rattle.schemagen_input.proofs.Words.{data_of, can_be_lone}
use Rattle.schemagen_input.proofs.Gathering.{lone_follows, several_follow}
use Rattle.schemagen_input.proofs.tokens.tagged.TaggedMembersObjectMembers.read_member.Goals as goal

pub returns-then-not-can_be_lone-clause-ok : goal.returns-then-not-can_be_lone-clause-ok
returns-then-not-can_be_lone-clause-ok g c =
    let d = data_of c.in_ok-read_value.field-0 in
    let other : can_be_lone c.args.name.now c.args.self.now ≡ false = search rules in
    (d, c.in_ok-read_value.ensures.ok, λ ms. several_follow g.T.Tagged.value_of g.T.Tagged.said_under c.args.name d ms c.args.self.now other)

pub returns-clause-ok : goal.returns-clause-ok
returns-clause-ok g c =
    let done = c.in_ok-said.ensures.ok in
    let alone : can_be_lone c.args.name.now c.args.self.now ≡ true = search rules in
    (done.0, done.1, λ ms were. lone_follows g.T.Tagged.value_of g.T.Tagged.said_under c.args.name done.0 ms c.args.self.now c.in_ok-said.said alone were done.2)
