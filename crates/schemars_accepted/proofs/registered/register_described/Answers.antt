use Rattle.schemars_accepted.specs.Laws.{follows_told}
use Rattle.schemars_accepted.proofs.registered.register_described.Goals as goal

pub returns-clause-row : goal.returns-clause-row
returns-clause-row g c =
    let t = c.requires.told in
    let law = g.met.T.AgreesAsDescribed in
    law.described t.dictionary c.register.new.types c.in_ok-n.n t.tells
    (follows_told t.dictionary c.register.new.types
    (c.in_ok-n.ensures.follows.each t.dictionary (law.is_in t.dictionary t.tells) t.follows))
    c.in_ok-check.ensures.checked c.in_ok-n.ensures.added.number
