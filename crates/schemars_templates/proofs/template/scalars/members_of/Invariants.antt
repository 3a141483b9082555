-- The keywords that are left go into these members as all of them go into none.
use Rattle.std.proofs.Common.{◌≡◌, map, drop}
use Rattle.schemars_templates.proofs.Words.{no_members, members_view, put_all, scalar_keyword}
use Rattle.schemars_templates.proofs.template.scalars.members_of.Given as goal

abbrev pub invariant-loop-keyword : goal.invariant-loop-keyword
invariant-loop-keyword l =
    put_all (map scalar_keyword (drop l.keyword-index l.keywords)) (members_view l.members.entries)
    ≡ put_all (map scalar_keyword l.keywords) no_members
