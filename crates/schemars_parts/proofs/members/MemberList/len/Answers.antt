-- There are as many members as parts.
use Rattle.std.proofs.Common.{◌≡◌, length, sym, ap, ◌∙◌, arith}
use Rattle.schemars_parts.proofs.Words.{members_len}
use Rattle.schemars_parts.proofs.Lists.{counted}
use Rattle.schemars_parts.proofs.members.MemberList.len.Goals as goal

pub returns : goal.returns
returns c =
    let many : c.len.result ≡ length c.self.inside.list.items = omega arith in
    many ∙ (sym (counted c.self.inside.list.items) ∙ ap members_len c.self.view_is)
