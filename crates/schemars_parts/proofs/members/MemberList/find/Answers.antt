use Rattle.std.proofs.Common.{ap, ◌∙◌, arith}
use Rattle.schemars_parts.proofs.Words.{get_member, members_assembled}
use Rattle.schemars_parts.proofs.Searched.{found-within, found_part, nothing_found}
use Rattle.schemars_parts.proofs.members.MemberList.find.Goals as goal

pub index-requires : goal.index-requires
index-requires c = omega (arith, found-within c.args.name.now c.self.inside.list.items c.in-Ok.place c.in-Ok.ensures)

pub returns-in-Ok : goal.returns-in-Ok
returns-in-Ok c =
    let k = c.args.name.now in
    found_part k c.self.inside.list.items c.in-Ok.place c.index.result.now c.in-Ok.ensures c.index.ensures
    ∙ ap (get_member k) c.self.view_is

pub returns-in-Err : goal.returns-in-Err
returns-in-Err c =
    let k = c.args.name.now in
    nothing_found k (members_assembled c.self.inside.list.items) c.in-Err.field-0 c.in-Err.ensures c.self.invariant
    ∙ ap (get_member k) c.self.view_is
