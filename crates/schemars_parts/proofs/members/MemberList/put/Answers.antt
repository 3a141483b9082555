use Rattle.std.proofs.Common.{sym, ap, subst, ◌∙◌, arith}
use Rattle.schemars_parts.proofs.Words.{put, IsSorted, sorted-put, assembled_view, members_assembled}
use Rattle.schemars_parts.proofs.Searched.{found-within, belongs-within, replaced_at, inserted_at}
use Rattle.schemars_parts.proofs.members.MemberList.put.Goals as goal

pub replace-requires : goal.replace-requires
replace-requires c = found-within c.args.name.now c.self.inside.list.items c.in-Ok.place c.in-Ok.ensures

pub insert-requires : goal.insert-requires
insert-requires c = omega (arith, belongs-within c.args.name.now c.self.inside.list.items c.in-Err.place c.in-Err.ensures)

pub invariant_of-self : goal.invariant_of-self
invariant_of-self c =
    let es = c.self.inside.list.items in
    subst IsSorted
    (sym (ap members_assembled c.replace.ensures ∙ replaced_at c.args.name c.args.part es c.in-Ok.place c.in-Ok.ensures))
    (sorted-put c.args.name.now (assembled_view c.args.part) (members_assembled es) c.self.invariant)

pub invariant_of-self-in-Err : goal.invariant_of-self-in-Err
invariant_of-self-in-Err c =
    let es = c.self.inside.list.items in
    subst IsSorted
    (sym (ap members_assembled c.in_ok-insert-in-Err.ensures.items
    ∙ inserted_at c.args.name c.args.part es c.in-Err.place c.in-Err.ensures))
    (sorted-put c.args.name.now (assembled_view c.args.part) (members_assembled es) c.self.invariant)

pub returns-in-Ok : goal.returns-in-Ok
returns-in-Ok c =
    ap members_assembled c.replace.ensures ∙ replaced_at c.args.name c.args.part c.self.inside.list.items c.in-Ok.place c.in-Ok.ensures
    ∙ ap (put c.args.name.now (assembled_view c.args.part)) c.self.view_is

pub returns-in_ok-insert-in-Err : goal.returns-in_ok-insert-in-Err
returns-in_ok-insert-in-Err c =
    ap members_assembled c.in_ok-insert-in-Err.ensures.items
    ∙ inserted_at c.args.name c.args.part c.self.inside.list.items c.in-Err.place c.in-Err.ensures
    ∙ ap (put c.args.name.now (assembled_view c.args.part)) c.self.view_is
