use Rattle.std.proofs.Common.{sym, ap, subst, ◌∙◌, arith}
use Rattle.schemars_parts.proofs.Words.{get_member, without, IsSorted, sorted-without, members_assembled}
use Rattle.schemars_parts.proofs.Changed.{without-missing}
use Rattle.schemars_parts.proofs.Searched.{found-within, found_part, nothing_found, removed_at}
use Rattle.schemars_parts.proofs.members.MemberList.take.Goals as goal

pub remove-part-requires : goal.remove-part-requires
remove-part-requires c = omega (arith, found-within c.args.name.now c.self.inside.list.items c.in-Ok.place c.in-Ok.ensures)

pub invariant_of-self : goal.invariant_of-self
invariant_of-self c =
    let k = c.args.name.now in
    let es = c.self.inside.list.items in
    subst IsSorted (sym (ap members_assembled c.remove-part.ensures.items ∙ removed_at k es c.in-Ok.place c.in-Ok.ensures))
    (sorted-without k (members_assembled es) c.self.invariant)

pub returns-in-Ok-clause-value : goal.returns-in-Ok-clause-value
returns-in-Ok-clause-value c =
    let k = c.args.name.now in
    found_part k c.self.inside.list.items c.in-Ok.place c.remove-part.result c.in-Ok.ensures c.remove-part.ensures.value
    ∙ ap (get_member k) c.self.view_is

pub returns-in-Ok-clause-rest : goal.returns-in-Ok-clause-rest
returns-in-Ok-clause-rest c =
    let k = c.args.name.now in
    ap members_assembled c.remove-part.ensures.items ∙ removed_at k c.self.inside.list.items c.in-Ok.place c.in-Ok.ensures
    ∙ ap (without k) c.self.view_is

pub returns-in-Err-clause-value : goal.returns-in-Err-clause-value
returns-in-Err-clause-value c =
    let k = c.args.name.now in
    nothing_found k (members_assembled c.self.inside.list.items) c.in-Err.field-0 c.in-Err.ensures c.self.invariant
    ∙ ap (get_member k) c.self.view_is

pub returns-in-Err-clause-rest : goal.returns-in-Err-clause-rest
returns-in-Err-clause-rest c =
    let k = c.args.name.now in
    sym (without-missing k c.args.self.now
    (nothing_found k (members_assembled c.self.inside.list.items) c.in-Err.field-0 c.in-Err.ensures c.self.invariant
    ∙ ap (get_member k) c.self.view_is))
