-- The definitions and what was left are transformed as the whole is; each wants memory alone.
use Rattle.std.proofs.Common.{◌≡◌, Ok, Err, false, ap, ◌∙◌}
use Rattle.schemars_transform.proofs.Words.{err_from_is_err_and, members_view, made_by, some_own}
use Rattle.schemars_transform.proofs.Laws.{built_ins_stay, built_ins_make, each_made, each_wants_memory, each_stays}
use Rattle.schemars_transform.proofs.Taken.{none_own, memory_in_order, apart_in_order}
use Rattle.schemars_transform.proofs.apply.apply_apart.Goals as goal

pub returns-in_err-apply_to_members : goal.returns-in_err-apply_to_members
returns-in_err-apply_to_members g c = λ d taken.
    let Q = g.O.Transform.makes in
    let ts = c.args.transforms.now in
    let us = c.apply_to_members.new.transforms in
    let old = members_view c.args.definitions.entries in
    let new = members_view c.apply_to_members.new.members.entries in
    let own = none_own ts.items c.requires.local in
    let p = err_from_is_err_and c.from_residual.result c.from_residual.ensures.1 in
    let e = c.in_err-apply_to_members.field-0.0 in
    let stay = each_stays Q ts us old new (Err e) own c.in_err-apply_to_members.ensures in
    let memory = each_wants_memory Q ts us old new (Err e) own c.in_err-apply_to_members.ensures in
    rw (p.1, p.2, memory) (memory_in_order Q ts.items us.items d c.args.schema.now c.requires.local c.requires.some stay)

pub returns-in_err-apply_each : goal.returns-in_err-apply_each
returns-in_err-apply_each g c = λ d taken.
    let Q = g.O.Transform.makes in
    let ts = c.args.transforms.now in
    let us = c.apply_to_members.new.transforms in
    let ws = c.apply_each.new.transforms in
    let old = members_view c.args.definitions.entries in
    let new = members_view c.apply_to_members.new.members.entries in
    let own = none_own ts.items c.requires.local in
    let stay = each_stays Q ts us old new (Ok tt) own c.in_ok-apply_to_members.ensures in
    let still : some_own us.items ≡ false = ap some_own stay ∙ own in
    let p = err_from_is_err_and c.from_residual-in_err-apply_each.result c.from_residual-in_err-apply_each.ensures.1 in
    let e = c.in_err-apply_each.field-0.0 in
    let s = c.args.schema.now in
    let v = c.apply_each.new.schema in
    let rest = built_ins_stay Q us.items ws.items s v (Err e) still c.in_err-apply_each.ensures in
    let memory = built_ins_make Q us.items ws.items s v (Err e) still c.in_err-apply_each.ensures in
    rw (p.1, p.2, memory) (memory_in_order Q ts.items ws.items d v c.requires.local c.requires.some (rest ∙ stay))

pub returns : goal.returns
returns g c = λ d taken.
    let Q = g.O.Transform.makes in
    let ts = c.args.transforms.now in
    let us = c.apply_to_members.new.transforms in
    let ws = c.apply_each.new.transforms in
    let old = members_view c.args.definitions.entries in
    let new = members_view c.apply_to_members.new.members.entries in
    let own = none_own ts.items c.requires.local in
    let stay = each_stays Q ts us old new (Ok tt) own c.in_ok-apply_to_members.ensures in
    let still : some_own us.items ≡ false = ap some_own stay ∙ own in
    let s = c.args.schema.now in
    let v = c.apply_each.new.schema in
    let rest = built_ins_stay Q us.items ws.items s v (Ok tt) still c.in_ok-apply_each.ensures in
    let left = built_ins_make Q us.items ws.items s v (Ok tt) still c.in_ok-apply_each.ensures in
    apart_in_order Q ts.items ws.items c.args.key.now s v c.put_names.new.schema old new c.requires.key c.requires.local (rest ∙ stay)
    (each_made Q ts us old new own c.in_ok-apply_to_members.ensures) (left ∙ ap (λ xs. made_by xs s) stay) c.put_names.ensures d taken
