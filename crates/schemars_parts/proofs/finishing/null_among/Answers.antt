-- The name beside null takes the place of both.
use Rattle.std.proofs.Common.{◌≡◌, Some, true, codes, sym, ap, ◌∙◌, rules}
use Rattle.schemars_parts.proofs.Words.{on_ok_weaker, put, array, get_member, assembled_view, items_assembled, IsBesideNull}
use Rattle.schemars_parts.proofs.NullNames.{null_beside}
use Rattle.schemars_parts.proofs.PartViews.{seen_bool, seen_list, seen_text}
use Rattle.schemars_parts.proofs.finishing.null_among.Goals as goal

pub returns-in-Some-List : goal.returns-in-Some-List
returns-in-Some-List c =
    let at = c.in-Some-List in
    let name = c.in_ok-name-in-Some-List.name in
    let removes : c.args.nullable.now.remove_null_type ≡ true = search rules in
    let is = c.in_ok-put.ensures ∙ ap (λ d. put (codes "nullable") d c.args.members.now) (seen_bool true) in
    let found : Some (array (items_assembled at.names.items)) ≡ get_member (codes "type") c.put.new.self =
    ap Some (sym (ap assembled_view at.field-0-is ∙ seen_list at.names)) ∙ at.ensures.value in
    let beside : IsBesideNull name.now (items_assembled at.names.items) = search rules in
    on_ok_weaker c.put-in-Some-List.result
    (λ put_in.
    null_beside c.args.nullable.now name.now (items_assembled at.names.items) c.args.members.now
    c.put.new.self c.take.new.self c.put-in-Some-List.new.self removes is found at.ensures.ascending at.ensures.rest beside
    (put_in ∙ ap (λ d. put (codes "type") d c.take.new.self) (seen_text name)))
    c.put-in-Some-List.ensures
