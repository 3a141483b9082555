-- A value joins the one under its key, or is the first there.
use Rattle.std.proofs.Common.{◌≡◌, Some, None, option_map, string_bytes, sym, ap, ◌∙◌}
use Rattle.schemars_flatten.proofs.Words.{on_ok_weaker, put, get_member, view, members_view, view-lookup, united, with_united}
use Rattle.schemars_flatten.proofs.Parts.{united_there, united_missing}
use Rattle.schemars_flatten.proofs.union.put_united.Goals as goal

pub returns-in-Some : goal.returns-in-Some
returns-in-Some c =
    let asked = c.as_str.result.now in
    let key = string_bytes c.args.key in
    let entries = c.args.members.now.entries in
    let old = c.in-Some.first.now in
    let new = c.unite_values.new.first in
    let second = view c.args.value in
    let same : asked ≡ key = c.as_str.ensures.value in
    let again : c.as_str-in-Some.result.now ≡ asked = c.as_str-in-Some.ensures.value ∙ sym same in
    let found : Some (view old) ≡ get_member asked (members_view entries) =
    ap (option_map view) c.in-Some.ensures.value ∙ view-lookup asked entries in
    on_ok_weaker c.unite_values.result
    (λ (united_both : view new ≡ united c.as_str-in-Some.result.now (view old) second).
    ap members_view (c.get_mut.follows.holds new).0
    ∙ (united_there asked entries old new second found (united_both ∙ ap (λ k. united k (view old) second) again)
    ∙ ap (λ k. with_united k second (members_view entries)) same))
    c.unite_values.ensures

pub returns-in-None : goal.returns-in-None
returns-in-None c =
    let asked = c.as_str.result.now in
    let key = string_bytes c.args.key in
    let entries = c.args.members.now.entries in
    let kept = members_view c.get_mut.follows.lender-at-none.entries in
    let second = view c.args.value in
    let same : asked ≡ key = c.as_str.ensures.value in
    let missing : None ≡ get_member asked (members_view entries) =
    ap (option_map view) c.in-None.ensures.value ∙ view-lookup asked entries in
    on_ok_weaker c.insert.result
    (λ (joined : members_view c.insert.new.members.entries ≡ put key second kept).
    united_missing key (members_view entries) kept (members_view c.insert.new.members.entries) second
    (missing ∙ ap (λ k. get_member k (members_view entries)) same)
    (ap (λ m. members_view m.entries) c.get_mut.follows.holds-at-none) joined)
    c.insert.ensures
