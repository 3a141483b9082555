-- A second choice goes with the first into `allOf`.
use Rattle.std.proofs.Common.{◌≡◌, Some, None, codes, string_bytes, ap, ◌∙◌}
use Rattle.schemars_flatten.proofs.Words.{on_ok_weaker, put, get_member, view, members_view, without, both_choices, with_united}
use Rattle.schemars_flatten.proofs.Parts.{choice_there, choice_missing}
use Rattle.schemars_flatten.proofs.union.put_choice.Goals as goal

pub returns-in_ok-from_str-in-Some : goal.returns-in_ok-from_str-in-Some
returns-in_ok-from_str-in-Some c =
    let key = string_bytes c.args.key in
    let old = members_view c.args.members.now.entries in
    let mid = members_view c.remove.new.members.entries in
    let new = members_view c.put_united.new.members.entries in
    let first = view c.in-Some.first in
    let second = view c.args.value in
    let same = c.as_str.ensures.value in
    let found : Some first ≡ get_member key old = c.in-Some.ensures.value ∙ ap (λ k. get_member k old) same in
    let taken : mid ≡ without key old = c.in-Some.ensures.removed ∙ ap (λ k. without k old) same in
    let choices : view c.in_ok-choices-in-Some.choices ≡ both_choices key first second =
    c.in_ok-choices-in-Some.ensures ∙ ap (λ k. both_choices k first second) c.as_str-in-Some.ensures.value in
    let all_of : string_bytes c.in_ok-from_str-in-Some.field-0 ≡ codes "allOf" = c.in_ok-from_str-in-Some.ensures.ok in
    on_ok_weaker c.put_united.result
    (λ (put_in : new ≡ with_united (string_bytes c.in_ok-from_str-in-Some.field-0)
    (view c.in_ok-choices-in-Some.choices) mid).
    choice_there key old mid new first second found taken
    (put_in ∙ (ap (λ k. with_united k (view c.in_ok-choices-in-Some.choices) mid) all_of
    ∙ ap (λ d. with_united (codes "allOf") d mid) choices)))
    c.put_united.ensures

pub returns-in-None : goal.returns-in-None
returns-in-None c =
    let key = string_bytes c.args.key in
    let old = members_view c.args.members.now.entries in
    let mid = members_view c.remove.new.members.entries in
    let new = members_view c.insert.new.members.entries in
    let second = view c.args.value in
    let same = c.as_str.ensures.value in
    let missing : None ≡ get_member key old = c.in-None.ensures.value ∙ ap (λ k. get_member k old) same in
    let taken : mid ≡ without key old = c.in-None.ensures.removed ∙ ap (λ k. without k old) same in
    on_ok_weaker c.insert.result
    (λ (put_in : new ≡ put key second mid). choice_missing key old mid new second missing taken put_in)
    c.insert.ensures
