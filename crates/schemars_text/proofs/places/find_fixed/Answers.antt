-- One member more.
use Rattle.std.proofs.Common.{◌++◌, [], rules, ap, sym, ◌∙◌, is_some, Some, ◌≡◌, false}
use Rattle.schemars_text.proofs.Words.{member, view, members_view, first_keywords, last_keywords, is_listed, place_in}
use Rattle.schemars_text.proofs.FixedMembers.{Fills, filled, passed_over, all_found, keywords_apart, is_some-place_in}
use Rattle.schemars_text.proofs.places.find_fixed.Goals as goal

pub loop-key-preserved-in-Some-place_of : goal.loop-key-preserved-in-Some-place_of
loop-key-preserved-in-Some-place_of c =
    let left = members_view c.next.new.self in
    let all = members_view c.args.members.now.entries in
    let ks = first_keywords ++ last_keywords in
    let k = c.as_str.result.now in
    let p = c.in-Some-place_of.place in
    let at : place_in k ks ≡ Some p = search rules in
    let before : Fills view c.loop-key.found ks (member k (view c.in-Some.value.now) left) all = search rules in
    rw c.or.ensures (filled view c.loop-key.found ks p _ k c.in-Some.value left all keywords_apart at before)

pub loop-key-preserved : goal.loop-key-preserved
loop-key-preserved c =
    let left = members_view c.next.new.self in
    let all = members_view c.args.members.now.entries in
    let ks = first_keywords ++ last_keywords in
    let k = c.as_str.result.now in
    let unlisted : is_listed k ks ≡ false = sym (is_some-place_in k ks) ∙ ap is_some (sym c.place_of.ensures ∙ c.in_default.is) in
    let before : Fills view c.loop-key.found ks (member k (view c.in-Some.value.now) left) all = search rules in
    passed_over view _ _ _ _ left all unlisted before

pub returns : goal.returns
returns c =
    let ended : c.loop-key.key-iterator ≡ [] = search rules in
    all_found view c.loop-key.found (first_keywords ++ last_keywords) _ (rw ended at c.loop-key.invariant)
