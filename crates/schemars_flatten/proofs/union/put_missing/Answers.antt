-- Each member goes in, unless its name is there.
use Rattle.std.proofs.Common.{◌≡◌, ◌∷◌, [], ap, rules}
use Rattle.schemars_flatten.proofs.Words.{members_view, put_members, IsSorted}
use Rattle.schemars_flatten.proofs.PutIn.{sorted_entries, put_each_missing, put_whole}
use Rattle.schemars_flatten.proofs.union.put_missing.Goals as goal

pub loop-name-init : goal.loop-name-init
loop-name-init c =
    let old = c.args.members.now.entries in
    let more = c.args.more.entries in
    let begins = c.into_iter-name-iterator.ensures.into_iter_gives in
    let whole : c.into_iter-name-iterator.result ≡ more = begins.0 in
    let sorted : IsSorted (members_view more) = sorted_entries more begins.5 in
    (sorted_entries old c.requires, rw whole sorted, ap (λ es. put_members (members_view old) (members_view es)) whole)

pub loop-name-preserved : goal.loop-name-preserved
loop-name-preserved c =
    let before = c.loop-name.invariant in
    let left = c.next.new.self in
    let steps : c.loop-name.name-iterator ≡ (c.in-Some.name, c.in-Some.value) ∷ left = search rules in
    put_each_missing c.loop-name.name-iterator left (c.in-Some.name, c.in-Some.value)
    (members_view c.loop-name.members.entries) (members_view c.put_if_missing.new.members.entries) _ steps before.0
    before.1 before.2 c.in_ok-put_if_missing.ensures

pub returns : goal.returns
returns c =
    let before = c.loop-name.invariant in
    let ends : c.loop-name.name-iterator ≡ [] = search rules in
    put_whole c.loop-name.name-iterator (members_view c.loop-name.members.entries) _ ends before.0 before.2
