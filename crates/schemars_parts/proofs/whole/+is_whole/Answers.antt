-- Where the keys ascend, the members decide.
use Rattle.std.proofs.Common.{rules, subst, sym, ap, ◌∙◌, arith}
use Rattle.schemars_parts.proofs.Words.{drop_all, IsWholeJson, IsSorted, assembled_view, members_assembled}
use Rattle.schemars_parts.proofs.PartViews.{seen_reference}
use Rattle.schemars_parts.proofs.Wholes.{AreWholeEntries, whole_reference, whole_members}
use Rattle.schemars_parts.proofs.whole.+is_whole.Goals as goal

pub is_whole-returns-in-Reference : goal.is_whole-returns-in-Reference
is_whole-returns-in-Reference t c = λ yes.
    subst IsWholeJson (sym (ap assembled_view c.in-Reference.is ∙ seen_reference c.in-Reference.target))
    (whole_reference c.in-Reference.target.now (c.is_text-in-Reference.ensures yes))

pub members_are_whole-returns : goal.members_are_whole-returns
members_are_whole-returns t c = λ _.
    let es = c.args.members.now.items in
    let ended = drop_all c.loop-name.name-index c.deref-name-items.result.now (omega arith) in
    let all : AreWholeEntries es = c.loop-name.invariant (subst AreWholeEntries (sym ended) tt) in
    let sorted : IsSorted (members_assembled es) = search rules in
    whole_members es all sorted
