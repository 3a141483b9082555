-- A map has each key once.
use Rattle.std.proofs.Common.{sym}
use Rattle.schemars_plain.proofs.Words.{get_member-above}
use Rattle.schemars_plain.proofs.Literals.{sorted_view}
use Rattle.schemars_plain.proofs.literal.are_plain_members.Goals as goal

pub loop-key-init : goal.loop-key-init
loop-key-init c = record {
  sorted = rw (c.into_iter-key-iterator.ensures.into_iter_gives, c.iter-key-items.ensures.rest)
      (sorted_view c.args.members.now.entries c.iter-key-items.ensures.ordered);
  decide = (λ h. h, λ h. h);
}

pub loop-key-preserved : goal.loop-key-preserved
loop-key-preserved c =
    let before = rw c.in-Some.ensures.steps at c.loop-key.invariant in
    let plain = rw c.as_str.ensures.value at c.if-not-is_plain_member.ensures in
    record {
      sorted = before.sorted.1;
      decide = (
        λ h. before.decide.0 (sym plain, get_member-above _ _ before.sorted.0, h),
        λ h. (before.decide.1 h).2,
      );
    }
