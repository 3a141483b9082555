-- Ranks fall; and the members that are left are still to be added.
use Rattle.std.proofs.Common.{◌≡◌, ◌+◌, ◌*◌, false, map, drop}
use Rattle.schemars_types.proofs.Words.{variant_of, rank, all_options, members_options, or_any_text, untagged_options, options_of, adding, some_takes_all, HoldsRows}
use Rattle.schemars_types.proofs.keys.+keys.Given as goal

abbrev pub decreases-add_row : goal.decreases-add_row
decreases-add_row l = 4 * rank l.types.now l.n + 3

abbrev pub decreases-add_own : goal.decreases-add_own
decreases-add_own l = 4 * rank l.types.now l.n + 2

abbrev pub decreases-add_untagged : goal.decreases-add_untagged
decreases-add_untagged l = 4 * rank l.types.now l.n + 1

abbrev pub decreases-add_member : goal.decreases-add_member
decreases-add_member l = 4 * rank l.types.now l.n

abbrev pub invariant-add_untagged-loop-variant : goal.invariant-add_untagged-loop-variant
invariant-add_untagged-loop-variant l = record {
  holds : HoldsRows l.types l.found.rows.keys (options_of l.found.options);
  some : some_takes_all (all_options l.types) (map variant_of (drop l.variant-index l.variants)) ≡ false;
  added : adding (options_of l.found.options)
      (or_any_text (members_options (all_options l.types) (map variant_of (drop l.variant-index l.variants))))
      ≡ adding (options_of l.fn.found.options) (or_any_text (untagged_options (all_options l.types) (map variant_of l.variants)));
}
