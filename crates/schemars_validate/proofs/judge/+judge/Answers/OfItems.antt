-- The items of a list, and how many fit.
use Rattle.std.proofs.Common.{◌≡◌, ◌∙◌, ℕ, suc, ◌+◌, ◌++◌, List, Bool, true, refl, Option, Some, option_map, sym, ap, subst, arith, take, drop, set}
use Rattle.schemars_validate.proofs.Words.{◌&&◌, codes, if◌then◌else◌, Data, Items, items_depth, get_member, view, items_view, members_view, Verdict, Yes, both, is_yes, Part, position, where_some, one_more, count_of_fitting, judged_by_contains, read_data, context, follow, judge, meant, marked, positions_in, at_positions, fits_at, schema_at, judge_at, judges_of, each_item, counted_says, iter_rest, from_here, nothing_left, both-yes}
use Rattle.schemars_validate.proofs.Measures.{depth_at, schema_under}
use Rattle.schemars_validate.proofs.Contained.{no_contains, contained, no_contains_marks, contained_marks}
use Rattle.schemars_validate.proofs.Marking.{no_item_marked, mark_next, fitting_here}
use Rattle.schemars_validate.proofs.Stepping.{one_more_said, item_says, next_deep, added, added_one, IsFew, one_few, no_item_says}
use Rattle.schemars_validate.proofs.PartsKnown.{item_known, item_kept, list_known, list_kept}
use Rattle.serde_json.specs.declared.value.Value.{Value}
use Rattle.schemars_validate.proofs.judge.+judge.Goals as goal

pub lists::contains-returns-in_default-clause-verdict : goal.lists::contains-returns-in_default-clause-verdict
lists::contains-returns-in_default-clause-verdict g t c =
    let x = context c.args.d.now.dialect (view c.args.d.now.whole.now) (g.P.Patterns.reading c.args.d.now.patterns.now) c.args.left in
    let v = view c.args.value.now in
    let ms = members_view c.args.keywords.now.entries in
    let none = ap (option_map (λ s. view s.now)) (sym c.in_default.is) ∙ (c.schema_at-asked.ensures ∙ ap schema_at c.member.ensures) in
    no_contains c.args.d.now.dialect.reads_const c.args.d.now.dialect.reads_unevaluated x (get_member (codes "contains") ms)
    (get_member (codes "minContains") ms) (get_member (codes "maxContains") ms) v none

pub lists::contains-returns-in_default-clause-judged : goal.lists::contains-returns-in_default-clause-judged
lists::contains-returns-in_default-clause-judged g t c =
    let x = context c.args.d.now.dialect (view c.args.d.now.whole.now) (g.P.Patterns.reading c.args.d.now.patterns.now) c.args.left in
    let ms = members_view c.args.keywords.now.entries in
    let none = ap (option_map (λ s. view s.now)) (sym c.in_default.is) ∙ (c.schema_at-asked.ensures ∙ ap schema_at c.member.ensures) in
    no_contains_marks c.args.d.now.dialect.reads_prefix_items x (get_member (codes "contains") ms) (view c.args.value.now)
    c.args.marks.now.items none

pub lists::contains-returns-in_default-as_array-clause-judged : goal.lists::contains-returns-in_default-as_array-clause-judged
lists::contains-returns-in_default-as_array-clause-judged g t c =
    let x = context c.args.d.now.dialect (view c.args.d.now.whole.now) (g.P.Patterns.reading c.args.d.now.patterns.now) c.args.left in
    let ms = members_view c.args.keywords.now.entries in
    no_item_marked
    (judged_by_contains c.args.d.now.dialect.reads_prefix_items (option_map (read_data x) (get_member (codes "contains") ms))
    (view c.args.value.now))
    (view c.args.value.now) c.args.marks.now.items c.in_default-as_array.ensures

pub lists::contains-count_of_fitting-requires : goal.lists::contains-count_of_fitting-requires
lists::contains-count_of_fitting-requires g t c =
    let ms = members_view c.args.keywords.now.entries in
    let deep = ap (λ o. depth_at (option_map (λ s. view s.now) o)) c.in-Some.is in
    let same = ap depth_at (c.schema_at-asked.ensures ∙ ap schema_at c.member.ensures) in
    λ κs s. (omega (arith, deep, same, schema_under (codes "contains") ms, c.decreases), (s, (list_known (follow c.args.d.now.dialect (view c.args.d.now.whole.now) (g.P.Patterns.reading c.args.d.now.patterns.now)) (view c.args.value.now) c.args.memo.now c.in-Some-as_array.items.now.items _ c.in-Some-as_array.ensures c.deref.ensures.value c.requires)))

pub lists::contains-returns-clause-verdict : goal.lists::contains-returns-clause-verdict
lists::contains-returns-clause-verdict g t c =
    let x = context c.args.d.now.dialect (view c.args.d.now.whole.now) (g.P.Patterns.reading c.args.d.now.patterns.now) c.args.left in
    let v = view c.args.value.now in
    let ms = members_view c.args.keywords.now.entries in
    let r = c.args.d.now.dialect.reads_const in
    let counts = c.args.d.now.dialect.reads_unevaluated in
    let some = ap (option_map (λ s. view s.now)) (sym c.in-Some.is) ∙ (c.schema_at-asked.ensures ∙ ap schema_at c.member.ensures) in
    let d = view c.in-Some.schema.now in
    c.contained_says.ensures
    ∙ ((λ i. if r then counted_says counts (c.member-least.ensures i) (c.member-most.ensures i) c.in_ok-count.count else Yes)
    ∙ contained r counts x (get_member (codes "contains") ms) (get_member (codes "minContains") ms) (get_member (codes "maxContains") ms)
    d v (items_view c.in-Some-as_array.items.now.items) c.in_ok-count.count some c.in-Some-as_array.ensures
    (c.in_ok-count.ensures.counted ∙ ap (λ ds. count_of_fitting (judge x d) (items_view ds)) c.deref.ensures.value))

pub lists::contains-returns-clause-judged : goal.lists::contains-returns-clause-judged
lists::contains-returns-clause-judged g t c =
    let x = context c.args.d.now.dialect (view c.args.d.now.whole.now) (g.P.Patterns.reading c.args.d.now.patterns.now) c.args.left in
    let v = view c.args.value.now in
    let ms = members_view c.args.keywords.now.entries in
    let r = c.args.d.now.dialect.reads_prefix_items in
    let some = ap (option_map (λ s. view s.now)) (sym c.in-Some.is) ∙ (c.schema_at-asked.ensures ∙ ap schema_at c.member.ensures) in
    let d = view c.in-Some.schema.now in
    let old = c.args.marks.now.items in
    contained_marks r x (get_member (codes "contains") ms) d v (items_view c.in-Some-as_array.items.now.items) old
    c.count_of_fitting.new.marks.items some c.in-Some-as_array.ensures
    (c.in_ok-count.ensures.judged
    ∙ ap (λ ds. marked (at_positions (fits_at r (judge x d) (items_view ds))) (positions_in 0 (items_view ds)) old) c.deref.ensures.value)

pub lists::items-part_at-requires : goal.lists::items-part_at-requires
lists::items-part_at-requires g t c =
    let deep = next_deep c.next-next.result c.loop-place.first c.next-next.new.self (option_map (λ s. view s.now) c.args.schemas.now.others)
    (items_depth (items_view c.args.schemas.now.first.now)) c.next-next.ensures.steps c.loop-place.invariant.deep in
    let same = ap depth_at c.or_else-schema.ensures in
    let here = item_known (follow c.args.d.now.dialect (view c.args.d.now.whole.now) (g.P.Patterns.reading c.args.d.now.patterns.now)) (view c.args.value.now) c.loop-place.memo c.deref-item-items.result.now c.loop-place.place
    c.item-item.result (ap (λ (zs : List Value). Some (items_view zs)) c.deref-item-items.ensures.value ∙ c.in-Some.ensures) c.loop-place-test.true c.item-item.is
    c.loop-place.invariant.known in
    λ κs s. (omega (arith, deep.1, same, c.decreases), (s, here))

pub lists::items-loop-place-preserved : goal.lists::items-loop-place-preserved
lists::items-loop-place-preserved g t c =
    let x = context c.args.d.now.dialect (view c.args.d.now.whole.now) (g.P.Patterns.reading c.args.d.now.patterns.now) c.args.left in
    let others = option_map (λ s. view s.now) c.args.schemas.now.others in
    let xs = c.deref-item-items.result.now in
    let v = view c.item-item.result in
    let said = c.in_ok-part_at.ensures.verdict ∙ ap (λ (o : Option Data). where_some (judge_at x o) (λ j. j.fits v)) c.or_else-schema.ensures in
    let vs = items_view (drop (c.loop-place.place + 1) xs) in
    record {
      known = item_kept (follow c.args.d.now.dialect (view c.args.d.now.whole.now) (g.P.Patterns.reading c.args.d.now.patterns.now)) (view c.args.value.now) c.loop-place.memo _ xs c.loop-place.place
          c.item-item.result (ap (λ (zs : List Value). Some (items_view zs)) c.deref-item-items.ensures.value ∙ c.in-Some.ensures) c.loop-place-test.true c.item-item.is
          c.loop-place.invariant.known c.part_at.ensures.keeps;
      deep = (next_deep c.next-next.result c.loop-place.first c.next-next.new.self others
          (items_depth (items_view c.args.schemas.now.first.now)) c.next-next.ensures.steps c.loop-place.invariant.deep).0;
      rest = one_more_said (meant c.loop-place.says) _ (meant c.both-says.result) _ _ (c.both-says.ensures ∙ ap (both (meant c.loop-place.says)) said)
          (ap (both (meant c.loop-place.says)) (sym (item_says x c.next-next.result c.loop-place.first c.next-next.new.self others v vs c.next-next.ensures.steps))
          ∙ (sym (ap (λ (ds : Items). both (meant c.loop-place.says) (each_item (judges_of x (items_view (iter_rest c.loop-place.first))) (judge_at x others) ds))
          (from_here xs c.loop-place.place c.item-item.result c.loop-place-test.true c.item-item.is))
          ∙ c.loop-place.invariant.rest));
    }

pub lists::count_of_fitting-part_at-requires : goal.lists::count_of_fitting-part_at-requires
lists::count_of_fitting-part_at-requires g t c =
    let here = item_known (follow c.args.d.now.dialect (view c.args.d.now.whole.now) (g.P.Patterns.reading c.args.d.now.patterns.now)) _ c.loop-place.memo c.args.items.now c.loop-place.place
    c.index-items-place.result refl c.loop-place-test.true c.index-items-place.is c.loop-place.invariant.known in
    λ κs s. (omega (arith, c.decreases), (s, here))

pub lists::count_of_fitting-loop-place-preserved : goal.lists::count_of_fitting-loop-place-preserved
lists::count_of_fitting-loop-place-preserved g t c =
    let x = context c.args.d.now.dialect (view c.args.d.now.whole.now) (g.P.Patterns.reading c.args.d.now.patterns.now) c.args.left in
    let r = c.args.d.now.dialect.reads_prefix_items in
    let xs = c.args.items.now in
    let i = c.loop-place.place in
    let w = c.index-items-place.result in
    let s = judge x (view c.args.schema.now) in
    let f : Part → Bool = at_positions (fits_at r s (items_view xs)) in
    let S = meant c.in_ok-says.says in
    let N = c.loop-place.count in
    let old = c.loop-place.marks.items in
    let new = c.mark_fitting.new.marks.items in
    let rest = items_view (drop (i + 1) xs) in
    let next : i + 1 ≡ suc i = omega arith in
    let here = from_here xs i w c.loop-place-test.true c.index-items-place.is in
    record {
      known = item_kept (follow c.args.d.now.dialect (view c.args.d.now.whole.now) (g.P.Patterns.reading c.args.d.now.patterns.now)) _ c.loop-place.memo _ xs i w refl c.loop-place-test.true c.index-items-place.is
          c.loop-place.invariant.known c.part_at.ensures.keeps;
      counted = ap (λ (n : Option ℕ). added n (count_of_fitting s rest))
          (c.one_more-count.ensures ∙ ap (λ (y : Verdict). one_more y N) c.in_ok-says.ensures.verdict)
          ∙ (added_one (s.fits (view w)) N (count_of_fitting s rest)
          ∙ (sym (ap (λ (ds : Items). added N (count_of_fitting s ds)) here) ∙ c.loop-place.invariant.counted));
      few = subst (λ (n : Option ℕ). IsFew n (i + 1)) (sym c.one_more-count.ensures) (one_few S N i c.loop-place.invariant.few);
      judged = ap (λ (k : ℕ). take (i + 1) new ++ marked f (positions_in k rest) (drop (i + 1) new)) next
          ∙ (mark_next f (position i) (positions_in (suc i) rest) old new i (r && is_yes S)
          (fitting_here r s xs i w S c.loop-place-test.true c.index-items-place.is c.in_ok-says.ensures.verdict)
          (c.mark_fitting.ensures ∙ ap (λ (b : Bool). if b && is_yes S then set old i true else old) c.reads_prefix_items.ensures)
          ∙ (sym (ap (λ (ds : Items). take i old ++ marked f (positions_in i ds) (drop i old)) here) ∙ c.loop-place.invariant.judged));
    }

pub lists::items-returns-clause-verdict : goal.lists::items-returns-clause-verdict
lists::items-returns-clause-verdict g t c =
    let x = context c.args.d.now.dialect (view c.args.d.now.whole.now) (g.P.Patterns.reading c.args.d.now.patterns.now) c.args.left in
    let others = option_map (λ s. view s.now) c.args.schemas.now.others in
    let S = meant c.loop-place.says in
    let none = nothing_left c.deref-item-items.result.now c.loop-place.place c.loop-place-test.false in
    sym (both-yes S)
    ∙ (sym (ap (both S) (no_item_says (judges_of x (items_view (iter_rest c.loop-place.first))) (judge_at x others)))
    ∙ (sym (ap (λ (ds : Items). both S (each_item (judges_of x (items_view (iter_rest c.loop-place.first))) (judge_at x others) ds)) none)
    ∙ c.loop-place.invariant.rest))

pub lists::contains-returns-clause-keeps : goal.lists::contains-returns-clause-keeps
lists::contains-returns-clause-keeps g t c =
    list_kept (follow c.args.d.now.dialect (view c.args.d.now.whole.now) (g.P.Patterns.reading c.args.d.now.patterns.now)) (view c.args.value.now) c.count_of_fitting.new.memo c.in-Some-as_array.items.now.items _ c.in-Some-as_array.ensures
    c.deref.ensures.value c.count_of_fitting.ensures.keeps

pub lists::items-returns-clause-keeps : goal.lists::items-returns-clause-keeps
lists::items-returns-clause-keeps g t c = c.loop-place.invariant.known

pub lists::items-returns-in_err-part_at-clause-keeps : goal.lists::items-returns-in_err-part_at-clause-keeps
lists::items-returns-in_err-part_at-clause-keeps g t c =
    item_kept (follow c.args.d.now.dialect (view c.args.d.now.whole.now) (g.P.Patterns.reading c.args.d.now.patterns.now)) (view c.args.value.now) c.loop-place.memo _ c.deref-item-items.result.now c.loop-place.place
    c.item-item.result (ap (λ (zs : List Value). Some (items_view zs)) c.deref-item-items.ensures.value ∙ c.in-Some.ensures) c.loop-place-test.true c.item-item.is
    c.loop-place.invariant.known c.part_at.ensures.keeps

pub lists::count_of_fitting-returns-in_err-says-clause-keeps : goal.lists::count_of_fitting-returns-in_err-says-clause-keeps
lists::count_of_fitting-returns-in_err-says-clause-keeps g t c =
    item_kept (follow c.args.d.now.dialect (view c.args.d.now.whole.now) (g.P.Patterns.reading c.args.d.now.patterns.now)) _ c.loop-place.memo _ c.args.items.now c.loop-place.place c.index-items-place.result refl
    c.loop-place-test.true c.index-items-place.is c.loop-place.invariant.known c.part_at.ensures.keeps
