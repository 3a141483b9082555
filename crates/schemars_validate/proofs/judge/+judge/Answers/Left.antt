-- The parts without a mark.
use Rattle.std.proofs.Common.{◌∙◌, ◌+◌, List, refl, Option, option_map, sym, ap, arith, drop}
use Rattle.schemars_validate.proofs.Words.{string_bytes, Data, Items, view, items_view, members_view, both, where_some, context, follow, judge, meant, each_unmarked, each_unmarked_item, is_marked, judge_at, iter_rest, Entry, from_here, nothing_left, both-yes}
use Rattle.schemars_validate.proofs.Measures.{depth_at}
use Rattle.schemars_validate.proofs.Stepping.{one_more_said, unmarked_member_says, unmarked_item_says, asked_deep}
use Rattle.schemars_validate.proofs.PartsKnown.{item_known, item_kept, member_known, member_kept, next_there}
use Rattle.schemars_validate.proofs.judge.+judge.Goals as goal

pub rest::unevaluated_items-part_at-requires : goal.rest::unevaluated_items-part_at-requires
rest::unevaluated_items-part_at-requires g t c =
    let same = ap depth_at c.unless_marked-asked.ensures in
    let deep = asked_deep (is_marked (option_map (λ b. b.now) c.next-mark.result)) (view c.args.schema.now) in
    let here = item_known (follow c.args.d.now.dialect (view c.args.d.now.whole.now) (g.P.Patterns.reading c.args.d.now.patterns.now)) _ c.loop-place.memo c.args.items.now c.loop-place.place
    c.index-items-place.result refl c.loop-place-test.true c.index-items-place.is c.loop-place.invariant.known in
    λ κs s. (omega (arith, same, deep, c.decreases), (s, here))

pub rest::unevaluated_items-loop-place-preserved : goal.rest::unevaluated_items-loop-place-preserved
rest::unevaluated_items-loop-place-preserved g t c =
    let x = context c.args.d.now.dialect (view c.args.d.now.whole.now) (g.P.Patterns.reading c.args.d.now.patterns.now) c.args.left in
    let xs = c.args.items.now in
    let w = view c.index-items-place.result in
    let ws = items_view (drop (c.loop-place.place + 1) xs) in
    let d = view c.args.schema.now in
    let S = meant c.loop-place.says in
    record {
      known = item_kept (follow c.args.d.now.dialect (view c.args.d.now.whole.now) (g.P.Patterns.reading c.args.d.now.patterns.now)) _ c.loop-place.memo _ xs c.loop-place.place c.index-items-place.result refl c.loop-place-test.true
          c.index-items-place.is c.loop-place.invariant.known c.part_at.ensures.keeps;
      rest = one_more_said S _ (meant c.both-says.result) _ _
          (c.both-says.ensures ∙ ap (both S) (c.in_ok-part_at.ensures.verdict
          ∙ ap (λ (o : Option Data). where_some (judge_at x o) (λ j. j.fits w)) c.unless_marked-asked.ensures))
          (ap (both S) (sym (unmarked_item_says x d c.next-mark.result c.loop-place.marks c.next-mark.new.self w ws c.next-mark.ensures.steps))
          ∙ (sym (ap (λ (ds : Items). both S (each_unmarked_item (judge x d) ds (iter_rest c.loop-place.marks)))
          (from_here xs c.loop-place.place c.index-items-place.result c.loop-place-test.true c.index-items-place.is))
          ∙ c.loop-place.invariant.rest));
    }

pub rest::unevaluated_members-part_at-requires : goal.rest::unevaluated_members-part_at-requires
rest::unevaluated_members-part_at-requires g t c =
    let same = ap depth_at c.unless_marked-asked.ensures in
    let deep = asked_deep (is_marked (option_map (λ b. b.now) c.next-mark.result)) (view c.args.schema.now) in
    let here = member_known (follow c.args.d.now.dialect (view c.args.d.now.whole.now) (g.P.Patterns.reading c.args.d.now.patterns.now)) _ c.loop-place.memo c.args.members.now.entries c.loop-place.place
    (c.in-Some.field-0-0.now, c.in-Some.member.now) c.next.new.self refl (c.loop-place.invariant.there ∙ c.in-Some.ensures.steps) c.loop-place.invariant.known in
    λ κs s. (omega (arith, same, deep, c.decreases), (s, here))

pub rest::unevaluated_members-loop-place-preserved : goal.rest::unevaluated_members-loop-place-preserved
rest::unevaluated_members-loop-place-preserved g t c =
    let x = context c.args.d.now.dialect (view c.args.d.now.whole.now) (g.P.Patterns.reading c.args.d.now.patterns.now) c.args.left in
    let w = view c.in-Some.member.now in
    let d = view c.args.schema.now in
    let S = meant c.loop-place.says in
    let e : Entry = (c.in-Some.field-0-0.now, c.in-Some.member.now) in
    let there = c.loop-place.invariant.there ∙ c.in-Some.ensures.steps in
    record {
      known = member_kept (follow c.args.d.now.dialect (view c.args.d.now.whole.now) (g.P.Patterns.reading c.args.d.now.patterns.now)) _ c.loop-place.memo _ c.args.members.now.entries c.loop-place.place e c.next.new.self refl there
          c.loop-place.invariant.known c.part_at.ensures.keeps;
      there = next_there c.args.members.now.entries c.loop-place.place e c.next.new.self there;
      rest = one_more_said S _ (meant c.both-says.result) _ _
          (c.both-says.ensures ∙ ap (both S) (c.in_ok-part_at.ensures.verdict
          ∙ ap (λ (o : Option Data). where_some (judge_at x o) (λ j. j.fits w)) c.unless_marked-asked.ensures))
          (ap (both S) (sym (unmarked_member_says x d c.next-mark.result c.loop-place.marks c.next-mark.new.self
          (string_bytes c.in-Some.field-0-0.now) w (members_view c.next.new.self) c.next-mark.ensures.steps))
          ∙ (sym (ap (λ (es : List Entry). both S (each_unmarked (judge x d) (members_view es) (iter_rest c.loop-place.marks))) c.in-Some.ensures.steps)
          ∙ c.loop-place.invariant.rest));
    }

pub rest::unevaluated_members-returns-clause-verdict : goal.rest::unevaluated_members-returns-clause-verdict
rest::unevaluated_members-returns-clause-verdict g t c =
    let x = context c.args.d.now.dialect (view c.args.d.now.whole.now) (g.P.Patterns.reading c.args.d.now.patterns.now) c.args.left in
    let d = view c.args.schema.now in
    let S = meant c.loop-place.says in
    sym (both-yes S)
    ∙ (sym (ap (λ (es : List Entry). both S (each_unmarked (judge x d) (members_view es) (iter_rest c.loop-place.marks))) c.in-None.ensures.steps.0)
    ∙ c.loop-place.invariant.rest)

pub rest::unevaluated_items-returns-clause-verdict : goal.rest::unevaluated_items-returns-clause-verdict
rest::unevaluated_items-returns-clause-verdict g t c =
    let x = context c.args.d.now.dialect (view c.args.d.now.whole.now) (g.P.Patterns.reading c.args.d.now.patterns.now) c.args.left in
    let d = view c.args.schema.now in
    let S = meant c.loop-place.says in
    sym (both-yes S)
    ∙ (sym (ap (λ (ds : Items). both S (each_unmarked_item (judge x d) ds (iter_rest c.loop-place.marks)))
    (nothing_left c.args.items.now c.loop-place.place c.loop-place-test.false))
    ∙ c.loop-place.invariant.rest)

pub rest::unevaluated_items-returns-in_err-part_at-clause-keeps : goal.rest::unevaluated_items-returns-in_err-part_at-clause-keeps
rest::unevaluated_items-returns-in_err-part_at-clause-keeps g t c =
    item_kept (follow c.args.d.now.dialect (view c.args.d.now.whole.now) (g.P.Patterns.reading c.args.d.now.patterns.now)) _ c.loop-place.memo _ c.args.items.now c.loop-place.place c.index-items-place.result refl
    c.loop-place-test.true c.index-items-place.is c.loop-place.invariant.known c.part_at.ensures.keeps

pub rest::unevaluated_members-returns-in_err-part_at-clause-keeps : goal.rest::unevaluated_members-returns-in_err-part_at-clause-keeps
rest::unevaluated_members-returns-in_err-part_at-clause-keeps g t c =
    member_kept (follow c.args.d.now.dialect (view c.args.d.now.whole.now) (g.P.Patterns.reading c.args.d.now.patterns.now)) _ c.loop-place.memo _ c.args.members.now.entries c.loop-place.place
    (c.in-Some.field-0-0.now, c.in-Some.member.now) c.next.new.self refl (c.loop-place.invariant.there ∙ c.in-Some.ensures.steps)
    c.loop-place.invariant.known c.part_at.ensures.keeps
