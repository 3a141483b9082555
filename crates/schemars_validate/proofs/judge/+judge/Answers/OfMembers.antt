-- The members of an object, and the patterns that a key matches.
use Rattle.std.proofs.Common.{◌∙◌, List, Bool, Some, length, refl, rules, Option, option_map, sym, ap, arith}
use Rattle.schemars_validate.proofs.Words.{◌||◌, is_some, if◌then◌else◌, Data, Members, view, members_view, Text, Yes, both, where_some, each_member, matches, by_patterns, matches_some, context, follow, judge, meant, judge_at, named_judges_in, named_judges, member_by, Entry, both-yes}
use Rattle.schemars_validate.proofs.Measures.{depth_at}
use Rattle.schemars_validate.proofs.Marking.{mapped_some}
use Rattle.schemars_validate.proofs.Stepping.{one_more_said, entry_deep, named_deep, others_deep, member_parts, one_matches, none_matches, or_no}
use Rattle.schemars_validate.proofs.PartsKnown.{member_known, member_kept, next_there}
use Rattle.schemars_validate.specs.Memos.{IsKnown}
use Rattle.schemars_validate.proofs.judge.+judge.Goals as goal

pub objects::members-loop-place-init : goal.objects::members-loop-place-init
objects::members-loop-place-init g t c =
    let reading = g.P.Patterns.reading c.args.d.now.patterns.now in
    let x = context c.args.d.now.dialect (view c.args.d.now.whole.now) reading c.args.left in
    let f = member_by reading (named_judges_in x (option_map (λ s. members_view s.now.entries) c.args.schemas.now.named))
    (named_judges_in x (option_map (λ s. members_view s.now.entries) c.args.schemas.now.by_pattern))
    (judge_at x (option_map (λ s. view s.now) c.args.schemas.now.others)) in
    let same = ap (λ (es : List Entry). Some (members_view es)) c.iter-key-items.ensures.rest ∙ c.in-Some.ensures in
    let many = ap length c.iter-key-items.ensures.rest in
    record {
      known = c.requires;
      there = refl;
      same = same;
      few = omega (arith, many, c.iter-key-items.ensures.fits);
      rest = ap (λ (o : Option Members). where_some o (each_member f)) same;
    }

pub objects::members-member_at-requires : goal.objects::members-member_at-requires
objects::members-member_at-requires g t c =
    let here = member_known (follow c.args.d.now.dialect (view c.args.d.now.whole.now) (g.P.Patterns.reading c.args.d.now.patterns.now)) (view c.args.value.now) c.loop-place.memo c.iter-key-items.result c.loop-place.place
    (c.in-Some-2.key.now, c.in-Some-2.member.now) c.next.new.self c.loop-place.invariant.same (c.loop-place.invariant.there ∙ c.in-Some-2.ensures.steps) c.loop-place.invariant.known in
    λ κs s. (omega (arith, c.decreases), (s, here))

pub objects::members-loop-place-preserved : goal.objects::members-loop-place-preserved
objects::members-loop-place-preserved g t c =
    let reading = g.P.Patterns.reading c.args.d.now.patterns.now in
    let x = context c.args.d.now.dialect (view c.args.d.now.whole.now) reading c.args.left in
    let f = member_by reading (named_judges_in x (option_map (λ s. members_view s.now.entries) c.args.schemas.now.named))
    (named_judges_in x (option_map (λ s. members_view s.now.entries) c.args.schemas.now.by_pattern))
    (judge_at x (option_map (λ s. view s.now) c.args.schemas.now.others)) in
    let S = meant c.loop-place.says in
    let there = c.loop-place.invariant.there ∙ c.in-Some-2.ensures.steps in
    record {
      known = member_kept (follow c.args.d.now.dialect (view c.args.d.now.whole.now) (g.P.Patterns.reading c.args.d.now.patterns.now)) (view c.args.value.now) c.loop-place.memo _ c.iter-key-items.result c.loop-place.place
          (c.in-Some-2.key.now, c.in-Some-2.member.now) c.next.new.self c.loop-place.invariant.same there c.loop-place.invariant.known c.member_at.ensures.keeps;
      there = next_there c.iter-key-items.result c.loop-place.place (c.in-Some-2.key.now, c.in-Some-2.member.now) c.next.new.self there;
      same = c.loop-place.invariant.same;
      few = let more = ap length c.in-Some-2.ensures.steps in omega (arith, more, c.loop-place.invariant.few);
      rest = one_more_said S _ (meant c.both-says.result) _ _
          (c.both-says.ensures ∙ ap (both S) (c.in_ok-member_at.ensures.verdict ∙ ap (λ (k : Text). f k (view c.in-Some-2.member.now)) c.as_str.ensures.value))
          (sym (ap (λ (es : List Entry). both S (each_member f (members_view es))) c.in-Some-2.ensures.steps) ∙ c.loop-place.invariant.rest);
    }

pub objects::one_member-alone-requires : goal.objects::one_member-alone-requires
objects::one_member-alone-requires g t c =
    let same = ap depth_at c.schema_named-named.ensures in
    let deep = named_deep c.args.key.now (option_map (λ s. members_view s.now.entries) c.args.schemas.now.named) in
    let known : IsKnown (follow c.args.d.now.dialect (view c.args.d.now.whole.now) (g.P.Patterns.reading c.args.d.now.patterns.now)) (view c.args.member.now) c.args.memo.now = search rules in
    λ κs s. (omega (arith, same, deep), (s, known))

pub objects::one_member-alone-requires-2 : goal.objects::one_member-alone-requires-2
objects::one_member-alone-requires-2 g t c =
    let same = ap depth_at c.others_for-rest.ensures in
    let deep = others_deep (is_some c.schema_named-named.result || c.in_ok-matched.matched.some) (option_map (λ s. view s.now) c.args.schemas.now.others) in
    λ κs s. (omega (arith, same, deep), (s, c.matching.ensures.keeps))

pub objects::one_member-returns-clause-verdict : goal.objects::one_member-returns-clause-verdict
objects::one_member-returns-clause-verdict g t c =
    let reading = g.P.Patterns.reading c.args.d.now.patterns.now in
    let x = context c.args.d.now.dialect (view c.args.d.now.whole.now) reading c.args.left in
    let w = view c.args.member.now in
    let said = λ (o : Option Data). where_some (judge_at x o) (λ j. j.fits w) in
    c.both-2.ensures
    ∙ (ap (both (meant c.in_ok-says.says)) c.both.ensures
    ∙ member_parts reading x (option_map (λ s. members_view s.now.entries) c.args.schemas.now.named)
    (option_map (λ s. members_view s.now.entries) c.args.schemas.now.by_pattern) (option_map (λ s. view s.now) c.args.schemas.now.others)
    c.args.key.now w (is_some c.schema_named-named.result) c.in_ok-matched.matched.some _ _ _
    (c.in_ok-says.ensures.verdict ∙ ap said c.schema_named-named.ensures)
    c.in_ok-matched.ensures.says
    (mapped_some (λ s. view s.now) c.schema_named-named.result ∙ ap is_some c.schema_named-named.ensures)
    c.in_ok-matched.ensures.some
    (c.in_ok-others.ensures.verdict ∙ ap said c.others_for-rest.ensures))

pub objects::matching-alone-requires : goal.objects::matching-alone-requires
objects::matching-alone-requires g t c =
    let deep = entry_deep (c.in-Some-2.pattern.now, c.in-Some-2.schema.now) c.loop-pattern.pattern-iterator c.next.new.self
    c.in-Some-2.ensures.steps in
    λ κs s. (omega (arith, deep.0, c.loop-pattern.invariant.deep), (s, c.loop-pattern.invariant.known))

pub objects::matching-loop-pattern-preserved-then-matches : goal.objects::matching-loop-pattern-preserved-then-matches
objects::matching-loop-pattern-preserved-then-matches g t c =
    let reading = g.P.Patterns.reading c.args.d.now.patterns.now in
    let x = context c.args.d.now.dialect (view c.args.d.now.whole.now) reading c.args.left in
    let k = c.args.key.now in
    let w = view c.args.member.now in
    let s = judge x (view c.in-Some-2.schema.now) in
    let S = meant c.loop-pattern.says in
    let steps = c.in-Some-2.ensures.steps in
    let matched = sym (c.matches.ensures ∙ ap (λ (p : Text). matches reading p k) c.as_str.ensures.value) ∙ c.if-matches.true in
    let deep = entry_deep (c.in-Some-2.pattern.now, c.in-Some-2.schema.now) c.loop-pattern.pattern-iterator c.next.new.self steps in
    record {
      known = c.alone.ensures.keeps;
      deep = omega (arith, deep.1, c.loop-pattern.invariant.deep);
      rest = one_more_said S _ (meant c.both-says.result) _ _
          (c.both-says.ensures ∙ ap (both S) (c.in_ok-alone.ensures.verdict ∙ sym (ap (λ (b : Bool). if b then s.fits w else Yes) matched)))
          (sym (ap (λ (es : List Entry). both S (by_patterns reading (named_judges x (members_view es)) k w)) steps) ∙ c.loop-pattern.invariant.rest);
      some = one_matches c.loop-pattern.some _ _ _ matched
          (sym (ap (λ (es : List Entry). c.loop-pattern.some || matches_some reading (named_judges x (members_view es)) k) steps)
          ∙ c.loop-pattern.invariant.some);
    }

pub objects::matching-loop-pattern-preserved : goal.objects::matching-loop-pattern-preserved
objects::matching-loop-pattern-preserved g t c =
    let reading = g.P.Patterns.reading c.args.d.now.patterns.now in
    let x = context c.args.d.now.dialect (view c.args.d.now.whole.now) reading c.args.left in
    let k = c.args.key.now in
    let w = view c.args.member.now in
    let s = judge x (view c.in-Some-2.schema.now) in
    let S = meant c.loop-pattern.says in
    let steps = c.in-Some-2.ensures.steps in
    let matched = sym (c.matches.ensures ∙ ap (λ (p : Text). matches reading p k) c.as_str.ensures.value) ∙ c.if-matches.false in
    let deep = entry_deep (c.in-Some-2.pattern.now, c.in-Some-2.schema.now) c.loop-pattern.pattern-iterator c.next.new.self steps in
    let R = by_patterns reading (named_judges x (members_view c.next.new.self)) k w in
    record {
      known = c.loop-pattern.invariant.known;
      deep = omega (arith, deep.1, c.loop-pattern.invariant.deep);
      rest = sym (ap (λ (b : Bool). both S (both (if b then s.fits w else Yes) R)) matched)
          ∙ (sym (ap (λ (es : List Entry). both S (by_patterns reading (named_judges x (members_view es)) k w)) steps) ∙ c.loop-pattern.invariant.rest);
      some = none_matches c.loop-pattern.some _ _ _ matched
          (sym (ap (λ (es : List Entry). c.loop-pattern.some || matches_some reading (named_judges x (members_view es)) k) steps)
          ∙ c.loop-pattern.invariant.some);
    }

pub objects::matching-returns-clause-says : goal.objects::matching-returns-clause-says
objects::matching-returns-clause-says g t c =
    let reading = g.P.Patterns.reading c.args.d.now.patterns.now in
    let x = context c.args.d.now.dialect (view c.args.d.now.whole.now) reading c.args.left in
    let S = meant c.loop-pattern.says in
    sym (both-yes S)
    ∙ (sym (ap (λ (es : List Entry). both S (by_patterns reading (named_judges x (members_view es)) c.args.key.now (view c.args.member.now))) c.in-None.ensures.steps.0)
    ∙ c.loop-pattern.invariant.rest)

pub objects::matching-returns-clause-some : goal.objects::matching-returns-clause-some
objects::matching-returns-clause-some g t c =
    let reading = g.P.Patterns.reading c.args.d.now.patterns.now in
    let x = context c.args.d.now.dialect (view c.args.d.now.whole.now) reading c.args.left in
    sym (or_no c.loop-pattern.some)
    ∙ (sym (ap (λ (es : List Entry). c.loop-pattern.some || matches_some reading (named_judges x (members_view es)) c.args.key.now) c.in-None.ensures.steps.0)
    ∙ c.loop-pattern.invariant.some)

pub objects::members-returns-clause-verdict : goal.objects::members-returns-clause-verdict
objects::members-returns-clause-verdict g t c =
    let reading = g.P.Patterns.reading c.args.d.now.patterns.now in
    let x = context c.args.d.now.dialect (view c.args.d.now.whole.now) reading c.args.left in
    let f = member_by reading (named_judges_in x (option_map (λ s. members_view s.now.entries) c.args.schemas.now.named))
    (named_judges_in x (option_map (λ s. members_view s.now.entries) c.args.schemas.now.by_pattern))
    (judge_at x (option_map (λ s. view s.now) c.args.schemas.now.others)) in
    let S = meant c.loop-place.says in
    sym (both-yes S)
    ∙ (sym (ap (λ (es : List Entry). both S (each_member f (members_view es))) c.in-None.ensures.steps.0) ∙ c.loop-place.invariant.rest)

pub objects::members-returns-clause-keeps : goal.objects::members-returns-clause-keeps
objects::members-returns-clause-keeps g t c = c.loop-place.invariant.known

pub objects::members-returns-in_err-member_at-clause-keeps : goal.objects::members-returns-in_err-member_at-clause-keeps
objects::members-returns-in_err-member_at-clause-keeps g t c =
    member_kept (follow c.args.d.now.dialect (view c.args.d.now.whole.now) (g.P.Patterns.reading c.args.d.now.patterns.now)) (view c.args.value.now) c.loop-place.memo _ c.iter-key-items.result c.loop-place.place
    (c.in-Some-2.key.now, c.in-Some-2.member.now) c.next.new.self c.loop-place.invariant.same
    (c.loop-place.invariant.there ∙ c.in-Some-2.ensures.steps) c.loop-place.invariant.known c.member_at.ensures.keeps
