-- Several schemas of the same value: all of a list, and those beside members.
use Rattle.std.proofs.Common.{◌∙◌, ◌+◌, List, Option, option_map, sym, ap, arith, drop}
use Rattle.schemars_validate.proofs.Words.{string_bytes, codes, map, Data, Items, Members, get_member, view, items_view, members_view, Text, Verdict, all_of, both, reads_dependencies, where_some, dependent_required_says, beside_members, judged_by_some, context, judge, meant, marked, parts_of, judged_by_one, members_where_read, judge_at, judges_of, judges_among, judges_among_in, dependents_by, Entry, from_here, nothing_left, SoFar, so_far, with_one, with_each, taken_by}
use Rattle.schemars_validate.proofs.Measures.{depth_at, members_depth_at, among_under}
use Rattle.schemars_validate.proofs.Readings.{read_dependencies}
use Rattle.schemars_validate.proofs.JudgedBeside.{no_beside_marks, no_object_marks}
use Rattle.schemars_validate.proofs.MarkedAlike.{marked_none}
use Rattle.schemars_validate.proofs.OneSchema.{next_marks}
use Rattle.schemars_validate.proofs.Stepping.{one_more_said, beside_at, beside_deep, with_schema_says, with_schema_judges, item_under, entry_deep}
use Rattle.schemars_validate.proofs.judge.+judge.Goals as goal

pub several::dependents-returns-in_default-clause-judged : goal.several::dependents-returns-in_default-clause-judged
several::dependents-returns-in_default-clause-judged g t c =
    rw c.in_default.is (no_beside_marks (view c.args.value.now) (parts_of (view c.args.value.now)) c.args.marks.now.items)

pub several::dependents-returns-in_default-as_object-clause-judged : goal.several::dependents-returns-in_default-as_object-clause-judged
several::dependents-returns-in_default-as_object-clause-judged g t c =
    let x = context c.args.d.now.dialect (view c.args.d.now.whole.now) (g.P.Patterns.reading c.args.d.now.patterns.now) c.args.left in
    no_object_marks (judges_among_in x (option_map (λ s. members_view s.now.entries) c.args.by_name)) (view c.args.value.now)
    (parts_of (view c.args.value.now)) c.args.marks.now.items c.in_default-as_object.ensures

pub several::dependents-branch-d-requires : goal.several::dependents-branch-d-requires
several::dependents-branch-d-requires g t c =
    let name = string_bytes c.in-Some-2.name.now in
    let ms = members_view c.in-Some-as_object.members.now.entries in
    let same = ap depth_at (c.schema_beside-asked.ensures
    ∙ ap (λ (k : Text). beside_at ms k (view c.in-Some-2.schema.now)) c.as_str.ensures.value) in
    let deep = entry_deep (c.in-Some-2.name.now, c.in-Some-2.schema.now) c.loop-name.name-iterator c.next.new.self
    c.in-Some-2.ensures.steps in
    let shallow = beside_deep ms name (view c.in-Some-2.schema.now) in
    λ κs s. (omega (arith, same, shallow, deep.0, c.loop-name.invariant.deep, c.decreases), (s, c.loop-name.invariant.known))

pub several::dependents-loop-name-preserved : goal.several::dependents-loop-name-preserved
several::dependents-loop-name-preserved g t c =
    let x = context c.args.d.now.dialect (view c.args.d.now.whole.now) (g.P.Patterns.reading c.args.d.now.patterns.now) c.args.left in
    let v = view c.args.value.now in
    let ps = parts_of v in
    let ms = members_view c.in-Some-as_object.members.now.entries in
    let d = view c.in-Some-2.schema.now in
    let S = meant c.loop-name.says in
    let marks = c.loop-name.marks.items in
    let steps = c.in-Some-2.ensures.steps in
    let name = string_bytes c.in-Some-2.name.now in
    let asked = c.schema_beside-asked.ensures ∙ ap (λ (k : Text). beside_at ms k d) c.as_str.ensures.value in
    let rest = judges_among x (members_view c.next.new.self) in
    let deep = entry_deep (c.in-Some-2.name.now, c.in-Some-2.schema.now) c.loop-name.name-iterator c.next.new.self steps in
    record {
      known = c.branch-d.ensures.keeps;
      deep = omega (arith, deep.1, c.loop-name.invariant.deep);
      rest = one_more_said S _ (meant c.both-says.result) _ _
          (c.both-says.ensures ∙ ap (both S) (c.in_ok-branch.ensures.verdict
          ∙ ap (λ (o : Option Data). where_some (judge_at x o) (λ j. j.fits v)) asked))
          (ap (both S) (sym (with_schema_says x ms name d v rest))
          ∙ (sym (ap (λ (es : List Entry). both S (all_of (map (λ j. j.fits v) (beside_members (judges_among x (members_view es)) ms)))) steps)
          ∙ c.loop-name.invariant.rest));
      judged = with_schema_judges x ms name d v rest ps marks c.branch-d.new.marks.items
          (c.in_ok-branch.ensures.judged ∙ ap (λ (o : Option Data). marked (judged_by_one (judge_at x o) v) ps marks) asked)
          ∙ (sym (ap (λ (es : List Entry). marked (judged_by_some (beside_members (judges_among x (members_view es)) ms) v) ps marks) steps)
          ∙ c.loop-name.invariant.judged);
    }

pub several::dependents-returns-clause-judged : goal.several::dependents-returns-clause-judged
several::dependents-returns-clause-judged g t c =
    let x = context c.args.d.now.dialect (view c.args.d.now.whole.now) (g.P.Patterns.reading c.args.d.now.patterns.now) c.args.left in
    let v = view c.args.value.now in
    let ms = members_view c.in-Some-as_object.members.now.entries in
    let marks = c.loop-name.marks.items in
    sym (marked_none (parts_of v) marks)
    ∙ (sym (ap (λ (es : List Entry). marked (judged_by_some (beside_members (judges_among x (members_view es)) ms) v) (parts_of v) marks)
    c.in-None.ensures.steps.0) ∙ c.loop-name.invariant.judged)

pub several::dependencies-dependents-requires : goal.several::dependencies-dependents-requires
several::dependencies-dependents-requires g t c =
    let ms = members_view c.args.keywords.now.entries in
    let r = reads_dependencies c.args.d.now.dialect in
    let deep = ap members_depth_at (c.members_where_read-among.ensures
    ∙ (λ i. members_where_read (c.reads_dependencies-reads.ensures i) (c.member-by_name.ensures i))) in
    λ κs s. (omega (arith, deep, among_under r (codes "dependencies") ms, c.decreases), (s, c.requires))

pub several::dependencies-returns-clause-verdict : goal.several::dependencies-returns-clause-verdict
several::dependencies-returns-clause-verdict g t c =
    let x = context c.args.d.now.dialect (view c.args.d.now.whole.now) (g.P.Patterns.reading c.args.d.now.patterns.now) c.args.left in
    let v = view c.args.value.now in
    let y = get_member (codes "dependencies") (members_view c.args.keywords.now.entries) in
    let r = reads_dependencies c.args.d.now.dialect in
    let required = c.dependent_required_says-required.ensures
    ∙ (λ i. dependent_required_says (c.reads_dependencies-reads.ensures i) (c.member-by_name.ensures i) v) in
    let says = c.in_ok-says.ensures.verdict
    ∙ ap (λ (o : Option Members). dependents_by (judges_among_in x o) v) (c.members_where_read-among.ensures
    ∙ (λ i. members_where_read (c.reads_dependencies-reads.ensures i) (c.member-by_name.ensures i))) in
    c.both.ensures ∙ ((λ i. both (required i) (says i)) ∙ read_dependencies r x y v)

pub several::each-fits-requires : goal.several::each-fits-requires
several::each-fits-requires g t c =
    let under = item_under c.deref-schema-items.result.now c.loop-schema.schema-index c.schema-item.result c.loop-schema-test.true c.schema-item.is in
    λ κs s. (omega (arith, under, c.loop-schema.invariant.deep, c.decreases), (s, c.loop-schema.invariant.known))

pub several::each-loop-schema-preserved : goal.several::each-loop-schema-preserved
several::each-loop-schema-preserved g t c =
    let x = context c.args.d.now.dialect (view c.args.d.now.whole.now) (g.P.Patterns.reading c.args.d.now.patterns.now) c.args.left in
    let v = view c.args.value.now in
    let xs = c.deref-schema-items.result.now in
    let i = c.loop-schema.schema-index in
    let rest = items_view (drop (i + 1) xs) in
    let here = from_here xs i c.schema-item.result c.loop-schema-test.true c.schema-item.is in
    let F : Items → List Verdict = λ ds. map (λ s. s.fits v) (judges_of x ds) in
    let J = so_far c.loop-schema.joined in
    record {
      known = c.fits.ensures.keeps;
      deep = c.loop-schema.invariant.deep;
      joined = ap (λ (k : SoFar). taken_by c.args.join (with_each k (F rest)))
          (c.with-joined.ensures ∙ ap (with_one J) c.in_ok-says.ensures.verdict)
          ∙ (sym (ap (λ (ds : Items). taken_by c.args.join (with_each J (F ds))) here) ∙ c.loop-schema.invariant.joined);
      judged = next_marks (judge x (view c.schema-item.result)) (judges_of x rest) v (parts_of v) c.loop-schema.marks.items c.fits.new.marks.items
          c.in_ok-says.ensures.judged
          ∙ (sym (ap (λ (ds : Items). marked (judged_by_some (judges_of x ds) v) (parts_of v) c.loop-schema.marks.items) here)
          ∙ c.loop-schema.invariant.judged);
    }

pub several::each-returns-clause-verdict : goal.several::each-returns-clause-verdict
several::each-returns-clause-verdict g t c =
    let x = context c.args.d.now.dialect (view c.args.d.now.whole.now) (g.P.Patterns.reading c.args.d.now.patterns.now) c.args.left in
    let v = view c.args.value.now in
    let none = nothing_left c.deref-schema-items.result.now c.loop-schema.schema-index c.loop-schema-test.false in
    c.by.ensures
    ∙ (sym (ap (λ (ds : Items). taken_by c.args.join (with_each (so_far c.loop-schema.joined) (map (λ s. s.fits v) (judges_of x ds)))) none)
    ∙ c.loop-schema.invariant.joined)

pub several::each-returns-clause-judged : goal.several::each-returns-clause-judged
several::each-returns-clause-judged g t c =
    let x = context c.args.d.now.dialect (view c.args.d.now.whole.now) (g.P.Patterns.reading c.args.d.now.patterns.now) c.args.left in
    let v = view c.args.value.now in
    let none = nothing_left c.deref-schema-items.result.now c.loop-schema.schema-index c.loop-schema-test.false in
    sym (marked_none (parts_of v) c.loop-schema.marks.items)
    ∙ (sym (ap (λ (ds : Items). marked (judged_by_some (judges_of x ds) v) (parts_of v) c.loop-schema.marks.items) none)
    ∙ c.loop-schema.invariant.judged)

pub several::each-returns-in_default-clause-verdict : goal.several::each-returns-in_default-clause-verdict
several::each-returns-in_default-clause-verdict g t c = rw c.in_default.is

pub several::each-returns-in_default-clause-judged : goal.several::each-returns-in_default-clause-judged
several::each-returns-in_default-clause-judged g t c =
    rw c.in_default.is (sym (marked_none (parts_of (view c.args.value.now)) c.args.marks.now.items))
