-- All keywords but those for what is left.
use Rattle.std.proofs.Common.{◌∙◌, Option, ap, arith}
use Rattle.schemars_validate.proofs.Words.{is_some, codes, if◌then◌else◌, map, Data, Items, Members, items_depth, get_member, view, members_view, Verdict, Yes, all_of, any_of, one_of, Raw, where_some, judged_by_some, context, marked, parts_of, at_keys, at_positions, is_placed, is_taken, judged_beside_members, schema_at, schemas_in, schema_where_read, schemas_where_read, judge_at, judges_of, judges_in, named_judges_in, judges_among_in, items_by, members_by, names_by, dependents_by}
use Rattle.schemars_validate.proofs.Measures.{depth_at, items_depth_at, members_depth_at, schema_under, list_under, map_under, first_under, other_under, read_under, read_map_under}
use Rattle.schemars_validate.proofs.JudgedBeside.{beside_says, beside_marks, negated}
use Rattle.schemars_validate.proofs.JudgedInside.{inside_says, inside_marks}
use Rattle.schemars_validate.proofs.Marking.{mapped_some}
use Rattle.schemars_validate.proofs.judge.+judge.Goals as goal

pub keywords::beside-inside-requires : goal.keywords::beside-inside-requires
keywords::beside-inside-requires g t c = λ κs s. (omega (arith, c.decreases), (s, c.requires))

pub keywords::beside-each-requires : goal.keywords::beside-each-requires
keywords::beside-each-requires g t c =
    let ms = members_view c.args.keywords.now.entries in
    let deep = ap items_depth_at (c.schemas_in.ensures ∙ ap schemas_in c.member.ensures) in
    λ κs s. (omega (arith, deep, list_under (codes "allOf") ms, c.decreases), (s, c.inside.ensures.keeps))

pub keywords::beside-each-requires-2 : goal.keywords::beside-each-requires-2
keywords::beside-each-requires-2 g t c =
    let ms = members_view c.args.keywords.now.entries in
    let deep = ap items_depth_at (c.schemas_in-2.ensures ∙ ap schemas_in c.member-2.ensures) in
    λ κs s. (omega (arith, deep, list_under (codes "anyOf") ms, c.decreases), (s, c.each.ensures.keeps))

pub keywords::beside-each-requires-3 : goal.keywords::beside-each-requires-3
keywords::beside-each-requires-3 g t c =
    let ms = members_view c.args.keywords.now.entries in
    let deep = ap items_depth_at (c.schemas_in-3.ensures ∙ ap schemas_in c.member-3.ensures) in
    λ κs s. (omega (arith, deep, list_under (codes "oneOf") ms, c.decreases), (s, c.each-2.ensures.keeps))

pub keywords::beside-condition-requires : goal.keywords::beside-condition-requires
keywords::beside-condition-requires g t c = λ κs s. (omega (arith, c.decreases), (s, c.each-3.ensures.keeps))

pub keywords::beside-dependents-requires : goal.keywords::beside-dependents-requires
keywords::beside-dependents-requires g t c =
    let ms = members_view c.args.keywords.now.entries in
    let r = c.args.d.now.dialect.reads_unevaluated in
    let deep = ap members_depth_at (c.schemas_where_read-named.ensures
    ∙ (λ i. schemas_where_read (c.reads_unevaluated.ensures i) (c.member-4.ensures i))) in
    λ κs s. (omega (arith, deep, read_map_under r (codes "dependentSchemas") ms, c.decreases), (s, c.condition.ensures.keeps))

pub keywords::beside-reference-requires : goal.keywords::beside-reference-requires
keywords::beside-reference-requires g t c = λ κs s. (omega (arith, c.decreases), (s, c.dependents.ensures.keeps))

pub keywords::beside-dependencies-requires : goal.keywords::beside-dependencies-requires
keywords::beside-dependencies-requires g t c = λ κs s. (omega (arith, c.decreases), (s, c.reference.ensures.keeps))

pub keywords::beside-alone-requires : goal.keywords::beside-alone-requires
keywords::beside-alone-requires g t c =
    let ms = members_view c.args.keywords.now.entries in
    let deep = ap depth_at (c.schema_at-denied.ensures ∙ ap schema_at c.member-5.ensures) in
    λ κs s. (omega (arith, deep, schema_under (codes "not") ms, c.decreases), (s, c.dependencies.ensures.keeps))

pub keywords::beside-returns-clause-verdict : goal.keywords::beside-returns-clause-verdict
keywords::beside-returns-clause-verdict g t c =
    let reading = g.P.Patterns.reading c.args.d.now.patterns.now in
    let x = context c.args.d.now.dialect (view c.args.d.now.whole.now) reading c.args.left in
    let v = view c.args.value.now in
    let ms = members_view c.args.keywords.now.entries in
    let raw : Raw = λ k. get_member k ms in
    let denied = c.schema_at-denied.ensures ∙ ap schema_at c.member-5.ensures in
    let is = mapped_some (λ s. view s.now) c.schema_at-denied.result ∙ ap is_some denied in
    let said = c.in_ok-fits_denied.ensures.verdict ∙ ap (λ (o : Option Data). where_some (judge_at x o) (λ s. s.fits v)) denied in
    c.all_of.ensures
    ∙ beside_says x raw v _ _ _ _ _ _ _ _ _ _
    c.in_ok-reference.ensures.verdict
    c.by_itself-itself.ensures
    c.in_ok-inside.ensures.verdict
    (c.in_ok-all.ensures.verdict
    ∙ ap (λ (o : Option Items). where_some o (λ ds. all_of (map (λ s. s.fits v) (judges_of x ds))))
    (c.schemas_in.ensures ∙ ap schemas_in c.member.ensures))
    (c.in_ok-any.ensures.verdict
    ∙ ap (λ (o : Option Items). where_some o (λ ds. any_of (map (λ s. s.fits v) (judges_of x ds))))
    (c.schemas_in-2.ensures ∙ ap schemas_in c.member-2.ensures))
    (c.in_ok-one.ensures.verdict
    ∙ ap (λ (o : Option Items). where_some o (λ ds. one_of (map (λ s. s.fits v) (judges_of x ds))))
    (c.schemas_in-3.ensures ∙ ap schemas_in c.member-3.ensures))
    (c.unless_missing-not.ensures
    ∙ (ap (λ (y : Verdict). if is_some c.schema_at-denied.result then y else Yes) c.opposite.ensures
    ∙ negated x (schema_at (raw (codes "not"))) v (is_some c.schema_at-denied.result) _ is said))
    c.in_ok-chosen.ensures.verdict
    (c.in_ok-dependent.ensures.verdict
    ∙ ap (λ (o : Option Members). dependents_by (judges_among_in x o) v) (c.schemas_where_read-named.ensures
    ∙ (λ i. schemas_where_read (c.reads_unevaluated.ensures i) (c.member-4.ensures i))))
    c.in_ok-dependencies.ensures.verdict

pub keywords::beside-returns-clause-judged : goal.keywords::beside-returns-clause-judged
keywords::beside-returns-clause-judged g t c =
    let reading = g.P.Patterns.reading c.args.d.now.patterns.now in
    let x = context c.args.d.now.dialect (view c.args.d.now.whole.now) reading c.args.left in
    let v = view c.args.value.now in
    let ms = members_view c.args.keywords.now.entries in
    let raw : Raw = λ k. get_member k ms in
    let old = c.args.marks.now.items in
    beside_marks x raw v old c.inside.new.marks.items c.each.new.marks.items c.each-2.new.marks.items c.each-3.new.marks.items
    c.condition.new.marks.items c.dependents.new.marks.items c.reference.new.marks.items
    c.in_ok-inside.ensures.judged
    (c.in_ok-all.ensures.judged
    ∙ ap (λ (o : Option Items). marked (judged_by_some (judges_in x o) v) (parts_of v) c.inside.new.marks.items)
    (c.schemas_in.ensures ∙ ap schemas_in c.member.ensures))
    (c.in_ok-any.ensures.judged
    ∙ ap (λ (o : Option Items). marked (judged_by_some (judges_in x o) v) (parts_of v) c.each.new.marks.items)
    (c.schemas_in-2.ensures ∙ ap schemas_in c.member-2.ensures))
    (c.in_ok-one.ensures.judged
    ∙ ap (λ (o : Option Items). marked (judged_by_some (judges_in x o) v) (parts_of v) c.each-2.new.marks.items)
    (c.schemas_in-3.ensures ∙ ap schemas_in c.member-3.ensures))
    c.in_ok-chosen.ensures.judged
    (c.in_ok-dependent.ensures.judged
    ∙ ap (λ (o : Option Members). marked (judged_beside_members (judges_among_in x o) v) (parts_of v) c.condition.new.marks.items)
    (c.schemas_where_read-named.ensures ∙ (λ i. schemas_where_read (c.reads_unevaluated.ensures i) (c.member-4.ensures i))))
    c.in_ok-reference.ensures.judged

pub keywords::inside-items-requires : goal.keywords::inside-items-requires
keywords::inside-items-requires g t c =
    let ms = members_view c.args.keywords.now.entries in
    let r = c.args.d.now.dialect.reads_prefix_items in
    let first = ap items_depth c.item_schemas-of_items.ensures.first in
    let others = ap depth_at c.item_schemas-of_items.ensures.others in
    λ κs s. (omega (arith, first, others, first_under r ms, other_under r ms, c.decreases), (s, c.requires))

pub keywords::inside-contains-requires : goal.keywords::inside-contains-requires
keywords::inside-contains-requires g t c = λ κs s. (omega (arith, c.decreases), (s, c.items.ensures.keeps))

pub keywords::inside-names-requires : goal.keywords::inside-names-requires
keywords::inside-names-requires g t c =
    let ms = members_view c.args.keywords.now.entries in
    let r = c.args.d.now.dialect.reads_const in
    let deep = ap depth_at (c.schema_where_read-of_names.ensures
    ∙ (λ i. schema_where_read (c.reads_const.ensures i) (c.member.ensures i))) in
    λ κs s. (omega (arith, deep, read_under r (codes "propertyNames") ms, c.decreases), s)

pub keywords::inside-members-requires : goal.keywords::inside-members-requires
keywords::inside-members-requires g t c =
    let ms = members_view c.args.keywords.now.entries in
    let named = ap members_depth_at c.member_schemas-of_members.ensures.named in
    let matched = ap members_depth_at c.member_schemas-of_members.ensures.by_pattern in
    let others = ap depth_at c.member_schemas-of_members.ensures.others in
    λ κs s. (omega (arith, named, matched, others, map_under (codes "properties") ms, map_under (codes "patternProperties") ms, schema_under (codes "additionalProperties") ms, c.decreases), (s, c.contains.ensures.keeps))

pub keywords::inside-returns-clause-verdict : goal.keywords::inside-returns-clause-verdict
keywords::inside-returns-clause-verdict g t c =
    let reading = g.P.Patterns.reading c.args.d.now.patterns.now in
    let x = context c.args.d.now.dialect (view c.args.d.now.whole.now) reading c.args.left in
    let v = view c.args.value.now in
    let ms = members_view c.args.keywords.now.entries in
    let raw : Raw = λ k. get_member k ms in
    c.all_of.ensures
    ∙ inside_says x raw v _ _ _ _ _
    (c.in_ok-items.ensures.verdict
    ∙ (λ i. items_by (judges_of x (c.item_schemas-of_items.ensures.first i)) (judge_at x (c.item_schemas-of_items.ensures.others i)) v))
    c.in_ok-contains.ensures.verdict
    c.by_keys-keys.ensures
    (c.in_ok-names.ensures
    ∙ ap (λ (o : Option Data). names_by (judge_at x o) v) (c.schema_where_read-of_names.ensures
    ∙ (λ i. schema_where_read (c.reads_const.ensures i) (c.member.ensures i))))
    (c.in_ok-members.ensures.verdict
    ∙ (λ i. members_by reading (named_judges_in x (c.member_schemas-of_members.ensures.named i))
    (named_judges_in x (c.member_schemas-of_members.ensures.by_pattern i)) (judge_at x (c.member_schemas-of_members.ensures.others i)) v))

pub keywords::inside-returns-clause-judged : goal.keywords::inside-returns-clause-judged
keywords::inside-returns-clause-judged g t c =
    let reading = g.P.Patterns.reading c.args.d.now.patterns.now in
    let x = context c.args.d.now.dialect (view c.args.d.now.whole.now) reading c.args.left in
    let v = view c.args.value.now in
    let ms = members_view c.args.keywords.now.entries in
    let raw : Raw = λ k. get_member k ms in
    let old = c.args.marks.now.items in
    inside_marks x raw v old c.mark_items.new.marks.items c.contains.new.marks.items c.mark_members.new.marks.items
    (c.mark_items.ensures
    ∙ (λ i. marked (at_positions (is_placed (c.item_schemas-of_items.ensures.first i) (c.item_schemas-of_items.ensures.others i)))
    (parts_of v) old))
    c.in_ok-contains.ensures.judged
    (c.mark_members.ensures
    ∙ (λ i. marked (at_keys (is_taken reading (c.member_schemas-of_members.ensures.named i)
    (c.member_schemas-of_members.ensures.by_pattern i) (c.member_schemas-of_members.ensures.others i))) (parts_of v)
    c.contains.new.marks.items))
