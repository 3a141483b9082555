-- What is left is still to be judged; and the work that is left.
use Rattle.std.proofs.Common.{◌≡◌, ◌≤◌, ◌<◌, ◌+◌, Some, length, ◌++◌, take, drop, map, max, option_map}
use Rattle.schemars_validate.specs.Memos.{IsKnown}
use Rattle.schemars_validate.proofs.Words.{◌||◌, as_object, iter_rest, string, array, object, follow, depth, items_depth, members_depth, view, items_view, members_view, both, all_of, each_member, where_some, by_patterns, matches_some, count_of_fitting, beside_members, judged_by_some, context, judge, meant, so_far, with_each, taken_by, joined_by, parts_of, positions_in, marked, at_positions, fits_at, each_unmarked, each_unmarked_item, judged_beside_members, judge_at, judges_of, judges_in, named_judges, named_judges_in, judges_among, judges_among_in, each_item, items_by, member_by, members_by, names_by, dependents_by}
use Rattle.schemars_validate.proofs.Stepping.{added, IsFew}
use Rattle.schemars_validate.proofs.Measures.{work, depth_at, items_depth_at, members_depth_at}
use Rattle.schemars_validate.proofs.judge.+judge.Given as goal

abbrev pub decreases-judge : goal.decreases-judge
decreases-judge g l = work l.left (view l.d.now.whole.now) (depth (view l.schema.now)) 0

abbrev pub decreases-object : goal.decreases-object
decreases-object g l = work l.left (view l.d.now.whole.now) (members_depth (members_view l.keywords.now.entries)) 15

abbrev pub decreases-keywords::beside : goal.decreases-keywords::beside
decreases-keywords::beside g l = work l.left (view l.d.now.whole.now) (members_depth (members_view l.keywords.now.entries)) 14

abbrev pub decreases-keywords::inside : goal.decreases-keywords::inside
decreases-keywords::inside g l = work l.left (view l.d.now.whole.now) (members_depth (members_view l.keywords.now.entries)) 13

abbrev pub decreases-lists::contains : goal.decreases-lists::contains
decreases-lists::contains g l = work l.left (view l.d.now.whole.now) (members_depth (members_view l.keywords.now.entries)) 12

abbrev pub decreases-lists::count_of_fitting : goal.decreases-lists::count_of_fitting
decreases-lists::count_of_fitting g l = work l.left (view l.d.now.whole.now) (depth (view l.schema.now)) 3

abbrev pub decreases-objects::names : goal.decreases-objects::names
decreases-objects::names g l = work l.left (view l.d.now.whole.now) (depth_at (option_map (λ s. view s.now) l.of_names)) 2

abbrev pub decreases-several::condition : goal.decreases-several::condition
decreases-several::condition g l = work l.left (view l.d.now.whole.now) (members_depth (members_view l.keywords.now.entries)) 12

abbrev pub decreases-one::branch : goal.decreases-one::branch
decreases-one::branch g l = work l.left (view l.d.now.whole.now) (depth_at (option_map (λ s. view s.now) l.schema)) 3

abbrev pub decreases-several::dependents : goal.decreases-several::dependents
decreases-several::dependents g l =
    work l.left (view l.d.now.whole.now) (members_depth_at (option_map (λ s. members_view s.now.entries) l.by_name)) 4

abbrev pub decreases-one::reference : goal.decreases-one::reference
decreases-one::reference g l = work l.left (view l.d.now.whole.now) (members_depth (members_view l.keywords.now.entries)) 13

abbrev pub decreases-one::named : goal.decreases-one::named
decreases-one::named g l = work l.left (view l.d.now.whole.now) 0 12

abbrev pub decreases-one::followed : goal.decreases-one::followed
decreases-one::followed g l = work l.left (view l.d.now.whole.now) 0 11

abbrev pub decreases-one::passed_on : goal.decreases-one::passed_on
decreases-one::passed_on g l = work l.left (view l.d.now.whole.now) 0 10

abbrev pub decreases-parts::part_at : goal.decreases-parts::part_at
decreases-parts::part_at g l = work l.left (view l.d.now.whole.now) (depth_at (option_map (λ s. view s.now) l.schema)) 2

abbrev pub decreases-parts::member_at : goal.decreases-parts::member_at
decreases-parts::member_at g l =
    work l.left (view l.d.now.whole.now)
    (max (members_depth_at (option_map (λ s. members_view s.now.entries) l.schemas.now.named))
    (max (members_depth_at (option_map (λ s. members_view s.now.entries) l.schemas.now.by_pattern))
    (depth_at (option_map (λ s. view s.now) l.schemas.now.others)))) 4

abbrev pub decreases-one::fits : goal.decreases-one::fits
decreases-one::fits g l = work l.left (view l.d.now.whole.now) (depth (view l.schema.now)) 2

abbrev pub decreases-one::alone : goal.decreases-one::alone
decreases-one::alone g l = work l.left (view l.d.now.whole.now) (depth_at (option_map (λ s. view s.now) l.schema)) 1

abbrev pub decreases-lists::items : goal.decreases-lists::items
decreases-lists::items g l =
    work l.left (view l.d.now.whole.now)
    (max (items_depth (items_view l.schemas.now.first.now)) (depth_at (option_map (λ s. view s.now) l.schemas.now.others))) 3

abbrev pub decreases-objects::members : goal.decreases-objects::members
decreases-objects::members g l =
    work l.left (view l.d.now.whole.now)
    (max (members_depth_at (option_map (λ s. members_view s.now.entries) l.schemas.now.named))
    (max (members_depth_at (option_map (λ s. members_view s.now.entries) l.schemas.now.by_pattern))
    (depth_at (option_map (λ s. view s.now) l.schemas.now.others)))) 5

abbrev pub decreases-objects::one_member : goal.decreases-objects::one_member
decreases-objects::one_member g l =
    work l.left (view l.d.now.whole.now)
    (max (members_depth_at (option_map (λ s. members_view s.now.entries) l.schemas.now.named))
    (max (members_depth_at (option_map (λ s. members_view s.now.entries) l.schemas.now.by_pattern))
    (depth_at (option_map (λ s. view s.now) l.schemas.now.others)))) 3

abbrev pub decreases-objects::matching : goal.decreases-objects::matching
decreases-objects::matching g l =
    work l.left (view l.d.now.whole.now) (members_depth_at (option_map (λ s. members_view s.now.entries) l.by_pattern)) 2

abbrev pub decreases-several::each : goal.decreases-several::each
decreases-several::each g l =
    work l.left (view l.d.now.whole.now) (items_depth_at (option_map (λ s. items_view s.now.items) l.schemas)) 3

abbrev pub decreases-several::dependencies : goal.decreases-several::dependencies
decreases-several::dependencies g l = work l.left (view l.d.now.whole.now) (members_depth (members_view l.keywords.now.entries)) 13

abbrev pub decreases-rest::unevaluated : goal.decreases-rest::unevaluated
decreases-rest::unevaluated g l = work l.left (view l.d.now.whole.now) (depth (view l.schema.now)) 4

abbrev pub decreases-rest::unevaluated_items : goal.decreases-rest::unevaluated_items
decreases-rest::unevaluated_items g l = work l.left (view l.d.now.whole.now) (depth (view l.schema.now)) 3

abbrev pub decreases-rest::unevaluated_members : goal.decreases-rest::unevaluated_members
decreases-rest::unevaluated_members g l = work l.left (view l.d.now.whole.now) (depth (view l.schema.now)) 3

abbrev pub invariant-lists::items-loop-place : goal.invariant-lists::items-loop-place
invariant-lists::items-loop-place g l =
    let c = context l.d.dialect (view l.d.whole.now) (g.P.Patterns.reading l.d.patterns.now) l.left in
    let others = judge_at c (option_map (λ s. view s.now) l.schemas.others) in record {
      known : IsKnown (follow l.d.dialect (view l.d.whole.now) (g.P.Patterns.reading l.d.patterns.now)) (view l.value) l.memo;
      deep : items_depth (items_view (iter_rest l.first)) ≤ items_depth (items_view l.schemas.first.now);
      rest : both (meant l.says) (each_item (judges_of c (items_view (iter_rest l.first))) others (items_view (drop l.place l.item-items)))
          ≡ items_by (judges_of c (items_view l.schemas.first.now)) others (view l.value);
    }

abbrev pub invariant-lists::count_of_fitting-loop-place : goal.invariant-lists::count_of_fitting-loop-place
invariant-lists::count_of_fitting-loop-place g l =
    let c = context l.d.dialect (view l.d.whole.now) (g.P.Patterns.reading l.d.patterns.now) l.left in
    let s = judge c (view l.schema) in
    let f = at_positions (fits_at l.d.dialect.reads_prefix_items s (items_view l.items)) in record {
      known : IsKnown (follow l.d.dialect (view l.d.whole.now) (g.P.Patterns.reading l.d.patterns.now)) (array (items_view l.items)) l.memo;
      counted : added l.count (count_of_fitting s (items_view (drop l.place l.items))) ≡ count_of_fitting s (items_view l.items);
      few : IsFew l.count l.place;
      judged : take l.place l.marks.items ++ marked f (positions_in l.place (items_view (drop l.place l.items))) (drop l.place l.marks.items)
          ≡ marked f (positions_in 0 (items_view l.items)) l.fn.marks.items;
    }

abbrev pub invariant-objects::names-loop-key : goal.invariant-objects::names-loop-key
invariant-objects::names-loop-key g l =
    let c = context l.d.dialect (view l.d.whole.now) (g.P.Patterns.reading l.d.patterns.now) l.left in
    let names = judge_at c (option_map (λ s. view s.now) l.of_names) in
    both (meant l.says) (each_member (λ k w. where_some names (λ s. s.fits (string k))) (members_view l.key-iterator))
    ≡ names_by names (view l.value)

abbrev pub invariant-several::dependents-loop-name : goal.invariant-several::dependents-loop-name
invariant-several::dependents-loop-name g l =
    let c = context l.d.dialect (view l.d.whole.now) (g.P.Patterns.reading l.d.patterns.now) l.left in
    let v = view l.value in
    let left = beside_members (judges_among c (members_view l.name-iterator)) (members_view l.members.entries) in
    let all = judges_among_in c (option_map (λ s. members_view s.now.entries) l.by_name) in record {
      known : IsKnown (follow l.d.dialect (view l.d.whole.now) (g.P.Patterns.reading l.d.patterns.now)) v l.memo;
      deep : members_depth (members_view l.name-iterator) ≤ members_depth_at (option_map (λ s. members_view s.now.entries) l.by_name);
      rest : both (meant l.says) (all_of (map (λ s. s.fits v) left)) ≡ dependents_by all v;
      judged : marked (judged_by_some left v) (parts_of v) l.marks.items ≡ marked (judged_beside_members all v) (parts_of v) l.fn.marks.items;
    }

abbrev pub invariant-objects::members-loop-place : goal.invariant-objects::members-loop-place
invariant-objects::members-loop-place g l =
    let patterns = g.P.Patterns.reading l.d.patterns.now in
    let c = context l.d.dialect (view l.d.whole.now) patterns l.left in
    let named = named_judges_in c (option_map (λ s. members_view s.now.entries) l.schemas.named) in
    let matched = named_judges_in c (option_map (λ s. members_view s.now.entries) l.schemas.by_pattern) in
    let others = judge_at c (option_map (λ s. view s.now) l.schemas.others) in record {
      known : IsKnown (follow l.d.dialect (view l.d.whole.now) patterns) (view l.value) l.memo;
      there : drop l.place l.initial.key-iterator ≡ l.key-iterator;
      same : Some (members_view l.initial.key-iterator) ≡ as_object (view l.value);
      few : l.place + length l.key-iterator < 18446744073709551616;
      rest : both (meant l.says) (each_member (member_by patterns named matched others) (members_view l.key-iterator))
          ≡ members_by patterns named matched others (view l.value);
    }

abbrev pub invariant-objects::matching-loop-pattern : goal.invariant-objects::matching-loop-pattern
invariant-objects::matching-loop-pattern g l =
    let patterns = g.P.Patterns.reading l.d.patterns.now in
    let c = context l.d.dialect (view l.d.whole.now) patterns l.left in
    let all = named_judges_in c (option_map (λ s. members_view s.now.entries) l.by_pattern) in record {
      known : IsKnown (follow l.d.dialect (view l.d.whole.now) patterns) (view l.member) l.memo;
      deep : members_depth (members_view l.pattern-iterator) ≤ members_depth_at (option_map (λ s. members_view s.now.entries) l.by_pattern);
      rest : both (meant l.says) (by_patterns patterns (named_judges c (members_view l.pattern-iterator)) l.key (view l.member))
          ≡ by_patterns patterns all l.key (view l.member);
      some : (l.some || matches_some patterns (named_judges c (members_view l.pattern-iterator)) l.key) ≡ matches_some patterns all l.key;
    }

abbrev pub invariant-several::each-loop-schema : goal.invariant-several::each-loop-schema
invariant-several::each-loop-schema g l =
    let c = context l.d.dialect (view l.d.whole.now) (g.P.Patterns.reading l.d.patterns.now) l.left in
    let left = items_view (drop l.schema-index l.schema-items) in record {
      known : IsKnown (follow l.d.dialect (view l.d.whole.now) (g.P.Patterns.reading l.d.patterns.now)) (view l.value) l.memo;
      deep : items_depth (items_view l.schema-items) ≤ items_depth_at (option_map (λ s. items_view s.now.items) l.schemas);
      joined : taken_by l.join (with_each (so_far l.joined) (map (λ s. s.fits (view l.value)) (judges_of c left)))
          ≡ where_some (option_map (λ s. items_view s.now.items) l.schemas)
          (λ ds. joined_by l.join (map (λ s. s.fits (view l.value)) (judges_of c ds)));
      judged : marked (judged_by_some (judges_of c left) (view l.value)) (parts_of (view l.value)) l.marks.items
          ≡ marked (judged_by_some (judges_in c (option_map (λ s. items_view s.now.items) l.schemas)) (view l.value)) (parts_of (view l.value))
          l.fn.marks.items;
    }

abbrev pub invariant-rest::unevaluated_items-loop-place : goal.invariant-rest::unevaluated_items-loop-place
invariant-rest::unevaluated_items-loop-place g l =
    let c = context l.d.dialect (view l.d.whole.now) (g.P.Patterns.reading l.d.patterns.now) l.left in record {
      known : IsKnown (follow l.d.dialect (view l.d.whole.now) (g.P.Patterns.reading l.d.patterns.now)) (array (items_view l.items)) l.memo;
      rest : both (meant l.says) (each_unmarked_item (judge c (view l.schema)) (items_view (drop l.place l.items)) (iter_rest l.marks))
          ≡ each_unmarked_item (judge c (view l.schema)) (items_view l.items) l.judged;
    }

abbrev pub invariant-rest::unevaluated_members-loop-place : goal.invariant-rest::unevaluated_members-loop-place
invariant-rest::unevaluated_members-loop-place g l =
    let c = context l.d.dialect (view l.d.whole.now) (g.P.Patterns.reading l.d.patterns.now) l.left in record {
      known : IsKnown (follow l.d.dialect (view l.d.whole.now) (g.P.Patterns.reading l.d.patterns.now)) (object (members_view l.members.entries)) l.memo;
      there : drop l.place l.members.entries ≡ l.member-iterator;
      rest : both (meant l.says) (each_unmarked (judge c (view l.schema)) (members_view l.member-iterator) (iter_rest l.marks))
          ≡ each_unmarked (judge c (view l.schema)) (members_view l.members.entries) l.judged;
    }
