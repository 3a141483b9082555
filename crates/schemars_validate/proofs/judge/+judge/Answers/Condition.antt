-- `if`, with `then` and `else`.
use Rattle.std.proofs.Common.{◌≡◌, ◌∙◌, List, Bool, refl, Option, None, option_map, sym, ap, subst, arith, IfOk, OnOk}
use Rattle.schemars_validate.proofs.Words.{codes, Data, get_member, view, members_view, Verdict, Yes, No, Open, where_some, read_data, context, judge, meant, marked, parts_of, judged_by_one, schema_at, schema_where_read, judge_at}
use Rattle.schemars_validate.proofs.Measures.{depth_at, schema_under, read_under}
use Rattle.schemars_validate.proofs.Readings.{read_one}
use Rattle.schemars_validate.proofs.Conditions.{no_condition_says, condition_said, no_condition_marks, condition_marks}
use Rattle.schemars_validate.proofs.MarkedAlike.{marked_none}
use Rattle.schemars_validate.proofs.judge.+judge.Goals as goal

pub several::condition-returns-in_default-clause-verdict : goal.several::condition-returns-in_default-clause-verdict
several::condition-returns-in_default-clause-verdict g t c =
    let x = context c.args.d.now.dialect (view c.args.d.now.whole.now) (g.P.Patterns.reading c.args.d.now.patterns.now) c.args.left in
    let v = view c.args.value.now in
    let ms = members_view c.args.keywords.now.entries in
    let r = c.args.d.now.dialect.reads_const in
    let read = c.schema_where_read-asked.ensures ∙ (λ i. schema_where_read (c.reads_const.ensures i) (c.member.ensures i)) in
    let none = ap (option_map (λ s. view s.now)) (sym c.in_default.is) ∙ read in
    no_condition_says r x (get_member (codes "if") ms) (option_map (read_data x) (get_member (codes "then") ms))
    (option_map (read_data x) (get_member (codes "else") ms)) v none

pub several::condition-returns-in_default-clause-judged : goal.several::condition-returns-in_default-clause-judged
several::condition-returns-in_default-clause-judged g t c =
    let x = context c.args.d.now.dialect (view c.args.d.now.whole.now) (g.P.Patterns.reading c.args.d.now.patterns.now) c.args.left in
    let v = view c.args.value.now in
    let ms = members_view c.args.keywords.now.entries in
    let r = c.args.d.now.dialect.reads_const in
    let read = c.schema_where_read-asked.ensures ∙ (λ i. schema_where_read (c.reads_const.ensures i) (c.member.ensures i)) in
    let none = ap (option_map (λ s. view s.now)) (sym c.in_default.is) ∙ read in
    no_condition_marks r x (get_member (codes "if") ms) (option_map (read_data x) (get_member (codes "then") ms))
    (option_map (read_data x) (get_member (codes "else") ms)) v (parts_of v) c.args.marks.now.items none

pub several::condition-fits-requires : goal.several::condition-fits-requires
several::condition-fits-requires g t c =
    let ms = members_view c.args.keywords.now.entries in
    let r = c.args.d.now.dialect.reads_const in
    let read = c.schema_where_read-asked.ensures ∙ (λ i. schema_where_read (c.reads_const.ensures i) (c.member.ensures i)) in
    let deep = ap (λ o. depth_at (option_map (λ s. view s.now) o)) c.in-Some.is in
    let same = ap depth_at read in
    λ κs s. (omega (arith, deep, same, read_under r (codes "if") ms, c.decreases), (s, c.requires))

pub several::condition-branch-d-requires : goal.several::condition-branch-d-requires
several::condition-branch-d-requires g t c =
    let ms = members_view c.args.keywords.now.entries in
    let deep = ap depth_at (c.schema_at.ensures ∙ ap schema_at c.member-in-Yes.ensures) in
    λ κs s. (omega (arith, deep, schema_under (codes "then") ms, c.decreases), (s, c.fits.ensures.keeps))

pub several::condition-branch-d-requires-in-No : goal.several::condition-branch-d-requires-in-No
several::condition-branch-d-requires-in-No g t c =
    let ms = members_view c.args.keywords.now.entries in
    let deep = ap depth_at (c.schema_at-in-No.ensures ∙ ap schema_at c.member-in-No.ensures) in
    λ κs s. (omega (arith, deep, schema_under (codes "else") ms, c.decreases), (s, c.fits.ensures.keeps))

pub several::condition-returns-in-Yes-clause-verdict : goal.several::condition-returns-in-Yes-clause-verdict
several::condition-returns-in-Yes-clause-verdict g t c =
    let x = context c.args.d.now.dialect (view c.args.d.now.whole.now) (g.P.Patterns.reading c.args.d.now.patterns.now) c.args.left in
    let v = view c.args.value.now in
    let ms = members_view c.args.keywords.now.entries in
    let r = c.args.d.now.dialect.reads_const in
    let read = c.schema_where_read-asked.ensures ∙ (λ i. schema_where_read (c.reads_const.ensures i) (c.member.ensures i)) in
    let some = ap (option_map (λ s. view s.now)) (sym c.in-Some.is) ∙ read in
    let d = view c.in-Some.schema.now in
    let accepted = option_map (read_data x) (get_member (codes "then") ms) in
    let refused = option_map (read_data x) (get_member (codes "else") ms) in
    let said : Yes ≡ (judge x d).fits v = sym (ap meant c.in-Yes.is) ∙ c.in_ok-says.ensures.verdict in
    let P : Verdict → Type 0 = λ y. IfOk c.branch-d.result (λ says. meant says ≡ y) in
    subst P (ap (λ (o : Option Data). where_some (judge_at x o) (λ j. j.fits v)) (c.schema_at.ensures ∙ ap schema_at c.member-in-Yes.ensures)
    ∙ (read_one (λ j. j.fits v) x (get_member (codes "then") ms)
    ∙ condition_said r x (get_member (codes "if") ms) accepted refused d v Yes some said))
    c.branch-d.ensures.verdict

pub several::condition-returns-in-Yes-clause-judged : goal.several::condition-returns-in-Yes-clause-judged
several::condition-returns-in-Yes-clause-judged g t c =
    let x = context c.args.d.now.dialect (view c.args.d.now.whole.now) (g.P.Patterns.reading c.args.d.now.patterns.now) c.args.left in
    let v = view c.args.value.now in
    let ms = members_view c.args.keywords.now.entries in
    let r = c.args.d.now.dialect.reads_const in
    let read = c.schema_where_read-asked.ensures ∙ (λ i. schema_where_read (c.reads_const.ensures i) (c.member.ensures i)) in
    let some = ap (option_map (λ s. view s.now)) (sym c.in-Some.is) ∙ read in
    let d = view c.in-Some.schema.now in
    let accepted = option_map (read_data x) (get_member (codes "then") ms) in
    let refused = option_map (read_data x) (get_member (codes "else") ms) in
    let said : Yes ≡ (judge x d).fits v = sym (ap meant c.in-Yes.is) ∙ c.in_ok-says.ensures.verdict in
    let m1 = c.fits.new.marks.items in
    let P : List Bool → Type 0 = λ y. OnOk c.branch-d.result (c.branch-d.new.marks.items ≡ y) in
    subst P (ap (λ (o : Option Data). marked (judged_by_one (judge_at x o) v) (parts_of v) m1)
    (c.schema_at.ensures ∙ ap schema_at c.member-in-Yes.ensures)
    ∙ condition_marks r x (get_member (codes "if") ms) (get_member (codes "then") ms) accepted refused d v Yes (parts_of v)
    c.args.marks.now.items m1 _ some said refl c.in_ok-says.ensures.judged refl)
    c.branch-d.ensures.judged

pub several::condition-returns-in-No-clause-verdict : goal.several::condition-returns-in-No-clause-verdict
several::condition-returns-in-No-clause-verdict g t c =
    let x = context c.args.d.now.dialect (view c.args.d.now.whole.now) (g.P.Patterns.reading c.args.d.now.patterns.now) c.args.left in
    let v = view c.args.value.now in
    let ms = members_view c.args.keywords.now.entries in
    let r = c.args.d.now.dialect.reads_const in
    let read = c.schema_where_read-asked.ensures ∙ (λ i. schema_where_read (c.reads_const.ensures i) (c.member.ensures i)) in
    let some = ap (option_map (λ s. view s.now)) (sym c.in-Some.is) ∙ read in
    let d = view c.in-Some.schema.now in
    let accepted = option_map (read_data x) (get_member (codes "then") ms) in
    let refused = option_map (read_data x) (get_member (codes "else") ms) in
    let said : No ≡ (judge x d).fits v = sym (ap meant c.in-No.is) ∙ c.in_ok-says.ensures.verdict in
    let P : Verdict → Type 0 = λ y. IfOk c.branch-d-in-No.result (λ says. meant says ≡ y) in
    subst P (ap (λ (o : Option Data). where_some (judge_at x o) (λ j. j.fits v)) (c.schema_at-in-No.ensures ∙ ap schema_at c.member-in-No.ensures)
    ∙ (read_one (λ j. j.fits v) x (get_member (codes "else") ms)
    ∙ condition_said r x (get_member (codes "if") ms) accepted refused d v No some said))
    c.branch-d-in-No.ensures.verdict

pub several::condition-returns-in-No-clause-judged : goal.several::condition-returns-in-No-clause-judged
several::condition-returns-in-No-clause-judged g t c =
    let x = context c.args.d.now.dialect (view c.args.d.now.whole.now) (g.P.Patterns.reading c.args.d.now.patterns.now) c.args.left in
    let v = view c.args.value.now in
    let ms = members_view c.args.keywords.now.entries in
    let r = c.args.d.now.dialect.reads_const in
    let read = c.schema_where_read-asked.ensures ∙ (λ i. schema_where_read (c.reads_const.ensures i) (c.member.ensures i)) in
    let some = ap (option_map (λ s. view s.now)) (sym c.in-Some.is) ∙ read in
    let d = view c.in-Some.schema.now in
    let accepted = option_map (read_data x) (get_member (codes "then") ms) in
    let refused = option_map (read_data x) (get_member (codes "else") ms) in
    let said : No ≡ (judge x d).fits v = sym (ap meant c.in-No.is) ∙ c.in_ok-says.ensures.verdict in
    let m1 = c.fits.new.marks.items in
    let P : List Bool → Type 0 = λ y. OnOk c.branch-d-in-No.result (c.branch-d-in-No.new.marks.items ≡ y) in
    subst P (ap (λ (o : Option Data). marked (judged_by_one (judge_at x o) v) (parts_of v) m1)
    (c.schema_at-in-No.ensures ∙ ap schema_at c.member-in-No.ensures)
    ∙ condition_marks r x (get_member (codes "if") ms) (get_member (codes "else") ms) accepted refused d v No (parts_of v)
    c.args.marks.now.items m1 _ some said refl c.in_ok-says.ensures.judged refl)
    c.branch-d-in-No.ensures.judged

pub several::condition-returns-in-Open-clause-judged : goal.several::condition-returns-in-Open-clause-judged
several::condition-returns-in-Open-clause-judged g t c =
    let x = context c.args.d.now.dialect (view c.args.d.now.whole.now) (g.P.Patterns.reading c.args.d.now.patterns.now) c.args.left in
    let v = view c.args.value.now in
    let ms = members_view c.args.keywords.now.entries in
    let r = c.args.d.now.dialect.reads_const in
    let read = c.schema_where_read-asked.ensures ∙ (λ i. schema_where_read (c.reads_const.ensures i) (c.member.ensures i)) in
    let some = ap (option_map (λ s. view s.now)) (sym c.in-Some.is) ∙ read in
    let d = view c.in-Some.schema.now in
    let accepted = option_map (read_data x) (get_member (codes "then") ms) in
    let refused = option_map (read_data x) (get_member (codes "else") ms) in
    let said : Open ≡ (judge x d).fits v = sym (ap meant c.in-Open.is) ∙ c.in_ok-says.ensures.verdict in
    let m1 = c.fits.new.marks.items in
    condition_marks r x (get_member (codes "if") ms) None accepted refused d v Open (parts_of v) c.args.marks.now.items m1 m1 some said refl
    c.in_ok-says.ensures.judged (sym (marked_none (parts_of v) m1))
