-- One schema, of the same value or of another, and one that a reference names.
use Rattle.std.proofs.Common.{◌≡◌, ◌∙◌, ◌<◌, ◌≤◌, List, Bool, refl, rules, option_map, sym, ap, subst, arith, IfOk, OnOk}
use Rattle.schemars_validate.proofs.Words.{◌==◌, codes, depth, get_member, view, members_view, Verdict, is_yes, Judge, judged_by, context, judge, follow, meant, united, marked, parts_of}
use Rattle.schemars_validate.proofs.Measures.{depth_at, resolved_shallow, reference_less, fewer_less}
use Rattle.schemars_validate.proofs.MarkedAlike.{marked_none}
use Rattle.schemars_validate.proofs.OneSchema.{failing_marks, kept_marks, no_text_says, no_text_marks, answered_says, answered_marks, follow_zero, follow_lost}
use Rattle.schemars_validate.proofs.Recalling.{recalls_none, found_alone, found_marked, united_found, none_found, none_there}
use Rattle.schemars_validate.proofs.Chaining.{leads_on, ends_before, passed_says, passed_marks, passed_alone, passed_marked}
use Rattle.schemars_validate.specs.Chains.{LeadsOn}
use Rattle.schemars_validate.specs.Memos.{IsKnown}
use Rattle.schemars_validate.proofs.judge.+judge.Goals as goal

pub one::branch-returns-in-None-clause-judged : goal.one::branch-returns-in-None-clause-judged
one::branch-returns-in-None-clause-judged g t c =
    rw c.in-None.is (sym (marked_none (parts_of (view c.args.value.now)) c.args.marks.now.items))

pub one::reference-returns-in_default-clause-verdict : goal.one::reference-returns-in_default-clause-verdict
one::reference-returns-in_default-clause-verdict g t c =
    let to = follow c.args.d.now.dialect (view c.args.d.now.whole.now) (g.P.Patterns.reading c.args.d.now.patterns.now) c.args.left in
    let none = sym c.reference_in.ensures ∙ ap (option_map (λ s. s.now)) c.in_default.is in
    sym (no_text_says to (get_member (codes "$ref") (members_view c.args.keywords.now.entries)) (view c.args.value.now) none)

pub one::reference-returns-in_default-clause-judged : goal.one::reference-returns-in_default-clause-judged
one::reference-returns-in_default-clause-judged g t c =
    let to = follow c.args.d.now.dialect (view c.args.d.now.whole.now) (g.P.Patterns.reading c.args.d.now.patterns.now) c.args.left in
    let none = sym c.reference_in.ensures ∙ ap (option_map (λ s. s.now)) c.in_default.is in
    no_text_marks to (get_member (codes "$ref") (members_view c.args.keywords.now.entries)) (view c.args.value.now)
    (parts_of (view c.args.value.now)) c.args.marks.now.items none

pub one::reference-named-requires : goal.one::reference-named-requires
one::reference-named-requires g t c =
    λ κs s. (omega (arith, c.decreases), (s, c.requires))

pub one::reference-returns-clause-verdict : goal.one::reference-returns-clause-verdict
one::reference-returns-clause-verdict g t c =
    let doc = view c.args.d.now.whole.now in
    let reading = g.P.Patterns.reading c.args.d.now.patterns.now in
    let to = follow c.args.d.now.dialect doc reading c.args.left in
    let name = c.in-Some.name.now in
    let is = sym c.reference_in.ensures ∙ ap (option_map (λ s. s.now)) c.in-Some.is in
    let P : Verdict → Type 0 = λ y. IfOk c.named.result (λ says. meant says ≡ y) in
    subst P (answered_says to (get_member (codes "$ref") (members_view c.args.keywords.now.entries)) (view c.args.value.now) name _ is refl)
    c.named.ensures.verdict

pub one::reference-returns-clause-judged : goal.one::reference-returns-clause-judged
one::reference-returns-clause-judged g t c =
    let doc = view c.args.d.now.whole.now in
    let reading = g.P.Patterns.reading c.args.d.now.patterns.now in
    let to = follow c.args.d.now.dialect doc reading c.args.left in
    let name = c.in-Some.name.now in
    let is = sym c.reference_in.ensures ∙ ap (option_map (λ s. s.now)) c.in-Some.is in
    let P : List Bool → Type 0 = λ y. OnOk c.named.result (c.named.new.marks.items ≡ y) in
    subst P (answered_marks to (get_member (codes "$ref") (members_view c.args.keywords.now.entries)) (view c.args.value.now) name _
    (parts_of (view c.args.value.now)) c.args.marks.now.items is refl)
    c.named.ensures.judged

pub one::named-followed-requires : goal.one::named-followed-requires
one::named-followed-requires g t c =
    let known : IsKnown (follow c.args.d.now.dialect (view c.args.d.now.whole.now) (g.P.Patterns.reading c.args.d.now.patterns.now))
    (view c.args.value.now) c.args.memo.now = search rules in
    let left = c.requires.1.0 in
    λ κs s. (omega (arith, left), (s, known))

pub one::named-returns-in-None-clause-judged : goal.one::named-returns-in-None-clause-judged
one::named-returns-in-None-clause-judged g t c =
    let doc = view c.args.d.now.whole.now in
    let reading = g.P.Patterns.reading c.args.d.now.patterns.now in
    let to = follow c.args.d.now.dialect doc reading c.args.left in
    let v = view c.args.value.now in
    let known : IsKnown (follow c.args.d.now.dialect doc reading) v c.args.memo.now = search rules in
    let same = recalls_none c.args.d.now.dialect c.args.memo.now c.args.name.now c.args.left _ _ _ c.in-None.is c.recall.ensures
    doc reading v known in
    let P : List Bool → Type 0 = λ y. OnOk c.followed.result (c.followed.new.marks.items ≡ y) in
    subst P (ap (marked (judged_by (to c.args.name.now) v) (parts_of v)) same) c.followed.ensures.judged

pub one::followed-returns-then-left-eq0-clause-verdict : goal.one::followed-returns-then-left-eq0-clause-verdict
one::followed-returns-then-left-eq0-clause-verdict g t c =
    let doc = view c.args.d.now.whole.now in
    let reading = g.P.Patterns.reading c.args.d.now.patterns.now in
    let lost = follow_zero c.args.d.now.dialect doc reading c.args.left c.args.name.now c.if-left-eq0.true in
    sym (ap (λ (j : Judge). j.fits (view c.args.value.now)) lost)

pub one::followed-returns-then-left-eq0-clause-judged : goal.one::followed-returns-then-left-eq0-clause-judged
one::followed-returns-then-left-eq0-clause-judged g t c =
    let doc = view c.args.d.now.whole.now in
    let reading = g.P.Patterns.reading c.args.d.now.patterns.now in
    let v = view c.args.value.now in
    let lost = follow_zero c.args.d.now.dialect doc reading c.args.left c.args.name.now c.if-left-eq0.true in
    failing_marks (follow c.args.d.now.dialect doc reading c.args.left c.args.name.now) v (parts_of v) c.args.marks.now.items
    (ap (λ (j : Judge). is_yes (j.fits v)) lost)

pub one::followed-returns-in_default-clause-verdict : goal.one::followed-returns-in_default-clause-verdict
one::followed-returns-in_default-clause-verdict g t c =
    let doc = view c.args.d.now.whole.now in
    let reading = g.P.Patterns.reading c.args.d.now.patterns.now in
    let none = sym (ap (option_map (λ s. view s.now)) c.in_default.is) ∙ c.in_ok-schema.ensures in
    let lost = follow_lost c.args.d.now.dialect doc reading c.args.left c.args.name.now none in
    sym (ap (λ (j : Judge). j.fits (view c.args.value.now)) lost)

pub one::followed-returns-in_default-clause-judged : goal.one::followed-returns-in_default-clause-judged
one::followed-returns-in_default-clause-judged g t c =
    let doc = view c.args.d.now.whole.now in
    let reading = g.P.Patterns.reading c.args.d.now.patterns.now in
    let v = view c.args.value.now in
    let none = sym (ap (option_map (λ s. view s.now)) c.in_default.is) ∙ c.in_ok-schema.ensures in
    let lost = follow_lost c.args.d.now.dialect doc reading c.args.left c.args.name.now none in
    failing_marks (follow c.args.d.now.dialect doc reading c.args.left c.args.name.now) v (parts_of v) c.args.marks.now.items
    (ap (λ (j : Judge). is_yes (j.fits v)) lost)

pub one::followed-passed_on-requires : goal.one::followed-passed_on-requires
one::followed-passed_on-requires g t c =
    let doc = view c.args.d.now.whole.now in
    let found = sym (ap (option_map (λ s. view s.now)) c.in-Some.is) ∙ c.in_ok-schema.ensures in
    let some : 0 < c.args.left = omega (arith, c.if-left-eq0.false) in
    let known : IsKnown (follow c.args.d.now.dialect doc (g.P.Patterns.reading c.args.d.now.patterns.now)) (view c.args.value.now) c.args.memo.now =
    search rules in
    let left = c.requires.1.0 in
    λ κs s. (omega (arith, left), (s, (known, some, leads_on c.args.d.now.dialect doc c.args.name.now c.in-Some-reference_of_schema.next.now (view c.in-Some.schema.now) found c.in-Some-reference_of_schema.ensures)))

pub one::followed-alone-requires : goal.one::followed-alone-requires
one::followed-alone-requires g t c =
    let doc = view c.args.d.now.whole.now in
    let found = sym (ap (option_map (λ s. view s.now)) c.in-Some.is) ∙ c.in_ok-schema.ensures in
    let deep = ap depth_at found in
    let under = resolved_shallow doc c.args.name.now in
    let shallow : depth (view c.in-Some.schema.now) ≤ depth doc = omega (arith, deep, under) in
    let some : 0 < c.args.left = omega (arith, c.if-left-eq0.false) in
    let less = reference_less c.args.left doc (depth (view c.in-Some.schema.now)) some shallow in
    let known : IsKnown (follow c.args.d.now.dialect doc (g.P.Patterns.reading c.args.d.now.patterns.now)) (view c.args.value.now) c.args.memo.now =
    search rules in
    λ κs s. (omega (arith, less), (s, known))

pub one::followed-fits-requires : goal.one::followed-fits-requires
one::followed-fits-requires g t c =
    let doc = view c.args.d.now.whole.now in
    let found = sym (ap (option_map (λ s. view s.now)) c.in-Some.is) ∙ c.in_ok-schema.ensures in
    let deep = ap depth_at found in
    let under = resolved_shallow doc c.args.name.now in
    let shallow : depth (view c.in-Some.schema.now) ≤ depth doc = omega (arith, deep, under) in
    let some : 0 < c.args.left = omega (arith, c.if-left-eq0.false) in
    let less = reference_less c.args.left doc (depth (view c.in-Some.schema.now)) some shallow in
    let known : IsKnown (follow c.args.d.now.dialect doc (g.P.Patterns.reading c.args.d.now.patterns.now)) (view c.args.value.now) c.args.memo.now =
    search rules in
    λ κs s. (omega (arith, less), (s, known))

pub one::followed-returns-then-is_empty-clause-verdict : goal.one::followed-returns-then-is_empty-clause-verdict
one::followed-returns-then-is_empty-clause-verdict g t c =
    let doc = view c.args.d.now.whole.now in
    let reading = g.P.Patterns.reading c.args.d.now.patterns.now in
    let v = view c.args.value.now in
    let found = sym (ap (option_map (λ s. view s.now)) c.in-Some.is) ∙ c.in_ok-schema.ensures in
    let some : 0 < c.args.left = omega (arith, c.if-left-eq0.false) in
    let right = found_alone c.args.d.now.dialect doc reading c.args.left c.args.name.now v (view c.in-Some.schema.now) (meant c.in_ok-says.says) some found
    c.in_ok-says.ensures.verdict in
    sym right.says

pub one::followed-returns-then-is_empty-clause-judged : goal.one::followed-returns-then-is_empty-clause-judged
one::followed-returns-then-is_empty-clause-judged g t c =
    let doc = view c.args.d.now.whole.now in
    let reading = g.P.Patterns.reading c.args.d.now.patterns.now in
    let v = view c.args.value.now in
    let found = sym (ap (option_map (λ s. view s.now)) c.in-Some.is) ∙ c.in_ok-schema.ensures in
    let some : 0 < c.args.left = omega (arith, c.if-left-eq0.false) in
    none_found (follow c.args.d.now.dialect doc reading) v c.args.name.now c.args.left c.args.marks.now.items (none_there c.args.marks.now.items
    (sym (ap (λ n. n == 0) c.args.marks.now.ok.0) ∙ (sym c.is_empty.ensures ∙ c.if-is_empty.true)))

pub one::followed-returns-then-is_empty-clause-keeps : goal.one::followed-returns-then-is_empty-clause-keeps
one::followed-returns-then-is_empty-clause-keeps g t c =
    let doc = view c.args.d.now.whole.now in
    let reading = g.P.Patterns.reading c.args.d.now.patterns.now in
    let v = view c.args.value.now in
    let found = sym (ap (option_map (λ s. view s.now)) c.in-Some.is) ∙ c.in_ok-schema.ensures in
    let some : 0 < c.args.left = omega (arith, c.if-left-eq0.false) in
    let right = found_alone c.args.d.now.dialect doc reading c.args.left c.args.name.now v (view c.in-Some.schema.now) (meant c.in_ok-says.says) some found
    c.in_ok-says.ensures.verdict in
    c.keep.ensures (follow c.args.d.now.dialect doc reading) v c.alone.ensures.keeps right

pub one::followed-returns-in_err-keep-clause-keeps : goal.one::followed-returns-in_err-keep-clause-keeps
one::followed-returns-in_err-keep-clause-keeps g t c =
    let doc = view c.args.d.now.whole.now in
    let reading = g.P.Patterns.reading c.args.d.now.patterns.now in
    let v = view c.args.value.now in
    let found = sym (ap (option_map (λ s. view s.now)) c.in-Some.is) ∙ c.in_ok-schema.ensures in
    let some : 0 < c.args.left = omega (arith, c.if-left-eq0.false) in
    let right = found_alone c.args.d.now.dialect doc reading c.args.left c.args.name.now v (view c.in-Some.schema.now) (meant c.in_ok-says.says) some found
    c.in_ok-says.ensures.verdict in
    c.keep.ensures (follow c.args.d.now.dialect doc reading) v c.alone.ensures.keeps right

pub one::followed-returns-clause-verdict : goal.one::followed-returns-clause-verdict
one::followed-returns-clause-verdict g t c =
    let doc = view c.args.d.now.whole.now in
    let reading = g.P.Patterns.reading c.args.d.now.patterns.now in
    let v = view c.args.value.now in
    let found = sym (ap (option_map (λ s. view s.now)) c.in-Some.is) ∙ c.in_ok-schema.ensures in
    let some : 0 < c.args.left = omega (arith, c.if-left-eq0.false) in
    let right = found_marked c.args.d.now.dialect doc reading c.args.left c.args.name.now v (view c.in-Some.schema.now) (meant c.in_ok-says-2.says)
    c.in_ok-judged.judged.items c.fits.new.marks.items some found c.in_ok-says-2.ensures.verdict c.in_ok-judged.ensures c.in_ok-says-2.ensures.judged in
    sym right.says

pub one::followed-returns-clause-judged : goal.one::followed-returns-clause-judged
one::followed-returns-clause-judged g t c =
    let doc = view c.args.d.now.whole.now in
    let reading = g.P.Patterns.reading c.args.d.now.patterns.now in
    let v = view c.args.value.now in
    let found = sym (ap (option_map (λ s. view s.now)) c.in-Some.is) ∙ c.in_ok-schema.ensures in
    let some : 0 < c.args.left = omega (arith, c.if-left-eq0.false) in
    let right = found_marked c.args.d.now.dialect doc reading c.args.left c.args.name.now v (view c.in-Some.schema.now) (meant c.in_ok-says-2.says)
    c.in_ok-judged.judged.items c.fits.new.marks.items some found c.in_ok-says-2.ensures.verdict c.in_ok-judged.ensures c.in_ok-says-2.ensures.judged in
    united_found (follow c.args.d.now.dialect doc reading) v c.args.name.now c.args.left (meant c.in_ok-says-2.says) c.fits.new.marks.items c.args.marks.now.items c.unite.new.marks.items
    right (c.unite.ensures ∙ ap (λ ms. united ms c.args.marks.now.items) c.deref.ensures.value)

pub one::followed-returns-clause-keeps : goal.one::followed-returns-clause-keeps
one::followed-returns-clause-keeps g t c =
    let doc = view c.args.d.now.whole.now in
    let reading = g.P.Patterns.reading c.args.d.now.patterns.now in
    let v = view c.args.value.now in
    let found = sym (ap (option_map (λ s. view s.now)) c.in-Some.is) ∙ c.in_ok-schema.ensures in
    let some : 0 < c.args.left = omega (arith, c.if-left-eq0.false) in
    let right = found_marked c.args.d.now.dialect doc reading c.args.left c.args.name.now v (view c.in-Some.schema.now) (meant c.in_ok-says-2.says)
    c.in_ok-judged.judged.items c.fits.new.marks.items some found c.in_ok-says-2.ensures.verdict c.in_ok-judged.ensures c.in_ok-says-2.ensures.judged in
    c.keep-2.ensures (follow c.args.d.now.dialect doc reading) v c.fits.ensures.keeps right

pub one::followed-returns-in_err-keep-2-clause-keeps : goal.one::followed-returns-in_err-keep-2-clause-keeps
one::followed-returns-in_err-keep-2-clause-keeps g t c =
    let doc = view c.args.d.now.whole.now in
    let reading = g.P.Patterns.reading c.args.d.now.patterns.now in
    let v = view c.args.value.now in
    let found = sym (ap (option_map (λ s. view s.now)) c.in-Some.is) ∙ c.in_ok-schema.ensures in
    let some : 0 < c.args.left = omega (arith, c.if-left-eq0.false) in
    let right = found_marked c.args.d.now.dialect doc reading c.args.left c.args.name.now v (view c.in-Some.schema.now) (meant c.in_ok-says-2.says)
    c.in_ok-judged.judged.items c.fits.new.marks.items some found c.in_ok-says-2.ensures.verdict c.in_ok-judged.ensures c.in_ok-says-2.ensures.judged in
    c.keep-2.ensures (follow c.args.d.now.dialect doc reading) v c.fits.ensures.keeps right

pub one::passed_on-named-requires : goal.one::passed_on-named-requires
one::passed_on-named-requires g t c =
    let doc = view c.args.d.now.whole.now in
    let some = c.requires.1.1.1.1 in
    let known : IsKnown (follow c.args.d.now.dialect doc (g.P.Patterns.reading c.args.d.now.patterns.now)) (view c.args.value.now) c.args.memo.now =
    search rules in
    let less = fewer_less c.in_ok-last.last.left c.args.left doc some c.in_ok-last.ensures.few in
    let left = c.requires.1.0 in
    λ κs s. (omega (arith, less, left), (s, known))

pub one::passed_on-named-requires-2 : goal.one::passed_on-named-requires-2
one::passed_on-named-requires-2 g t c =
    let doc = view c.args.d.now.whole.now in
    let some = c.requires.1.1.1.1 in
    let known : IsKnown (follow c.args.d.now.dialect doc (g.P.Patterns.reading c.args.d.now.patterns.now)) (view c.args.value.now) c.args.memo.now =
    search rules in
    let less = fewer_less c.in_ok-last.last.left c.args.left doc some c.in_ok-last.ensures.few in
    let left = c.requires.1.0 in
    λ κs s. (omega (arith, less, left), (s, known))

pub one::passed_on-returns-then-is_empty-clause-verdict : goal.one::passed_on-returns-then-is_empty-clause-verdict
one::passed_on-returns-then-is_empty-clause-verdict g t c =
    let doc = view c.args.d.now.whole.now in
    let reading = g.P.Patterns.reading c.args.d.now.patterns.now in
    let v = view c.args.value.now in
    let some = c.requires.1.1.1.1 in
    let leads = c.requires.1.1.1.2 in
    let ends = ends_before c.args.d.now.dialect doc c.args.name.now c.args.left c.args.next.now c.in_ok-last.last.name.now c.in_ok-last.last.left
    some leads c.in_ok-last.ensures in
    passed_says c.args.d.now.dialect doc reading c.args.name.now c.args.left c.in_ok-last.last.name.now c.in_ok-last.last.left ends v (meant c.in_ok-says.says) c.in_ok-says.ensures.verdict

pub one::passed_on-returns-then-is_empty-clause-judged : goal.one::passed_on-returns-then-is_empty-clause-judged
one::passed_on-returns-then-is_empty-clause-judged g t c =
    let doc = view c.args.d.now.whole.now in
    let reading = g.P.Patterns.reading c.args.d.now.patterns.now in
    let v = view c.args.value.now in
    let some = c.requires.1.1.1.1 in
    let leads = c.requires.1.1.1.2 in
    let ends = ends_before c.args.d.now.dialect doc c.args.name.now c.args.left c.args.next.now c.in_ok-last.last.name.now c.in_ok-last.last.left
    some leads c.in_ok-last.ensures in
    c.in_ok-says.ensures.judged ∙ passed_marks c.args.d.now.dialect doc reading c.args.name.now c.args.left c.in_ok-last.last.name.now c.in_ok-last.last.left ends v c.args.marks.now.items

pub one::passed_on-returns-then-is_empty-clause-keeps : goal.one::passed_on-returns-then-is_empty-clause-keeps
one::passed_on-returns-then-is_empty-clause-keeps g t c =
    let doc = view c.args.d.now.whole.now in
    let reading = g.P.Patterns.reading c.args.d.now.patterns.now in
    let v = view c.args.value.now in
    let some = c.requires.1.1.1.1 in
    let leads = c.requires.1.1.1.2 in
    let ends = ends_before c.args.d.now.dialect doc c.args.name.now c.args.left c.args.next.now c.in_ok-last.last.name.now c.in_ok-last.last.left
    some leads c.in_ok-last.ensures in
    c.keep.ensures (follow c.args.d.now.dialect doc reading) v c.named.ensures.keeps
    (passed_alone c.args.d.now.dialect doc reading c.args.name.now c.args.left c.in_ok-last.last.name.now c.in_ok-last.last.left ends v (meant c.in_ok-says.says) c.in_ok-says.ensures.verdict)

pub one::passed_on-returns-in_err-keep-clause-keeps : goal.one::passed_on-returns-in_err-keep-clause-keeps
one::passed_on-returns-in_err-keep-clause-keeps g t c =
    let doc = view c.args.d.now.whole.now in
    let reading = g.P.Patterns.reading c.args.d.now.patterns.now in
    let v = view c.args.value.now in
    let some = c.requires.1.1.1.1 in
    let leads = c.requires.1.1.1.2 in
    let ends = ends_before c.args.d.now.dialect doc c.args.name.now c.args.left c.args.next.now c.in_ok-last.last.name.now c.in_ok-last.last.left
    some leads c.in_ok-last.ensures in
    c.keep.ensures (follow c.args.d.now.dialect doc reading) v c.named.ensures.keeps
    (passed_alone c.args.d.now.dialect doc reading c.args.name.now c.args.left c.in_ok-last.last.name.now c.in_ok-last.last.left ends v (meant c.in_ok-says.says) c.in_ok-says.ensures.verdict)

pub one::passed_on-returns-clause-verdict : goal.one::passed_on-returns-clause-verdict
one::passed_on-returns-clause-verdict g t c =
    let doc = view c.args.d.now.whole.now in
    let reading = g.P.Patterns.reading c.args.d.now.patterns.now in
    let v = view c.args.value.now in
    let some = c.requires.1.1.1.1 in
    let leads = c.requires.1.1.1.2 in
    let ends = ends_before c.args.d.now.dialect doc c.args.name.now c.args.left c.args.next.now c.in_ok-last.last.name.now c.in_ok-last.last.left
    some leads c.in_ok-last.ensures in
    passed_says c.args.d.now.dialect doc reading c.args.name.now c.args.left c.in_ok-last.last.name.now c.in_ok-last.last.left ends v (meant c.in_ok-says-2.says) c.in_ok-says-2.ensures.verdict

pub one::passed_on-returns-clause-judged : goal.one::passed_on-returns-clause-judged
one::passed_on-returns-clause-judged g t c =
    let doc = view c.args.d.now.whole.now in
    let reading = g.P.Patterns.reading c.args.d.now.patterns.now in
    let v = view c.args.value.now in
    let some = c.requires.1.1.1.1 in
    let leads = c.requires.1.1.1.2 in
    let ends = ends_before c.args.d.now.dialect doc c.args.name.now c.args.left c.args.next.now c.in_ok-last.last.name.now c.in_ok-last.last.left
    some leads c.in_ok-last.ensures in
    united_found (follow c.args.d.now.dialect doc reading) v c.args.name.now c.args.left (meant c.in_ok-says-2.says) c.named-2.new.marks.items c.args.marks.now.items c.unite.new.marks.items
    (passed_marked c.args.d.now.dialect doc reading c.args.name.now c.args.left c.in_ok-last.last.name.now c.in_ok-last.last.left ends v (meant c.in_ok-says-2.says) c.in_ok-judged.judged.items c.named-2.new.marks.items
    c.in_ok-says-2.ensures.verdict c.in_ok-judged.ensures c.in_ok-says-2.ensures.judged)
    (c.unite.ensures ∙ ap (λ ms. united ms c.args.marks.now.items) c.deref.ensures.value)

pub one::passed_on-returns-clause-keeps : goal.one::passed_on-returns-clause-keeps
one::passed_on-returns-clause-keeps g t c =
    let doc = view c.args.d.now.whole.now in
    let reading = g.P.Patterns.reading c.args.d.now.patterns.now in
    let v = view c.args.value.now in
    let some = c.requires.1.1.1.1 in
    let leads = c.requires.1.1.1.2 in
    let ends = ends_before c.args.d.now.dialect doc c.args.name.now c.args.left c.args.next.now c.in_ok-last.last.name.now c.in_ok-last.last.left
    some leads c.in_ok-last.ensures in
    c.keep-2.ensures (follow c.args.d.now.dialect doc reading) v c.named-2.ensures.keeps
    (passed_marked c.args.d.now.dialect doc reading c.args.name.now c.args.left c.in_ok-last.last.name.now c.in_ok-last.last.left ends v (meant c.in_ok-says-2.says) c.in_ok-judged.judged.items c.named-2.new.marks.items
    c.in_ok-says-2.ensures.verdict c.in_ok-judged.ensures c.in_ok-says-2.ensures.judged)

pub one::passed_on-returns-in_err-keep-2-clause-keeps : goal.one::passed_on-returns-in_err-keep-2-clause-keeps
one::passed_on-returns-in_err-keep-2-clause-keeps g t c =
    let doc = view c.args.d.now.whole.now in
    let reading = g.P.Patterns.reading c.args.d.now.patterns.now in
    let v = view c.args.value.now in
    let some = c.requires.1.1.1.1 in
    let leads = c.requires.1.1.1.2 in
    let ends = ends_before c.args.d.now.dialect doc c.args.name.now c.args.left c.args.next.now c.in_ok-last.last.name.now c.in_ok-last.last.left
    some leads c.in_ok-last.ensures in
    c.keep-2.ensures (follow c.args.d.now.dialect doc reading) v c.named-2.ensures.keeps
    (passed_marked c.args.d.now.dialect doc reading c.args.name.now c.args.left c.in_ok-last.last.name.now c.in_ok-last.last.left ends v (meant c.in_ok-says-2.says) c.in_ok-judged.judged.items c.named-2.new.marks.items
    c.in_ok-says-2.ensures.verdict c.in_ok-judged.ensures c.in_ok-says-2.ensures.judged)

pub one::fits-returns-clause-judged : goal.one::fits-returns-clause-judged
one::fits-returns-clause-judged g t c =
    let x = context c.args.d.now.dialect (view c.args.d.now.whole.now) (g.P.Patterns.reading c.args.d.now.patterns.now) c.args.left in
    let v = view c.args.value.now in
    let s = judge x (view c.args.schema.now) in
    kept_marks s v (parts_of v) (meant c.in_ok-says.says) c.args.marks.now.items c.judge.new.marks.items c.keep.new.marks.items
    c.in_ok-says.ensures.verdict
    (c.in_ok-says.ensures.judged ∙ ap (marked (s.judges v) (parts_of v)) c.in_ok-tried.ensures)
    c.keep.ensures

pub one::alone-judge-requires : goal.one::alone-judge-requires
one::alone-judge-requires g t c =
    let deep = ap (λ o. depth_at (option_map (λ s. view s.now) o)) c.in-Some.is in
    λ κs s. (omega (arith, deep, c.decreases), (s, c.requires))

pub one::alone-returns-in-Some-clause-verdict : goal.one::alone-returns-in-Some-clause-verdict
one::alone-returns-in-Some-clause-verdict g t c = rw c.in-Some.is c.judge.ensures.verdict

pub one::alone-returns-in-None-clause-verdict : goal.one::alone-returns-in-None-clause-verdict
one::alone-returns-in-None-clause-verdict g t c = rw c.in-None.is

pub one::fits-judge-requires : goal.one::fits-judge-requires
one::fits-judge-requires g t c = λ κs s. (omega (arith, c.decreases), (s, c.requires))
