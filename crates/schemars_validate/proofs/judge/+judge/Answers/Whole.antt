-- A schema, and an object with all its keywords.
use Rattle.std.proofs.Common.{◌≡◌, ◌∙◌, List, Bool, false, Option, None, option_map, sym, ap, subst, arith, IfOk, OnOk}
use Rattle.schemars_validate.proofs.Words.{unwrap_or, Data, object, depth, get_member, as_object, view, members_view, Verdict, verdict, Judge, Raw, judged_beside, context, judge, object-as_object, meant, marked, parts_of, unmarked_by, reads}
use Rattle.schemars_validate.proofs.Measures.{depth_at, rest_under}
use Rattle.schemars_validate.proofs.Readings.{judge_other}
use Rattle.schemars_validate.proofs.PartsLeft.{object_alone, object_whole, object_with, object_with_marks, object_without, object_without_marks}
use Rattle.schemars_validate.proofs.MarkedAlike.{marked_none}
use Rattle.schemars_validate.proofs.judge.+judge.Goals as goal

pub judge-object-requires : goal.judge-object-requires
judge-object-requires g t c =
    let deep : depth (view c.args.schema.now) ≡ depth (object (members_view c.in-Some.keywords.now.entries)) =
    ap depth (object-as_object (view c.args.schema.now) (members_view c.in-Some.keywords.now.entries) c.in-Some.ensures) in
    λ κs s. (omega (arith, deep, c.decreases), (s, c.requires))

pub judge-returns-in-Some-clause-verdict : goal.judge-returns-in-Some-clause-verdict
judge-returns-in-Some-clause-verdict g t c =
    let x = context c.args.d.now.dialect (view c.args.d.now.whole.now) (g.P.Patterns.reading c.args.d.now.patterns.now) c.args.left in
    let P : Data → Type 0 = λ s. IfOk c.object.result (λ says. meant says ≡ (judge x s).fits (view c.args.value.now)) in
    subst P (sym (object-as_object (view c.args.schema.now) (members_view c.in-Some.keywords.now.entries) c.in-Some.ensures)) c.object.ensures.verdict

pub judge-returns-in-Some-clause-judged : goal.judge-returns-in-Some-clause-judged
judge-returns-in-Some-clause-judged g t c =
    let x = context c.args.d.now.dialect (view c.args.d.now.whole.now) (g.P.Patterns.reading c.args.d.now.patterns.now) c.args.left in
    let v = view c.args.value.now in
    let P : Data → Type 0 = λ s. OnOk c.object.result
    (c.object.new.marks.items ≡ marked ((judge x s).judges v) (parts_of v) c.args.marks.now.items) in
    subst P (sym (object-as_object (view c.args.schema.now) (members_view c.in-Some.keywords.now.entries) c.in-Some.ensures)) c.object.ensures.judged

pub judge-returns-in-None-clause-verdict : goal.judge-returns-in-None-clause-verdict
judge-returns-in-None-clause-verdict g t c =
    let x = context c.args.d.now.dialect (view c.args.d.now.whole.now) (g.P.Patterns.reading c.args.d.now.patterns.now) c.args.left in
    let v = view c.args.value.now in
    let s = view c.args.schema.now in
    let none : as_object s ≡ None = sym c.in-None.ensures in
    c.verdict_of.ensures
    ∙ (ap verdict (c.unwrap_or.ensures ∙ ap (λ (b : Option Bool). unwrap_or b false) c.as_bool.ensures)
    ∙ sym (ap (λ (j : Judge). j.fits v) (judge_other x s none)))

pub judge-returns-in-None-clause-judged : goal.judge-returns-in-None-clause-judged
judge-returns-in-None-clause-judged g t c =
    let x = context c.args.d.now.dialect (view c.args.d.now.whole.now) (g.P.Patterns.reading c.args.d.now.patterns.now) c.args.left in
    let v = view c.args.value.now in
    let s = view c.args.schema.now in
    let none : as_object s ≡ None = sym c.in-None.ensures in
    sym (ap (λ (j : Judge). marked (j.judges v) (parts_of v) c.args.marks.now.items) (judge_other x s none)
    ∙ marked_none (parts_of v) c.args.marks.now.items)

pub object-reference-requires : goal.object-reference-requires
object-reference-requires g t c = λ κs s. (omega (arith, c.decreases), (s, c.requires))

pub object-beside-requires : goal.object-beside-requires
object-beside-requires g t c = λ κs s. (omega (arith, c.decreases), (s, c.requires))

pub object-beside-requires-in-None : goal.object-beside-requires-in-None
object-beside-requires-in-None g t c = λ κs s. (omega (arith, c.decreases), (s, c.requires))

pub object-unevaluated-requires : goal.object-unevaluated-requires
object-unevaluated-requires g t c =
    let deep = ap depth_at c.in-Some.ensures in
    let under = rest_under c.args.d.now.dialect.reads_unevaluated (members_view c.args.keywords.now.entries) (view c.args.value.now) in
    λ κs s. (omega (arith, deep, under, c.decreases), (s, c.beside.ensures.keeps))

pub object-returns-then-refers_alone-clause-verdict : goal.object-returns-then-refers_alone-clause-verdict
object-returns-then-refers_alone-clause-verdict g t c =
    let x = context c.args.d.now.dialect (view c.args.d.now.whole.now) (g.P.Patterns.reading c.args.d.now.patterns.now) c.args.left in
    let P : Judge → Type 0 = λ j. IfOk c.reference.result (λ says. meant says ≡ j.fits (view c.args.value.now)) in
    subst P (sym (object_alone x (members_view c.args.keywords.now.entries) (sym c.refers_alone.ensures ∙ c.if-refers_alone.true)))
    c.reference.ensures.verdict

pub object-returns-then-refers_alone-clause-judged : goal.object-returns-then-refers_alone-clause-judged
object-returns-then-refers_alone-clause-judged g t c =
    let x = context c.args.d.now.dialect (view c.args.d.now.whole.now) (g.P.Patterns.reading c.args.d.now.patterns.now) c.args.left in
    let v = view c.args.value.now in
    let P : Judge → Type 0 = λ j. OnOk c.reference.result
    (c.reference.new.marks.items ≡ marked (j.judges v) (parts_of v) c.args.marks.now.items) in
    subst P (sym (object_alone x (members_view c.args.keywords.now.entries) (sym c.refers_alone.ensures ∙ c.if-refers_alone.true)))
    c.reference.ensures.judged

pub object-returns-in_ok-rest-in-Some-clause-verdict : goal.object-returns-in_ok-rest-in-Some-clause-verdict
object-returns-in_ok-rest-in-Some-clause-verdict g t c =
    let x = context c.args.d.now.dialect (view c.args.d.now.whole.now) (g.P.Patterns.reading c.args.d.now.patterns.now) c.args.left in
    let v = view c.args.value.now in
    let ms = members_view c.args.keywords.now.entries in
    let raw : Raw = λ k. get_member k ms in
    let d = view c.in-Some.schema.now in
    let whole = object_whole x ms (sym c.refers_alone.ensures ∙ c.if-refers_alone.false) in
    c.both.ensures
    ∙ (object_with x raw v d _ _ c.beside.new.marks.items c.in-Some.ensures c.in_ok-says-in-Some.ensures.verdict
    (c.in_ok-says-in-Some.ensures.judged
    ∙ ap (marked (judged_beside x raw (reads x raw) v) (parts_of v)) c.in_ok-judged-in-Some.ensures)
    (c.in_ok-rest-in-Some.ensures.verdict ∙ ap (unmarked_by (judge x d) v) c.deref.ensures.value)
    ∙ sym (ap (λ (j : Judge). j.fits v) whole))

pub object-returns-in_ok-rest-in-Some-clause-judged : goal.object-returns-in_ok-rest-in-Some-clause-judged
object-returns-in_ok-rest-in-Some-clause-judged g t c =
    let x = context c.args.d.now.dialect (view c.args.d.now.whole.now) (g.P.Patterns.reading c.args.d.now.patterns.now) c.args.left in
    let v = view c.args.value.now in
    let ms = members_view c.args.keywords.now.entries in
    let raw : Raw = λ k. get_member k ms in
    let old = c.args.marks.now.items in
    let whole = object_whole x ms (sym c.refers_alone.ensures ∙ c.if-refers_alone.false) in
    c.mark_all.ensures
    ∙ (object_with_marks x raw v (view c.in-Some.schema.now) old c.in-Some.ensures
    ∙ sym (ap (λ (j : Judge). marked (j.judges v) (parts_of v) old) whole))

pub object-returns-in-None-clause-verdict : goal.object-returns-in-None-clause-verdict
object-returns-in-None-clause-verdict g t c =
    let x = context c.args.d.now.dialect (view c.args.d.now.whole.now) (g.P.Patterns.reading c.args.d.now.patterns.now) c.args.left in
    let v = view c.args.value.now in
    let ms = members_view c.args.keywords.now.entries in
    let raw : Raw = λ k. get_member k ms in
    let whole = object_whole x ms (sym c.refers_alone.ensures ∙ c.if-refers_alone.false) in
    let none = ap (option_map (λ s. view s.now)) (sym c.in-None.is) ∙ c.schema_of_rest.ensures in
    let P : Verdict → Type 0 = λ y. IfOk c.beside-in-None.result (λ says. meant says ≡ y) in
    subst P (object_without x raw v none ∙ sym (ap (λ (j : Judge). j.fits v) whole)) c.beside-in-None.ensures.verdict

pub object-returns-in-None-clause-judged : goal.object-returns-in-None-clause-judged
object-returns-in-None-clause-judged g t c =
    let x = context c.args.d.now.dialect (view c.args.d.now.whole.now) (g.P.Patterns.reading c.args.d.now.patterns.now) c.args.left in
    let v = view c.args.value.now in
    let ms = members_view c.args.keywords.now.entries in
    let raw : Raw = λ k. get_member k ms in
    let old = c.args.marks.now.items in
    let whole = object_whole x ms (sym c.refers_alone.ensures ∙ c.if-refers_alone.false) in
    let none = ap (option_map (λ s. view s.now)) (sym c.in-None.is) ∙ c.schema_of_rest.ensures in
    let P : List Bool → Type 0 = λ y. OnOk c.beside-in-None.result (c.beside-in-None.new.marks.items ≡ y) in
    subst P (object_without_marks x raw v old none ∙ sym (ap (λ (j : Judge). marked (j.judges v) (parts_of v) old) whole))
    c.beside-in-None.ensures.judged
