-- What a condition says and marks.
use Rattle.std.proofs.Common.{◌≡◌, List, Bool, true, false, Option, Some, None, sym, ap, ◌∙◌}
use Rattle.schemars_validate.proofs.Words.{◌||◌, option_map, option_and_then, Data, Verdict, Yes, Context, Part, where_some, Reading, condition_says, chosen, schema_says, judged_by, branch_of, judged_by_schema, judged_by_condition, judge, read_data, schema_at, schema_where_read, judge_at, marked, judged_by_one}
use Rattle.schemars_validate.proofs.Readings.{read_condition, read_schema}
use Rattle.schemars_validate.proofs.MarkedAlike.{marked_same, marked_none, then_marked, no_one}

-- without `if`
pub no_condition_says : (r : Bool) (c : Context) (x : Option Data) (accepted refused : Option Reading) (v : Data) → None ≡ schema_where_read r x
    → Yes ≡ condition_says r (option_map (read_data c) x) accepted refused v
no_condition_says r c x accepted refused v is =
    ap (λ o. where_some (judge_at c o) (λ s. chosen (s.fits v) (schema_says accepted v) (schema_says refused v))) is
    ∙ read_condition r c x accepted refused v

pub condition_said : (r : Bool) (c : Context) (x : Option Data) (accepted refused : Option Reading) (d v : Data) (says : Verdict)
    → Some d ≡ schema_where_read r x → says ≡ (judge c d).fits v
    → chosen says (schema_says accepted v) (schema_says refused v) ≡ condition_says r (option_map (read_data c) x) accepted refused v
condition_said r c x accepted refused d v says is said =
    ap (λ y. chosen y (schema_says accepted v) (schema_says refused v)) said
    ∙ (ap (λ o. where_some (judge_at c o) (λ s. chosen (s.fits v) (schema_says accepted v) (schema_says refused v))) is
    ∙ read_condition r c x accepted refused v)

judged_by_both : (r : Bool) (c : Context) (x : Option Data) (accepted refused : Option Reading) (v : Data) (p : Part)
    → elim (judge_at c (schema_where_read r x)) [
      | None ↦ false
      | Some s ↦ judged_by s v p || judged_by_schema (branch_of (s.fits v) accepted refused) v p
    ]
    ≡ judged_by_condition r (option_map (read_data c) x) accepted refused v p
judged_by_both true c x accepted refused v p =
    sym (ap (λ o. elim o [ None ↦ false | Some s ↦ judged_by s v p || judged_by_schema (branch_of (s.fits v) accepted refused) v p ])
    (read_schema c x))
judged_by_both false c x accepted refused v p = no_one (option_and_then (λ r. r.schema) (option_map (read_data c) x))

pub no_condition_marks : (r : Bool) (c : Context) (x : Option Data) (accepted refused : Option Reading) (v : Data) (ps : List Part)
    (bs : List Bool) → None ≡ schema_where_read r x → bs ≡ marked (judged_by_condition r (option_map (read_data c) x) accepted refused v) ps bs
no_condition_marks r c x accepted refused v ps bs is =
    sym (marked_none ps bs)
    ∙ marked_same _ _ (λ p. ap (λ o. elim (judge_at c o) [
      | None ↦ false
      | Some s ↦ judged_by s v p || judged_by_schema (branch_of (s.fits v) accepted refused) v p
    ]) is ∙ judged_by_both r c x accepted refused v p) ps bs

-- with the branch that stands at `y`
pub condition_marks : (r : Bool) (c : Context) (x y : Option Data) (accepted refused : Option Reading) (d v : Data) (says : Verdict)
    (ps : List Part) (m0 m1 m2 : List Bool) → Some d ≡ schema_where_read r x → says ≡ (judge c d).fits v
    → branch_of says accepted refused ≡ option_map (read_data c) y
    → m1 ≡ marked (judged_by (judge c d) v) ps m0 → m2 ≡ marked (judged_by_one (judge_at c (schema_at y)) v) ps m1
    → m2 ≡ marked (judged_by_condition r (option_map (read_data c) x) accepted refused v) ps m0
condition_marks r c x y accepted refused d v says ps m0 m1 m2 is said taken e1 e2 =
    then_marked (judged_by (judge c d) v) (judged_by_one (judge_at c (schema_at y)) v) ps m0 m1 m2 e1 e2
    ∙ marked_same _ _ (λ p. ap (λ b. judged_by (judge c d) v p || b) (branch p)
    ∙ (ap (λ o. elim (judge_at c o) [
      | None ↦ false
      | Some s ↦ judged_by s v p || judged_by_schema (branch_of (s.fits v) accepted refused) v p
    ]) is ∙ judged_by_both r c x accepted refused v p)) ps m0
  where
    branch : (p : Part) → judged_by_one (judge_at c (schema_at y)) v p ≡ judged_by_schema (branch_of ((judge c d).fits v) accepted refused) v p
    branch p =
        ap (λ o. elim o [ None ↦ false | Some s ↦ judged_by s v p ]) (sym (read_schema c y))
        ∙ (ap (λ o. judged_by_schema o v p) (sym taken) ∙ ap (λ z. judged_by_schema (branch_of z accepted refused) v p) said)
