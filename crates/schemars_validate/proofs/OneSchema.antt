-- What one schema says and marks: of the same value, or one that a reference names.
use Rattle.std.proofs.Common.{◌≡◌, ℕ, zero, suc, ◌-◌, ◌<◌, List, ◌∷◌, Bool, false, Option, Some, None, refl, sym, ap, ◌∙◌, arith}
use Rattle.schemars_validate.proofs.Words.{◌&&◌, option_and_then, if◌then◌else◌, Data, as_str, Text, resolved, Verdict, Yes, No, Open, is_yes, Dialect, Patterns, Judge, Part, where_some, reference_says, judged_by, judged_by_some, judged_by_reference, context, judge, follow, unanswered, marked}
use Rattle.schemars_validate.proofs.MarkedAlike.{marked_same, marked_none, marked_twice}

pub fitting_marks : (s : Judge) (v : Data) (ps : List Part) (bs : List Bool) → s.fits v ≡ Yes
    → marked (s.judges v) ps bs ≡ marked (judged_by s v) ps bs
fitting_marks s v ps bs is = marked_same _ _ (λ p. sym (ap (λ x. is_yes x && s.judges v p) is)) ps bs

pub failing_marks : (s : Judge) (v : Data) (ps : List Part) (bs : List Bool) → is_yes (s.fits v) ≡ false
    → bs ≡ marked (judged_by s v) ps bs
failing_marks s v ps bs is = sym (marked_same _ _ (λ p. ap (λ b. b && s.judges v p) is) ps bs ∙ marked_none ps bs)

pub next_marks : (s : Judge) (ss : List Judge) (v : Data) (ps : List Part) (bs cs : List Bool) → cs ≡ marked (judged_by s v) ps bs
    → marked (judged_by_some ss v) ps cs ≡ marked (judged_by_some (s ∷ ss) v) ps bs
next_marks s ss v ps bs cs is = ap (marked (judged_by_some ss v) ps) is ∙ marked_twice (judged_by s v) (judged_by_some ss v) ps bs

-- the marks are kept if the value fits
pub kept_marks : (s : Judge) (v : Data) (ps : List Part) (x : Verdict) (old tried new : List Bool) → x ≡ s.fits v
    → tried ≡ marked (s.judges v) ps old → new ≡ (if is_yes x then tried else old) → new ≡ marked (judged_by s v) ps old
kept_marks s v ps Yes old tried new is judged kept = kept ∙ (judged ∙ fitting_marks s v ps old (sym is))
kept_marks s v ps No old tried new is judged kept = kept ∙ failing_marks s v ps old (ap is_yes (sym is))
kept_marks s v ps Open old tried new is judged kept = kept ∙ failing_marks s v ps old (ap is_yes (sym is))

pub no_text_says : (f : Text → Judge) (x : Option Data) (v : Data) → option_and_then as_str x ≡ None → reference_says f x v ≡ Yes
no_text_says f None v is = refl
no_text_says f (Some d) v is = ap (λ t. where_some t (λ name. (f name).fits v)) is

pub no_text_marks : (f : Text → Judge) (x : Option Data) (v : Data) (ps : List Part) (bs : List Bool) → option_and_then as_str x ≡ None
    → bs ≡ marked (judged_by_reference f x v) ps bs
no_text_marks f x v ps bs is =
    sym (marked_same _ _ (λ p. ap (λ t. elim t [ None ↦ false | Some name ↦ judged_by (f name) v p ]) is) ps bs ∙ marked_none ps bs)

text_says : (f : Text → Judge) (x : Option Data) (v : Data) (name : Text) → option_and_then as_str x ≡ Some name
    → reference_says f x v ≡ (f name).fits v
text_says f None v name is = cc
text_says f (Some d) v name is = ap (λ t. where_some t (λ n. (f n).fits v)) is

text_marks : (f : Text → Judge) (x : Option Data) (v : Data) (name : Text) (ps : List Part) (bs : List Bool)
    → option_and_then as_str x ≡ Some name → marked (judged_by_reference f x v) ps bs ≡ marked (judged_by (f name) v) ps bs
text_marks f x v name ps bs is =
    marked_same _ _ (λ p. ap (λ t. elim t [ None ↦ false | Some n ↦ judged_by (f n) v p ]) is) ps bs

-- a reference that is not followed
pub unanswered_says : (f : Text → Judge) (x : Option Data) (v : Data) (name : Text) → option_and_then as_str x ≡ Some name
    → f name ≡ unanswered → reference_says f x v ≡ Open
unanswered_says f x v name is lost = text_says f x v name is ∙ ap (λ s. s.fits v) lost

pub unanswered_marks : (f : Text → Judge) (x : Option Data) (v : Data) (name : Text) (ps : List Part) (bs : List Bool)
    → option_and_then as_str x ≡ Some name → f name ≡ unanswered → bs ≡ marked (judged_by_reference f x v) ps bs
unanswered_marks f x v name ps bs is lost =
    sym (text_marks f x v name ps bs is ∙ (ap (λ s. marked (judged_by s v) ps bs) lost ∙ marked_none ps bs))

pub answered_says : (f : Text → Judge) (x : Option Data) (v : Data) (name : Text) (s : Judge) → option_and_then as_str x ≡ Some name
    → f name ≡ s → s.fits v ≡ reference_says f x v
answered_says f x v name s is found = sym (text_says f x v name is ∙ ap (λ s. s.fits v) found)

pub answered_marks : (f : Text → Judge) (x : Option Data) (v : Data) (name : Text) (s : Judge) (ps : List Part) (bs : List Bool)
    → option_and_then as_str x ≡ Some name → f name ≡ s → marked (judged_by s v) ps bs ≡ marked (judged_by_reference f x v) ps bs
answered_marks f x v name s ps bs is found =
    sym (text_marks f x v name ps bs is ∙ ap (λ s. marked (judged_by s v) ps bs) found)

pub follow_zero : (dialect : Dialect) (document : Data) (patterns : Patterns) (n : ℕ) (name : Text) → n ≡ 0
    → follow dialect document patterns n name ≡ unanswered
unfolding follow
follow_zero dialect document patterns n name is = rw is

pub follow_lost : (dialect : Dialect) (document : Data) (patterns : Patterns) (n : ℕ) (name : Text) → None ≡ resolved document name
    → follow dialect document patterns n name ≡ unanswered
unfolding follow
follow_lost dialect document patterns zero name lost = refl
follow_lost dialect document patterns (suc n) name lost =
    ap (λ o. elim o [ None ↦ unanswered | Some s ↦ judge (context dialect document patterns n) s ]) (sym lost)

pub follow_found : (dialect : Dialect) (document : Data) (patterns : Patterns) (n : ℕ) (name : Text) (s : Data) → 0 < n
    → Some s ≡ resolved document name
    → follow dialect document patterns n name ≡ judge (context dialect document patterns (n - 1)) s
unfolding follow
follow_found dialect document patterns zero name s some found = absurd (omega arith)
follow_found dialect document patterns (suc n) name s some found =
    ap (λ o. elim o [ None ↦ unanswered | Some s ↦ judge (context dialect document patterns n) s ]) (sym found)
    ∙ ap (λ m. judge (context dialect document patterns m) s) (less n)
  where
    less : (n : ℕ) → n ≡ suc n - 1
    less n = omega arith
