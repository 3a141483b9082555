-- What is known answers for more references, or for fewer.
use Rattle.std.proofs.Common.{◌≡◌, ◌≤◌, ◌<◌, ◌-◌, ℕ, suc, List, [], ◌∷◌, length, arith, Option, Some, None, Bool, true, false, refl, sym, ap, ◌∙◌, option_map, subst}
use Rattle.std.specs.Prelude.{◌&&◌, ◌||◌, ◌==◌, not, if◌then◌else◌, is_some}
use Rattle.std.proofs.lemmas.Bool.Decides.{nat_tests}
use Rattle.schemars_schema.specs.Judges.{Part}
use Rattle.schemars_schema.specs.Evaluated.{judged_by}
use Rattle.schemars_validate.proofs.Words.{Data, Text, Verdict, Yes, No, Open, is_yes, meant, Dialect, Patterns, follow, context, judge, resolved, marked, unmarked, parts_of}
use Rattle.schemars_validate.specs.Judged.{united}
use Rattle.schemars_validate.specs.declared.memo.Known.{Known}
use Rattle.schemars_validate.specs.declared.memo.Memo.{Memo}
use Rattle.schemars_assertions.specs.declared.verdict.Verdict.{Verdict as Told}
use Rattle.schemars_validate.specs.Memos.{Following, IsFound, IsRight, IsInReach, IsKnown, AnswersFor, Recalls, Tells, marked_by}
use Rattle.schemars_validate.proofs.KeptVerdicts.{Kept}
use Rattle.schemars_validate.proofs.FirmJudges.{Firm, Settled, kept-settled}
use Rattle.schemars_validate.proofs.MoreReferences.{firm-follow, at-most}
use Rattle.schemars_validate.proofs.Marking.{no_marks, mapped_some}
use Rattle.schemars_validate.proofs.MarkedAlike.{marked_same}
use Rattle.schemars_validate.proofs.OneSchema.{failing_marks, follow_found}

-- marks from none, united with others
united_marks : (f : Part → Bool) (ps : List Part) (bs : List Bool) → united (marked f ps (unmarked ps)) bs ≡ marked f ps bs
united_marks f [] bs = refl
united_marks f (p ∷ ps) [] = refl
united_marks f (p ∷ ps) (b ∷ bs) = λ i. (b || f p) ∷ united_marks f ps bs i

pub none_there : (bs : List Bool) → (length bs == 0) ≡ true → bs ≡ []
none_there [] is = refl
none_there (b ∷ bs) is = let some : (suc (length bs) == 0) ≡ false = grind (arith, nat_tests) in cc

-- no marks are there
pub unasked : (bs old : List Bool) (none : Bool) → none ≡ (length bs == 0) → bs ≡ old → not none ≡ false → old ≡ []
unasked [] old none is same off = sym same
unasked (b ∷ bs) old none is same off =
    let some : (suc (length bs) == 0) ≡ false = grind (arith, nat_tests) in
    let no : none ≡ false = is ∙ some in
    let on : not none ≡ true = ap not no in
    cc

open_before : (a x : Verdict) → Kept a x → x ≡ Open → a ≡ Open
open_before Open x h is = refl
open_before Yes x h is = cc
open_before No x h is = cc

not_yes : (y : Verdict) (o : Option (List Bool)) (old : List Bool) → is_yes y ≡ false → marked_by y o old ≡ old
not_yes y None old is = refl
not_yes y (Some bs) old is = ap (λ b. if b then united bs old else old) is

settled : (w y : Verdict) → w ≡ y → Settled y → Settled w
settled Yes y is h = tt
settled No y is h = tt
settled Open Yes is h = cc
settled Open No is h = cc
settled Open Open is h = h

module _ (dialect : Dialect) (document : Data) (patterns : Patterns)
    (read_contains : dialect.reads_prefix_items ≡ true → dialect.reads_const ≡ true) where
  grown : (n m : ℕ) → n ≤ m → (name : Text)
      → Firm (follow dialect document patterns n name) (follow dialect document patterns m name)
  grown n m few name = firm-follow dialect document patterns read_contains n m (at-most n m few) name

  says_more : (y : Verdict) (n left : ℕ) (name : Text) (v : Data) → (follow dialect document patterns n name).fits v ≡ y → IsInReach y n left
      → y ≡ (follow dialect document patterns left name).fits v
  says_more Yes n left name v is few =
      sym (kept-settled _ _ (grown n left few name v).0 (settled _ Yes is tt) ∙ is)
  says_more No n left name v is few =
      sym (kept-settled _ _ (grown n left few name v).0 (settled _ No is tt) ∙ is)
  says_more Open n left name v is few = sym (open_before _ _ (grown left n few name v).0 is)

  -- it says what is known
  pub recalled : (k : Known) (name : Text) (left : ℕ) (asked : Bool) (v : Data) → IsRight (follow dialect document patterns) v k
      → AnswersFor k name left asked → meant k.says ≡ (follow dialect document patterns left name).fits v
  recalled k name left asked v right answers =
      says_more (meant k.says) k.references left name v
      (sym (ap (λ t. (follow dialect document patterns k.references t).fits v) answers.name) ∙ right.says) answers.reach

  judged_more : (n left : ℕ) (name : Text) (v : Data) → (follow dialect document patterns n name).fits v ≡ Yes → n ≤ left → (p : Part)
      → judged_by (follow dialect document patterns n name) v p ≡ judged_by (follow dialect document patterns left name) v p
  judged_more n left name v is few p =
      let firm = grown n left few name v in
      let fits = kept-settled _ _ firm.0 (settled _ Yes is tt) in
      let same = firm.1 (settled _ Yes is tt) p in
      sym (λ i. is_yes (fits i) && same i)

  marks_more : (y : Verdict) (n left : ℕ) (name : Text) (v : Data) (o : Option (List Bool)) (asked : Bool) (old : List Bool)
      → IsFound (follow dialect document patterns) v name n y o → IsInReach y n left
      → (asked ≡ true → y ≡ Yes → is_some o ≡ true) → (asked ≡ false → old ≡ [])
      → marked_by y o old ≡ marked (judged_by (follow dialect document patterns left name) v) (parts_of v) old
  marks_more Yes n left name v (Some bs) asked old found few has unasked =
      ap (λ cs. united cs old) found.judged
      ∙ (united_marks (judged_by (follow dialect document patterns n name) v) (parts_of v) old
      ∙ marked_same _ _ (judged_more n left name v found.says few) (parts_of v) old)
  marks_more Yes n left name v None true old found few has unasked = let no = has refl refl in cc
  marks_more Yes n left name v None false old found few has unasked =
      unasked refl ∙ sym (ap (marked (judged_by (follow dialect document patterns left name) v) (parts_of v)) (unasked refl)
      ∙ no_marks (judged_by (follow dialect document patterns left name) v) (parts_of v))
  marks_more No n left name v o asked old found few has unasked =
      not_yes No o old refl
      ∙ failing_marks (follow dialect document patterns left name) v (parts_of v) old
      (ap is_yes (sym (says_more No n left name v found.says few)))
  marks_more Open n left name v o asked old found few has unasked =
      not_yes Open o old refl
      ∙ failing_marks (follow dialect document patterns left name) v (parts_of v) old
      (ap is_yes (sym (says_more Open n left name v found.says few)))

  -- and what is marked is what it judges
  pub recalled_marks : (k : Known) (name : Text) (left : ℕ) (asked : Bool) (v : Data) (old : List Bool)
      → IsRight (follow dialect document patterns) v k → AnswersFor k name left asked → (asked ≡ false → old ≡ [])
      → marked_by (meant k.says) (option_map (λ b. b.items) k.judged) old
      ≡ marked (judged_by (follow dialect document patterns left name) v) (parts_of v) old
  recalled_marks k name left asked v old right answers unasked =
      marks_more (meant k.says) k.references left name v (option_map (λ b. b.items) k.judged) asked old
      (subst (λ t. IsFound (follow dialect document patterns) v t k.references (meant k.says) (option_map (λ b. b.items) k.judged)) answers.name right)
      answers.reach (λ on yes. sym (mapped_some (λ b. b.items) k.judged) ∙ answers.parts on yes) unasked

-- ---- what is told

pub recalls_some : (dialect : Dialect) (m : Memo) (name : Text) (left : ℕ) (answer : Option Told) (says : Told) (old new : List Bool)
    → answer ≡ Some says → Recalls dialect m name left (option_map meant answer) old new
    → (document : Data) (patterns : Patterns) (v : Data) → IsKnown (follow dialect document patterns) v m
    → (meant says ≡ (follow dialect document patterns left name).fits v)
    × (new ≡ marked (judged_by (follow dialect document patterns left name) v) (parts_of v) old)
recalls_some dialect m name left answer says old new is recalls document patterns v known =
    subst (λ o. Tells (follow dialect document patterns left name) v (option_map meant o) old new) is (recalls document patterns v known)

pub recalls_none : (dialect : Dialect) (m : Memo) (name : Text) (left : ℕ) (answer : Option Told) (old new : List Bool)
    → answer ≡ None → Recalls dialect m name left (option_map meant answer) old new
    → (document : Data) (patterns : Patterns) (v : Data) → IsKnown (follow dialect document patterns) v m → new ≡ old
recalls_none dialect m name left answer old new is recalls document patterns v known =
    subst (λ o. Tells (follow dialect document patterns left name) v (option_map meant o) old new) is (recalls document patterns v known)

-- ---- what was found

pub found_alone : (dialect : Dialect) (document : Data) (patterns : Patterns) (left : ℕ) (name : Text) (v s : Data) (y : Verdict) → 0 < left
    → Some s ≡ resolved document name → y ≡ (judge (context dialect document patterns (left - 1)) s).fits v
    → IsFound (follow dialect document patterns) v name left y None
found_alone dialect document patterns left name v s y some found said = record {
  says = ap (λ j. j.fits v) (follow_found dialect document patterns left name s some found) ∙ sym said;
  judged = tt;
}

pub found_marked : (dialect : Dialect) (document : Data) (patterns : Patterns) (left : ℕ) (name : Text) (v s : Data) (y : Verdict)
    (start tried : List Bool) → 0 < left
    → Some s ≡ resolved document name → y ≡ (judge (context dialect document patterns (left - 1)) s).fits v
    → start ≡ unmarked (parts_of v)
    → tried ≡ marked (judged_by (judge (context dialect document patterns (left - 1)) s) v) (parts_of v) start
    → IsFound (follow dialect document patterns) v name left y (Some tried)
found_marked dialect document patterns left name v s y start tried some found said none judged =
    let is = follow_found dialect document patterns left name s some found in record {
      says = ap (λ j. j.fits v) is ∙ sym said;
      judged = judged ∙ (ap (marked (judged_by (judge (context dialect document patterns (left - 1)) s) v) (parts_of v)) none
          ∙ sym (ap (λ j. marked (judged_by j v) (parts_of v) (unmarked (parts_of v))) is));
    }

-- the marks of what was found, united with those that were there
pub united_found : (to : Following) (v : Data) (name : Text) (left : ℕ) (y : Verdict) (tried old new : List Bool)
    → IsFound to v name left y (Some tried) → new ≡ united tried old → new ≡ marked (judged_by (to left name) v) (parts_of v) old
united_found to v name left y tried old new found is =
    is ∙ (ap (λ ms. united ms old) found.judged ∙ united_marks (judged_by (to left name) v) (parts_of v) old)

-- no marks are there, so none are set
pub none_found : (to : Following) (v : Data) (name : Text) (left : ℕ) (old : List Bool) → old ≡ []
    → old ≡ marked (judged_by (to left name) v) (parts_of v) old
none_found to v name left old is =
    is ∙ sym (ap (marked (judged_by (to left name) v) (parts_of v)) is ∙ no_marks (judged_by (to left name) v) (parts_of v))
