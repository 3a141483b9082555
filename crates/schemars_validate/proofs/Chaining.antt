-- A reference that stands alone says what it leads to, and so does a chain of them.
use Rattle.std.proofs.Common.{◌≡◌, ◌<◌, ◌≤◌, ◌-◌, ◌∙◌, ℕ, zero, suc, List, Option, Some, None, Bool, true, false, refl, sym, ap, subst, arith, option_map, IfSome, true≢false}
use Rattle.std.proofs.Math.Bool.{or-false}
use Rattle.schemars_validate.proofs.Words.{◌&&◌, ◌||◌, not, codes, bytes_eq, if◌then◌else◌, is_some, option_and_then, Data, string, object, Members, no_members, member, get_member, get_member-member, as_str, Text, resolved, Verdict, Yes, is_yes, Dialect, Patterns, Context, Judge, Part, key, position, judged_by, judged_by_reference, reference_says, reference_alone, is_reference, all_keywords, context, follow, judge, unanswered, both-yes, read_data, marked, unmarked, parts_of, meant}
use Rattle.schemars_text.specs.OrderedText.{is_listed}
use Rattle.schemars_schema.proofs.Objects.{IsKeyword, judge-agree}
use Rattle.schemars_schema.proofs.Silent.{items_none, const_none, unevaluated_none}
use Rattle.std.proofs.lemmas.Bool.{and_parts, not-true}
use Rattle.std.proofs.lemmas.Slice.Eq.{bytes_eq-Decides}
use Rattle.schemars_validate.specs.Chains.{Alike, EndsAt, IsLone, LeadsOn, has_no_other, other_keywords}
use Rattle.schemars_validate.specs.Memos.{IsFound}
use Rattle.schemars_validate.proofs.MarkedAlike.{marked_same}
use Rattle.schemars_validate.proofs.OneSchema.{answered_says}
use Rattle.schemars_validate.proofs.PartsLeft.{object_alone}

-- ---- two that say the same

twice : (b c : Bool) → b && (b && c) ≡ b && c
twice true c = refl
twice false c = refl

alike_by : (s t : Judge) → ((v : Data) → s.fits v ≡ t.fits v) → ((v : Data) (p : Part) → s.judges v p ≡ judged_by t v p) → Alike s t
alike_by s t fit part = record {
  says = fit;
  judged = λ v p.
      let both : is_yes (s.fits v) && s.judges v p ≡ is_yes (t.fits v) && judged_by t v p = λ i. is_yes (fit v i) && part v p i in
      both ∙ twice (is_yes (t.fits v)) (t.judges v p);
}

alike_same : (s : Judge) → Alike s s
alike_same s = record { says = λ v. refl; judged = λ v p. refl }

alike_then : (s t u : Judge) → Alike s t → Alike t u → Alike s u
alike_then s t u a b = record { says = λ v. a.says v ∙ b.says v; judged = λ v p. a.judged v p ∙ b.judged v p }

-- ---- a reference whose siblings are not read

alone : (c : Context) (x : Option Data) (name : Text) → option_and_then as_str x ≡ Some name
    → Alike (reference_alone c (λ k. x)) (c.follow name)
alone c x name is = alike_by _ (c.follow name)
    (λ v. sym (answered_says c.follow x v name (c.follow name) is refl))
    (λ v p. ap (λ t. elim t [ None ↦ false | Some n ↦ judged_by (c.follow n) v p ]) is)

without_siblings : (dialect : Dialect) (ms : Members) (name : Text) → dialect.judges_siblings ≡ false
    → option_and_then as_str (get_member (codes "$ref") ms) ≡ Some name → IsLone dialect (object ms) name
without_siblings dialect ms name off is = λ patterns to.
    let c : Context = record { dialect = dialect; patterns = patterns; follow = to } in
    let there : is_reference (get_member (codes "$ref") ms) ≡ true = ap is_some is in
    let reads : not dialect.judges_siblings && is_reference (get_member (codes "$ref") ms) ≡ true = λ i. not (off i) && there i in
    subst (λ j. Alike j (to name)) (sym (object_alone c ms reads)) (alone c (get_member (codes "$ref") ms) name is)

-- ---- a reference beside keywords that are not read

other_none : (k : Text) (ms : Members) → has_no_other ms ≡ true → is_listed k other_keywords ≡ true → get_member k ms ≡ None
other_none k no_members all is = refl
other_none k (member l d ms) all is = get_member-member k l d ms ∙ go (bytes_eq k l) refl (other_none k ms parts.1 is)
  where
    parts : (not (is_listed l other_keywords) ≡ true) × (has_no_other ms ≡ true)
    parts = and_parts (not (is_listed l other_keywords)) (has_no_other ms) all

    go : (b : Bool) → bytes_eq k l ≡ b → get_member k ms ≡ None → (if b then Some d else get_member k ms) ≡ None
    go true same later =
        absurd (true≢false (sym is ∙ (ap (λ x. is_listed x other_keywords) ((bytes_eq-Decides k l).0 same) ∙ not-true (is_listed l other_keywords) parts.0)))
    go false same later = later

abbrev lone : Data → Members
lone d = member (codes "$ref") d no_members

same_keywords : (ms : Members) (d : Data) → get_member (codes "$ref") ms ≡ Some d → has_no_other ms ≡ true
    → (k : Text) → IsKeyword k → get_member k ms ≡ get_member k (lone d)
same_keywords ms d is all k listed = go (bytes_eq k (codes "$ref")) refl listed
  where
    go : (b : Bool) → bytes_eq k (codes "$ref") ≡ b → b || is_listed k other_keywords ≡ true → get_member k ms ≡ get_member k (lone d)
    go true same listed =
        ap (λ x. get_member x ms) ((bytes_eq-Decides k (codes "$ref")).0 same)
        ∙ (is ∙ sym (get_member-member k (codes "$ref") d no_members ∙ ap (λ b. if b then Some d else get_member k no_members) same))
    go false same listed =
        other_none k ms all listed
        ∙ sym (get_member-member k (codes "$ref") d no_members ∙ ap (λ b. if b then Some d else get_member k no_members) same)

switched : Bool → Bool → Bool → Bool → Bool → Dialect
switched p q r t u = record { judges_siblings = p; reads_prefix_items = q; reads_nullable = r; reads_const = t; reads_unevaluated = u }

module _ (patterns : Patterns) (f : Text → Judge) where
  at : Dialect → Context
  at d = record { dialect = d; patterns = patterns; follow = f }

  lone_says : (p q r t u : Bool) (name : Text) (v : Data) → (judge (at (switched p q r t u)) (object (lone (string name)))).fits v ≡ (f name).fits v
  unfolding read_data all_keywords at switched
  lone_says false q r t u name v = refl
  lone_says true q r t u name v = rw (items_none q v, const_none t v, unevaluated_none u _ v) (both-yes ((f name).fits v))

  lone_judges : (p q r t u : Bool) (name : Text) (v : Data) (part : Part)
      → (judge (at (switched p q r t u)) (object (lone (string name)))).judges v part ≡ judged_by (f name) v part
  unfolding read_data all_keywords at switched
  lone_judges false q r t u name v part = refl
  lone_judges true q r t u name v (key k) = go q t u (judged_by (f name) v (key k))
    where
      go : (q t u b : Bool) → (b || (u && false)) ≡ b
      go q t true true = refl
      go q t true false = refl
      go q t false true = refl
      go q t false false = refl
  lone_judges true true r t true name v (position n) = rw (or-false (judged_by (f name) v (position n))) refl
  lone_judges true true r t false name v (position n) = rw (or-false (judged_by (f name) v (position n))) refl
  lone_judges true false r t true name v (position n) = rw (or-false (judged_by (f name) v (position n))) refl
  lone_judges true false r t false name v (position n) = rw (or-false (judged_by (f name) v (position n))) refl

  lone_alike : (d : Dialect) (name : Text) → Alike (judge (record { dialect = d; patterns = patterns; follow = f }) (object (lone (string name)))) (f name)
  unfolding at switched
  lone_alike d name = alike_by _ (f name)
      (λ v. lone_says d.judges_siblings d.reads_prefix_items d.reads_nullable d.reads_const d.reads_unevaluated name v)
      (λ v p. lone_judges d.judges_siblings d.reads_prefix_items d.reads_nullable d.reads_const d.reads_unevaluated name v p)

text_there : (x : Option Data) (name : Text) → option_and_then as_str x ≡ Some name → x ≡ Some (string name)
text_there (Some (string s)) name is = ap (λ o. option_map string o) is
text_there (Some _) name is = cc
text_there None name is = cc

beside_silent : (dialect : Dialect) (ms : Members) (name : Text) → has_no_other ms ≡ true
    → option_and_then as_str (get_member (codes "$ref") ms) ≡ Some name → IsLone dialect (object ms) name
beside_silent dialect ms name all is = λ patterns to.
    let c : Context = record { dialect = dialect; patterns = patterns; follow = to } in
    let there = text_there (get_member (codes "$ref") ms) name is in
    subst (λ j. Alike j (to name)) (sym (judge-agree c ms (lone (string name)) (same_keywords ms (string name) there all)))
    (lone_alike patterns to dialect name)

-- ---- one after the other

pub leads_on : (dialect : Dialect) (document : Data) (name next : Text) (s : Data) → Some s ≡ resolved document name → IsLone dialect s next
    → LeadsOn dialect document name next
unfolding follow
leads_on dialect document name next s found is = λ patterns n.
    subst (λ o. Alike (elim o [ None ↦ unanswered | Some s ↦ judge (context dialect document patterns n) s ]) (follow dialect document patterns n next))
    found (is patterns (follow dialect document patterns n))

pub ends_there : (dialect : Dialect) (document : Data) (name : Text) (left : ℕ) → EndsAt dialect document name left name left
ends_there dialect document name left = record { few = omega arith; alike = λ patterns. alike_same (follow dialect document patterns left name) }

less : (n : ℕ) → n ≡ suc n - 1
less n = omega arith

-- one more at the end, and one more before the first
pub ends_later : (dialect : Dialect) (document : Data) (name : Text) (left : ℕ) (last : Text) (rest : ℕ) (next : Text) → 0 < rest
    → EndsAt dialect document name left last rest → LeadsOn dialect document last next
    → EndsAt dialect document name left next (rest - 1)
ends_later dialect document name left last zero next some ends leads = absurd (omega arith)
ends_later dialect document name left last (suc n) next some ends leads =
    let few = ends.few in record {
      few = omega (arith, few);
      alike = λ patterns. subst (λ m. Alike (follow dialect document patterns left name) (follow dialect document patterns m next)) (less n)
          (alike_then _ _ _ (ends.alike patterns) (leads patterns n));
    }

pub ends_before : (dialect : Dialect) (document : Data) (name : Text) (left : ℕ) (next : Text) (last : Text) (rest : ℕ) → 0 < left
    → LeadsOn dialect document name next → EndsAt dialect document next (left - 1) last rest
    → EndsAt dialect document name left last rest
ends_before dialect document name zero next last rest some leads ends = absurd (omega arith)
ends_before dialect document name (suc n) next last rest some leads ends =
    let few = ends.few in record {
      few = omega (arith, few);
      alike = λ patterns. alike_then _ _ _ (leads patterns n)
          (subst (λ m. Alike (follow dialect document patterns m next) (follow dialect document patterns rest last)) (sym (less n)) (ends.alike patterns));
    }

-- ---- what is found at the end is found of the first

module _ (dialect : Dialect) (document : Data) (patterns : Patterns) (name : Text) (left : ℕ) (last : Text) (rest : ℕ)
    (ends : EndsAt dialect document name left last rest) (v : Data) where
  pub passed_says : (y : Verdict) → y ≡ (follow dialect document patterns rest last).fits v
      → y ≡ (follow dialect document patterns left name).fits v
  passed_says y is = is ∙ sym ((ends.alike patterns).says v)

  pub passed_marks : (old : List Bool)
      → marked (judged_by (follow dialect document patterns rest last) v) (parts_of v) old
      ≡ marked (judged_by (follow dialect document patterns left name) v) (parts_of v) old
  passed_marks old = marked_same _ _ (λ p. sym ((ends.alike patterns).judged v p)) (parts_of v) old

  pub passed_alone : (y : Verdict) → y ≡ (follow dialect document patterns rest last).fits v
      → IsFound (follow dialect document patterns) v name left y None
  passed_alone y is = record { says = sym (passed_says y is); judged = tt }

  pub passed_marked : (y : Verdict) (start tried : List Bool) → y ≡ (follow dialect document patterns rest last).fits v
      → start ≡ unmarked (parts_of v)
      → tried ≡ marked (judged_by (follow dialect document patterns rest last) v) (parts_of v) start
      → IsFound (follow dialect document patterns) v name left y (Some tried)
  passed_marked y start tried is none judged = record {
    says = sym (passed_says y is);
    judged = judged ∙ (ap (marked (judged_by (follow dialect document patterns rest last) v) (parts_of v)) none ∙ passed_marks (unmarked (parts_of v)));
  }

-- ---- what is found in an object

pub object_lone : (dialect : Dialect) (ms : Members) (name : Text) → option_and_then as_str (get_member (codes "$ref") ms) ≡ Some name
    → dialect.judges_siblings && not (has_no_other ms) ≡ false → IsLone dialect (object ms) name
object_lone dialect ms name is read = go dialect.judges_siblings (has_no_other ms) refl refl read
  where
    go : (siblings none : Bool) → dialect.judges_siblings ≡ siblings → has_no_other ms ≡ none → siblings && not none ≡ false
        → IsLone dialect (object ms) name
    go false none off all read = without_siblings dialect ms name off is
    go true true on all read = beside_silent dialect ms name all is
    go true false on all read = absurd (true≢false read)

pub lone_if : {A : Type 0} (f : A → Text) (dialect : Dialect) (ms : Members) (o : Option A)
    → option_map f o ≡ option_and_then as_str (get_member (codes "$ref") ms) → dialect.judges_siblings && not (has_no_other ms) ≡ false
    → IfSome o (λ a. IsLone dialect (object ms) (f a))
lone_if f dialect ms None is read = tt
lone_if f dialect ms (Some a) is read = object_lone dialect ms (f a) (sym is) read

pub leads_if : {A : Type 0} (f : A → Text) (dialect : Dialect) (document : Data) (name : Text) (s : Data) (o : Option A)
    → Some s ≡ resolved document name → IfSome o (λ a. IsLone dialect s (f a)) → IfSome o (λ a. LeadsOn dialect document name (f a))
leads_if f dialect document name s None found is = tt
leads_if f dialect document name s (Some a) found is = leads_on dialect document name (f a) s found is
