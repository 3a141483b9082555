-- What holds of every answer in a template, and of every document of a row.
use Rattle.std.proofs.Common.{◌≡◌, ◌⊎◌, inl, inr, ℕ, zero, suc, List, [], ◌∷◌, Option, Some, None, refl, sym, subst}
use Rattle.schemars_meaning.proofs.Words.{if◌then◌else◌, AllByRecursion, Data, boolean, Text, opened_inside, flattened_part, Entry, Row, entry_at, reference, Basis, Template, Ask, part, members_of, content, finished, asked, list, members, nullable, noted, Templates, no_templates, template, first, left, left_in, filled, entry_template, AreAnswered, IsOwnDocument, IsAnswered, IsWritten, Bool, true, false, must_be_in_place, with_keywords, tagged, behind, IsContent, Describes}

module _ (P : Data → Type 0) where
  pub either : (b : Bool) (d e : Data) → P d → P e → P (if b then d else e)
  either true d e h g = h
  either false d e h g = g

  -- where it holds of whatever is answered
  pub answers_all : (Answers : Ask → Data → Type 0) → ((a : Ask) (t : Data) → Answers a t → P t) → (asks : List Ask) (ts : List Data)
      → AreAnswered Answers asks ts → AllByRecursion P ts
  answers_all Answers all [] ts h = rw h tt
  answers_all Answers all (a ∷ asks) [] h = absurd h
  answers_all Answers all (a ∷ asks) (t ∷ ts) h = (all a t h.0, answers_all Answers all asks ts h.1)

  pub first_all : P (boolean true) → (ts : List Data) → AllByRecursion P ts → P (first ts)
  first_all none [] h = none
  first_all none (t ∷ ts) h = h.0

  behind_all : (ts : List Data) → AllByRecursion P ts → AllByRecursion P (behind ts)
  behind_all [] h = h
  behind_all (t ∷ ts) h = h.1

  -- it holds of the answers that are left
  mutual
    pub left_all : (t : Template) (ts : List Data) → AllByRecursion P ts → AllByRecursion P (left t ts)
    left_all (finished d) ts h = h
    left_all (asked a) ts h = behind_all ts h
    left_all (list es) ts h = left_in_all es ts h
    left_all (members ks es) ts h = left_in_all es ts h
    left_all (nullable t) ts h = left_all t ts h
    left_all (noted notes t) ts h = left_all t ts h
    left_all (with_keywords t u) ts h = left_all u (left t ts) (left_all t ts h)
    left_all (tagged tag name closed t) ts h = left_all t ts h

    left_in_all : (es : Templates) (ts : List Data) → AllByRecursion P ts → AllByRecursion P (left_in es ts)
    left_in_all no_templates ts h = h
    left_in_all (template t es) ts h = left_in_all es (left t ts) (left_all t ts h)

-- of a property that stays as documents are flattened and opened inside
module _ (P : Data → Type 0) (part_stays : (b : Bool) (s : Data) → P s → P (flattened_part b s))
    (inside_stays : (s : Data) → P s → P (opened_inside s)) where
  -- an answer has it, where documents of rows have, and what is written for them
  pub answer_holds : (rows : List Row) (InPlace : ℕ → Bool → Type 0) (Written Own : ℕ → Data → Type 0)
      → ((j : ℕ) (t : Data) → Written j t → P t) → ((j : ℕ) (t : Data) → Own j t → P t)
      → (a : Ask) (t : Data) → IsAnswered rows InPlace Written Own a t → P t
  answer_holds rows InPlace Written Own writes own (part n) t h = writes n t h
  answer_holds rows InPlace Written Own writes own (members_of n required) t h =
      subst P (sym h.2) (part_stays _ h.0 (own _ h.0 h.1))
  answer_holds rows InPlace Written Own writes own (content n) t h = go h.2
    where
      go : IsContent h.0 (Own n) (Written n) t → P t
      go g = by g.2
        where
          by : ((must_be_in_place h.0 g.0 ≡ true) × (t ≡ opened_inside g.0))
              ⊎ ((must_be_in_place h.0 g.0 ≡ false) × Written n t) → P t
          by (inl i) = subst P (sym i.1) (inside_stays g.0 (own n g.0 g.1))
          by (inr i) = writes n t i.1

  -- whatever describes a row has it, where references to rows have, and what is filled with answers that have it
  module _ (basis : Basis) (Refers : ℕ → Text → Type 0) (refer : (j : ℕ) (r : Text) → Refers j r → P (reference r))
      (fill : (n : ℕ) (e : Entry) → entry_at basis.rows n ≡ Some e → (ts : List Data) → AllByRecursion P ts
      → P (filled (entry_template basis e) ts)) where
    written_by : (Own : ℕ → Data → Type 0) → ((j : ℕ) (t : Data) → Own j t → P t) → (j : ℕ) (t : Data) → IsWritten Refers Own j t → P t
    written_by Own own j t (inl h) = subst P (sym h.2) (refer j h.0 h.1)
    written_by Own own j t (inr h) = own j t h

    own_holds : (Answers : Ask → Data → Type 0) → ((a : Ask) (t : Data) → Answers a t → P t) → (n : ℕ) (o : Option Entry)
        → entry_at basis.rows n ≡ o → (s : Data) → IsOwnDocument Answers basis o s → P s
    own_holds Answers all n None at s is = absurd is
    own_holds Answers all n (Some e) at s is =
        subst P (sym is.is) (fill n e at is.parts (answers_all P Answers all _ is.parts is.answered))

    pub described_holds : (d n : ℕ) (s : Data) → Describes basis Refers d n s → P s
    unfolding Describes
    described_holds zero n s h = absurd h
    described_holds (suc d) n s h =
        let Own = Describes basis Refers d in
        own_holds (IsAnswered basis.rows (λ m b. Unit {0}) (IsWritten Refers Own) Own)
        (answer_holds basis.rows (λ m b. Unit {0}) (IsWritten Refers Own) Own (written_by Own (described_holds d)) (described_holds d))
        n (entry_at basis.rows n) refl s h

    pub written_holds : (d n : ℕ) (t : Data) → IsWritten Refers (Describes basis Refers d) n t → P t
    written_holds d n t h = written_by _ (described_holds d) n t h
