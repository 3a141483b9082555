-- What describes a row where there are more answers to what its template asks.
use Rattle.std.proofs.Common.{inl, inr, ◌≤◌, ℕ, zero, suc, List, [], ◌∷◌, Option, Some, None, Bool, true, false, ◌≡◌, ◌⊎◌, arith}
use Rattle.schemars_meaning.proofs.Words.{Data, Text, Field, Entry, Row, entry_at, opened_inside, Basis, Template, Ask, part, members_of, content, asks_of, AreAnswered, Fills, IsOwnDocument, IsAnswered, IsWritten, must_be_in_place, IsContent, Describes}
use Rattle.schemars_types.specs.declared.contract.Contract.{Contract}
use Rattle.schemars_meaning.proofs.Spread.{AreWritten, IsFieldsDocument}

-- ---- other answers

pub answers_map : (A B : Ask → Data → Type 0) → ((a : Ask) (t : Data) → A a t → B a t) → (asks : List Ask) (ts : List Data)
    → AreAnswered A asks ts → AreAnswered B asks ts
answers_map A B all [] ts h = h
answers_map A B all (a ∷ asks) [] h = h
answers_map A B all (a ∷ asks) (t ∷ ts) h = (all a t h.0, answers_map A B all asks ts h.1)

pub fills_map : (A B : Ask → Data → Type 0) → ((a : Ask) (t : Data) → A a t → B a t) → (t : Template) (s : Data) → Fills A t s → Fills B t s
fills_map A B all t s h = record { parts = h.parts; answered = answers_map A B all (asks_of t) h.parts h.answered; is = h.is }

pub own_map : (A B : Ask → Data → Type 0) (basis : Basis) → ((a : Ask) (t : Data) → A a t → B a t) → (o : Option Entry) (s : Data)
    → IsOwnDocument A basis o s → IsOwnDocument B basis o s
own_map A B basis all None s is = is
own_map A B basis all (Some e) s is = fills_map A B all _ s is

content_map : (b : Bool) (O P W V : Data → Type 0) → ((d : Data) → O d → P d) → ((d : Data) → W d → V d) → (s : Data)
    → IsContent b O W s → IsContent b P V s
content_map b O P W V own writes s h = (h.0, own h.0 h.1, go h.2)
  where
    go : ((must_be_in_place b h.0 ≡ true) × (s ≡ opened_inside h.0)) ⊎ ((must_be_in_place b h.0 ≡ false) × W s)
        → ((must_be_in_place b h.0 ≡ true) × (s ≡ opened_inside h.0)) ⊎ ((must_be_in_place b h.0 ≡ false) × V s)
    go (inl i) = inl i
    go (inr i) = inr (i.0, writes s i.1)

-- what is answered by these documents, and by what is written for rows, is so by more of them
pub answered_map : (rows : List Row) (I J : ℕ → Bool → Type 0) (W V O P : ℕ → Data → Type 0)
    → ((j : ℕ) (b : Bool) → I j b → J j b) → ((j : ℕ) (t : Data) → W j t → V j t) → ((j : ℕ) (t : Data) → O j t → P j t)
    → (a : Ask) (t : Data) → IsAnswered rows I W O a t → IsAnswered rows J V P a t
answered_map rows I J W V O P places writes own (part n) t h = writes n t h
answered_map rows I J W V O P places writes own (members_of n required) t h = (h.0, own _ h.0 h.1, h.2)
answered_map rows I J W V O P places writes own (content n) t h =
    (h.0, places n h.0 h.1, content_map h.0 (O n) (P n) (W n) (V n) (own n) (writes n) t h.2)

pub written_map : (Q R : ℕ → Text → Type 0) (D E : ℕ → Data → Type 0) → ((j : ℕ) (r : Text) → Q j r → R j r)
    → ((j : ℕ) (t : Data) → D j t → E j t)
    → (j : ℕ) (t : Data) → IsWritten Q D j t → IsWritten R E j t
written_map Q R D E refer own j t (inl h) = inl (h.0, refer j h.0 h.1, h.2)
written_map Q R D E refer own j t (inr h) = inr (own j t h)

-- ---- the schemas of fields

written_each : (W V : ℕ → Data → Type 0) → ((j : ℕ) (t : Data) → W j t → V j t) → (xs : List Field) (ts : List Data)
    → AreWritten W xs ts → AreWritten V xs ts
written_each W V all [] ts h = h
written_each W V all (x ∷ xs) [] h = h
written_each W V all (x ∷ xs) (t ∷ ts) h = (all x.ty t h.0, written_each W V all xs ts h.1)

pub fields_map : (W V : ℕ → Data → Type 0) → ((j : ℕ) (t : Data) → W j t → V j t) → (contract : Contract) (list : List Field)
    (closed : Bool) (s : Data) → IsFieldsDocument W contract list closed s → IsFieldsDocument V contract list closed s
fields_map W V all contract list closed s h = record {
  parts = h.parts;
  written = written_each W V all list h.parts h.written;
  notes = h.notes;
  are_notes = h.are_notes;
  is = h.is;
}

-- ---- more depth

-- what describes a row still does when more depth and more references are allowed
pub describes-wider : (basis : Basis) (Q R : ℕ → Text → Type 0) → ((j : ℕ) (r : Text) → Q j r → R j r)
    → (d e : ℕ) → d ≤ e → (n : ℕ) (s : Data) → Describes basis Q d n s → Describes basis R e n s
unfolding Describes
describes-wider basis Q R refer zero e less n s h = absurd h
describes-wider basis Q R refer (suc d) zero less n s h = absurd (omega arith)
describes-wider basis Q R refer (suc d) (suc e) less n s h =
    let own : (j : ℕ) (t : Data) → Describes basis Q d j t → Describes basis R e j t =
    λ j t. describes-wider basis Q R refer d e (omega arith) j t in
    own_map (IsAnswered basis.rows (λ m b. Unit {0}) (IsWritten Q (Describes basis Q d)) (Describes basis Q d))
    (IsAnswered basis.rows (λ m b. Unit {0}) (IsWritten R (Describes basis R e)) (Describes basis R e)) basis
    (answered_map basis.rows (λ m b. Unit {0}) (λ m b. Unit {0}) (IsWritten Q (Describes basis Q d)) (IsWritten R (Describes basis R e))
    (Describes basis Q d) (Describes basis R e) (λ j b is. is) (written_map Q R _ _ refer own) own) (entry_at basis.rows n) s h
