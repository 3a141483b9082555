-- A table that a type has joined, what documents made in it mean, and why a type does not join.
use Rattle.std.proofs.Common.{◌≡◌, ◌⊎◌, ◌<◌, inl, inr, ℕ, suc, List, [], ◌∷◌, take, length, Option, Some, None, IsSome, refl, ap, sym, ◌∙◌, subst, arith}
use Rattle.schemars_generate.proofs.Words.{HasOwnDefinitions, Data, Row, HasDistinctIds, IsAccepted, IsChecked, TransformStep, dialect_of, RootHeadline, IsDraftPath, State, Settings, stripped, more_types_own, IsJoined, IsTypeRefusal, with_rows, Transforms, IsTransformed, Entry, entry_at, Refusal, entry_under, TypeRow, IsIn, IsAdded, KeepsTo, RefusesType, Keeps, AllContinue, Continues, Draft, DraftHeadlines, Headline, IsSubschemaFor, Generator, state, IsRegistered, IsSubschemaOfType, IsRootOfType, IsRootInTable, transforms_for, error_of, IsUntransformedCall, MeansTypeIn, MeansType}
use Rattle.schemars_types.specs.declared.error.TypesError.{TypesError}
use Rattle.schemars_types.specs.declared.error.TypesError.TheVariants as fault
use Rattle.schemars_generate.specs.declared.error.GenerateError.{GenerateError}
use Rattle.schemars_generate.specs.declared.error.GenerateError.TheVariants.{OutOfMemory}
use Rattle.schemars_generate.proofs.BuiltIns.{promised}

-- ---- the table

-- a row that is defined stays as it is
row-same : (r s : Row) → IsSome r.entry → Continues r s → s ≡ r
row-same r s some h = by r.entry refl some
  where
    by : (o : Option Entry) → r.entry ≡ o → IsSome o → s ≡ r
    by None at there = cc
    by (Some e) at there = λ i. record { id = h.0 i; name = h.1 i; entry = (h.2 e at ∙ sym at) i }

all-same : (old new : List Row) → ((n : ℕ) → n < length old → IsSome (entry_at old n)) → AllContinue old new
    → take (length old) new ≡ old
all-same [] new defined h = refl
all-same (r ∷ rs) [] defined h = absurd h
all-same (r ∷ rs) (s ∷ ss) defined h =
    let first : s ≡ r = row-same r s (defined 0 (omega arith)) h.0 in
    let rest : take (length rs) ss ≡ rs = all-same rs ss (λ n low. defined (suc n) (omega (arith, low))) h.1 in
    λ i. first i ∷ rest i

-- so a table without faults begins a table that keeps its rows
pub begins : (old new : List Row) → IsChecked old → Keeps old new → take (length old) new ≡ old
begins old new checked kept = all-same old new checked.defined kept.rows

pub registered : (t : TypeRow) (old new : List Row) (n : ℕ) → IsChecked old → HasDistinctIds new → Keeps old new → IsAdded t old new n
    → (IsSome (entry_under t.id old) → new ≡ old) → KeepsTo (IsIn t) old new → IsRegistered t old new n
registered t old new n checked distinct kept added present follows =
    record { begins = begins old new checked kept; distinct = distinct; added = added; present = present; follows = follows }

-- ---- documents of a type that has joined the table

-- a generator whose table was replaced
pub in_table : {O : Type 0} (old joined : Generator O) (rows : List Row) → joined ≡ record old { rows = joined.rows } → rows ≡ joined.rows
    → state joined ≡ with_rows rows (state old)
in_table old joined rows same is = ap state same ∙ ap (λ r. with_rows r (state old)) (sym is)

-- what is promised in each draft holds of a root document
pub root_in_table : {O : Type 0} (Q : TransformStep O) (ts us : Transforms O) (s : State) (n : ℕ) (R : Data → Type 0) (d : Data)
    → ((e : Data) → R e → DraftHeadlines s n e) → IsTransformed Q ts us R d → IsRootInTable Q ts us s n R d
root_in_table Q ts us s n R d all made = record {
  made = made;
  headline = λ draft is. promised Q ts us R (λ x. RootHeadline (dialect_of x) s n) (λ e told x. all e told x) d made draft is;
}

pub subschema_joined : (t : TypeRow) (old new : State) (n : ℕ) (d : Data) → IsJoined t old.rows new.rows n
    → IsSubschemaFor (with_rows new.rows old) new n d → IsSubschemaOfType t old new d
subschema_joined t old new n d joined is = record {
  n = n;
  joined = joined;
  is = is;
}

-- it means the type, if the definitions before were the generator's own
pub subschema_means : (t : TypeRow) (old new : State) (d : Data) → IsChecked old.rows → IsSubschemaOfType t old new d
    → HasOwnDefinitions old → MeansTypeIn t new d
unfolding MeansTypeIn
subschema_means t old new d checked s own = record {
  n = s.n;
  number = s.joined.registered.added.number;
  means = s.is.means (more_types_own old new.rows checked s.joined.registered.begins own);
}

pub root_joined : {O : Type 0} (Q : TransformStep O) (ts us : Transforms O) (t : TypeRow) (old new : State) (n : ℕ) (d : Data)
    → IsJoined t old.rows new.rows n
    → IsRootInTable Q ts us (with_rows new.rows old) n (IsUntransformedCall (with_rows new.rows old) n new) d
    → IsRootOfType Q ts us t old new d
root_joined Q ts us t old new n d joined is = record { n = n; joined = joined; is = is }

-- with the transforms of a draft it means the type, if the definitions before were the generator's own
pub root_means : {O : Type 0} (Q : TransformStep O) (ts us : Transforms O) (t : TypeRow) (old new : State) (d : Data) → IsChecked old.rows
    → IsRootOfType Q ts us t old new d → (draft : Draft) (s : Settings) → old.settings ≡ s → ts.items ≡ transforms_for draft
    → HasOwnDefinitions old → IsDraftPath (stripped s.definitions_path) → MeansType draft t s new.rows d
unfolding MeansType
root_means Q ts us t old new d checked r draft settings same transforms own path = record {
  n = r.n;
  number = r.joined.registered.added.number;
  headline = subst (λ (s : Settings). IsDraftPath (stripped s.definitions_path)
      → Headline (dialect_of draft) new.rows s.contract (stripped s.definitions_path) r.n d) same
      (λ p. r.is.headline draft transforms (more_types_own old new.rows checked r.joined.registered.begins own) p) path;
}

-- ---- refusals

pub type_memory : (t : TypeRow) (old : List Row) (e : GenerateError) → e ≡ OutOfMemory → IsTypeRefusal t old e
type_memory t old e is = record { present = λ there. is; cause = inl is }

pub type_refusal : (t : TypeRow) (old : List Row) (e : TypesError) → RefusesType t old e → IsTypeRefusal t old (error_of e)
type_refusal t old e why = record {
  present = λ there. ap error_of (why.present there);
  cause = inr (record { refusal = e; cause = inl why.as_told; is_told = refl });
}

-- a table without faults is not refused
never_refused : (rows : List Row) (e : TypesError) → IsAccepted rows → Refusal rows e → ⊥
never_refused rows fault.OutOfMemory h r = r
never_refused rows (fault.UndefinedType n) h r = h.defined n r.0
never_refused rows (fault.RepeatedName n name) h r = h.named n r.1.0
never_refused rows (fault.DirectCycle n) h r = h.direct n r.2.0
never_refused rows (fault.EmptyCycle n) h r = h.empty n r.3.0
never_refused rows (fault.AlreadyDefined n) h r = r
never_refused rows (fault.UnknownType n) h r = r

pub check_refusal : (t : TypeRow) (old rows : List Row) (n : ℕ) (e : TypesError) → IsAccepted old → IsRegistered t old rows n
    → (e ≡ fault.OutOfMemory) ⊎ Refusal rows e → IsTypeRefusal t old (error_of e)
check_refusal t old rows n e accepted is (inl memory) = type_memory t old (error_of e) (ap error_of memory)
check_refusal t old rows n e accepted is (inr h) = record {
  present = λ there. absurd (never_refused old e accepted (subst (λ r. Refusal r e) (is.present there) h));
  cause = inr (record { refusal = e; cause = inr (rows, n, is, h); is_told = refl });
}
