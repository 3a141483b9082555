-- A field's schema is found at its name.
use Rattle.std.proofs.Common.{◌≡◌, ℕ, List, [], ◌∷◌, Option, Some, None, Bool, true, false, refl, sym, ◌∙◌, true≢false, map}
use Rattle.schemars_meaning.proofs.Words.{bytes_eq, ◌&&◌, ◌||◌, not, is_some, if◌then◌else◌, bytes_eq-Decides, Data, Members, put, get_member, get_member-put, get_member-put_other, Text, IsSchema, put_all, have_all, AreNotes, Field, is_required, field_named, IsNoName, AreDistinct, AreNoted, annotated, required_names, has_each, field_member}
use Rattle.schemars_types.specs.declared.contract.Contract.{Contract}
use Rattle.schemars_meaning.proofs.Spread.{field_keywords, AreWritten}
use Rattle.schemars_meaning.proofs.Notes.{annotated-schema}
use Rattle.schemars_meaning.proofs.Named.{AreEntries}

module _ (W : ℕ → Data → Type 0) where
  abbrev pub Finds : Option Field → Option Data → Option Data → Type 0
  Finds None g before = g ≡ before
  Finds (Some x) g before = (t : Data) × W x.ty t × AreNotes x.notes × (g ≡ Some (annotated x.notes t))

  apart : (k l : Text) → bytes_eq l k ≡ false → k ≡ l → ⊥
  apart k l e same = true≢false (sym ((bytes_eq-Decides l k).1 (sym same)) ∙ e)

  unnamed : (k : Text) (xs : List Field) (ts : List Data) (ms : Members) → IsNoName k xs
      → get_member k (put_all (field_keywords xs ts) ms) ≡ get_member k ms
  unnamed k [] ts ms h = refl
  unnamed k (x ∷ xs) [] ms h = refl
  unnamed k (x ∷ xs) (t ∷ ts) ms h = unnamed k xs ts (put x.name (annotated x.notes t) ms) h.1
      ∙ get_member-put_other k x.name (annotated x.notes t) ms (apart k x.name h.0)

  pub field_found : (k : Text) (xs : List Field) (ts : List Data) (ms : Members) → AreDistinct xs → AreNoted xs → AreWritten W xs ts
      → Finds (field_named xs k) (get_member k (put_all (field_keywords xs ts) ms)) (get_member k ms)
  field_found k [] ts ms d n w = refl
  field_found k (x ∷ xs) [] ms d n w = absurd w
  field_found k (x ∷ xs) (t ∷ ts) ms d n w = go (bytes_eq x.name k) refl
      (field_found k xs ts (put x.name (annotated x.notes t) ms) d.1 n.1 w.1)
    where
      go : (b : Bool) → bytes_eq x.name k ≡ b
          → Finds (field_named xs k) (get_member k (put_all (field_keywords xs ts) (put x.name (annotated x.notes t) ms)))
          (get_member k (put x.name (annotated x.notes t) ms))
          → Finds (if b then Some x else field_named xs k) (get_member k
          (put_all (field_keywords xs ts) (put x.name (annotated x.notes t) ms))) (get_member k ms)
      go true e later =
          let same : x.name ≡ k = (bytes_eq-Decides x.name k).0 e in (
            t,
            w.0,
            n.0,
            rw (← same) (unnamed x.name xs ts (put x.name (annotated x.notes t) ms) d.0
                ∙ get_member-put x.name (annotated x.notes t) ms),
          )
      go false e later = rw (get_member-put_other k x.name (annotated x.notes t) ms (apart k x.name e)) at later

  pub entries : (schemas : (j : ℕ) (t : Data) → W j t → IsSchema t) → (xs : List Field) (ts : List Data) → AreWritten W xs ts
      → AreEntries (field_keywords xs ts)
  entries schemas [] ts h = tt
  entries schemas (x ∷ xs) [] h = tt
  entries schemas (x ∷ xs) (t ∷ ts) h = (annotated-schema x.notes t (schemas x.ty t h.0), entries schemas xs ts h.1)

pub required_same : (contract : Contract) (M : ℕ → Data → Bool) (xs : List Field) (ms : Members)
    → have_all (required_names contract xs) ms ≡ has_each (map (field_member contract M) xs) ms
required_same contract M [] ms = refl
required_same contract M (x ∷ xs) ms = go (is_required contract x.required) (required_same contract M xs ms)
  where
    go : (b : Bool) → have_all (required_names contract xs) ms ≡ has_each (map (field_member contract M) xs) ms
        → have_all (if b then x.name ∷ required_names contract xs else required_names contract xs) ms
        ≡ (not b || is_some (get_member x.name ms)) && has_each (map (field_member contract M) xs) ms
    go true later = rw later
    go false later = later
