-- A rewrite of every schema moves what schemas accept from one document to another, wherever definitions stand: it is enough
-- that each reference of which N holds leads in both to schemas, of which the new one says what the old one, rewritten, says.
use Rattle.std.proofs.Common.{◌≡◌, ◌⊎◌, ℕ, zero, suc, Option, Some, None, Bool, codes, refl, ap, ◌∙◌}
use Rattle.schemars_laws.proofs.Words.{option_and_then, Data, null, boolean, number, string, array, object, Members, get_member, as_str, Text, IsSchema, NoSchemas, place_under, resolved, Dialect, Patterns, Context, Judge, judge, keywords, truth_value, read_data, read_members, reading_at, context, accepts, unanswered, nothing, Rules, forms, in_keywords, Everywhere, IsNamedBy, NamedBy, follow}
use Rattle.schemars_laws.proofs.Seen.{AgreeOn}
use Rattle.schemars_laws.proofs.Kept.{Keeps, IsTruth, one}

-- what is asked of a rewrite, whatever the document
pub record Rewrites {R : Type 0} (ρ : Rules R) (old new : Dialect) (Q : Members → Type 0) : Type 0 where
  pub place : (r : R) (k : Text) (d : Data) → (ρ.place r k d ≡ place_under k) ⊎ ((ρ.place r k d ≡ NoSchemas) × IsTruth d)
  pub schema : (r : R) (s : Data) → IsSchema s → IsSchema (ρ.finish r s)
  pub of_truth : (c : Context) (r : R) (b : Bool) → c.dialect ≡ new → judge c (ρ.finish r (boolean b)) ≡ truth_value b
  pub of_object : (c : Context) (r : R) (ms : Members) → c.dialect ≡ new → Q ms → judge c (ρ.finish r (object (in_keywords ρ r ms)))
      ≡ keywords (record c { dialect = old }) (λ k. get_member k (in_keywords ρ r ms)) (reading_at (read_members c (in_keywords ρ r ms)))

-- and that leaves what stands at key in a schema object as it is
pub record Moves {R : Type 0} (ρ : Rules R) (key : Text) (old new : Dialect) (Q : Members → Type 0) : Type 0 where
  pub rewrites : Rewrites ρ old new Q
  pub definitions : (r : R) (ms : Members) → (ns : Members) × (ρ.finish r (object ms) ≡ object ns) × (get_member key ns ≡ get_member key ms)

-- two schemas that say the same
abbrev pub SaysAs : Data → Data → Type 0
SaysAs e d = (c : Context) → judge c e ≡ judge c d

-- what a reference leads to in the new document says what the old document's schema says, rewritten; or it leads nowhere in both
abbrev pub IsLed : {R : Type 0} → Rules R → (Members → Type 0) → Option Data → Option Data → Type 0
IsLed ρ P None None = Unit {0}
IsLed ρ P None (Some e) = ⊥
IsLed ρ P (Some d) None = ⊥
IsLed {R} ρ P (Some d) (Some e) = Everywhere P d × ((r : R) × SaysAs e (forms ρ r d).as_schema)

abbrev pub Leads : {R : Type 0} → Rules R → Dialect → (Text → Type 0) → (Members → Type 0) → Data → Data → Type 0
Leads ρ d N Q old new = (t : Text) → N t → IsLed ρ (NamedBy d N Q) (resolved old t) (resolved new t)

judged : (c d : Context) (s t : Data) → (read_data c s).schema ≡ (read_data d t).schema → judge c s ≡ judge d t
judged c d s t e = ap (λ o. elim o [ None ↦ nothing | Some j ↦ j ]) e

module _ {R : Type 0} (ρ : Rules R) (N : Text → Type 0) (old new : Dialect) (Q : Members → Type 0) (h : Rewrites ρ old new Q)
    (before after : Data) (leads : Leads ρ old N Q before after) (patterns : Patterns) where
  old_at : ℕ → Context
  old_at n = context old before patterns n

  new_at : ℕ → Context
  new_at n = context new after patterns n

  AgreeAt : ℕ → Type 0
  AgreeAt n = (t : Text) → N t → follow new after patterns n t ≡ follow old before patterns n t

  keeps : (n : ℕ) → AgreeAt n → Keeps ρ (old_at n) (new_at n) (NamedBy old N Q)
  unfolding old_at new_at AgreeAt
  keeps n agree = record {
    place = h.place;
    schema = h.schema;
    of_truth = λ r b. h.of_truth (new_at n) r b refl;
    of_object = λ r ns p. h.of_object (new_at n) r ns refl p.2;
    unevaluated = λ ns p. p.1;
    reference = λ ns p. named (get_member (codes "$ref") ns) p.0;
  }
    where
      named : (o : Option Data) → IsNamedBy N (option_and_then as_str o)
          → AgreeOn (follow new after patterns n) (follow old before patterns n) o
      named None is = tt
      named (Some null) is = tt
      named (Some (boolean b)) is = tt
      named (Some (number x)) is = tt
      named (Some (string t)) is = agree t is
      named (Some (array ds)) is = tt
      named (Some (object es)) is = tt

  moved : (n : ℕ) → AgreeAt n → (r : R) (d : Data) → Everywhere (NamedBy old N Q) d
      → judge (new_at n) (forms ρ r d).as_schema ≡ judge (old_at n) d
  moved n agree r d is =
      judged (new_at n) (old_at n) (forms ρ r d).as_schema d (one ρ (old_at n) (new_at n) (NamedBy old N Q) (keeps n agree) r d is)

  abbrev to_judge : Context → Option Data → Judge
  to_judge c o = elim o [ None ↦ unanswered | Some s ↦ judge c s ]

  led : (n : ℕ) → AgreeAt n → (o p : Option Data) → IsLed ρ (NamedBy old N Q) o p → to_judge (new_at n) p ≡ to_judge (old_at n) o
  led n agree None None is = refl
  led n agree None (Some e) is = absurd is
  led n agree (Some d) None is = absurd is
  led n agree (Some d) (Some e) is = is.1.1 (new_at n) ∙ moved n agree is.1.0 d is.0

  agree-after : (n : ℕ) → AgreeAt n → AgreeAt (suc n)
  unfolding AgreeAt new_at old_at follow
  agree-after n agree t is = led n agree (resolved before t) (resolved after t) (leads t is)

  agree : (n : ℕ) → AgreeAt n
  unfolding AgreeAt follow
  agree zero t is = refl
  agree (suc n) t is = agree-after n (agree n) t is

  -- a schema says in the new document, rewritten, what it said in the old one
  pub schema-moved : (n : ℕ) (r : R) (d v : Data) → Everywhere (NamedBy old N Q) d
      → accepts new after patterns n (forms ρ r d).as_schema v ≡ accepts old before patterns n d v
  unfolding new_at old_at
  schema-moved n r d v is = ap (λ j. j.fits v) (moved n (agree n) r d is)
