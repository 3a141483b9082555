-- A struct whose one field, which is required, is the struct itself: its table is accepted, and no value belongs to it.
use Rattle.std.proofs.Common.{◌≡◌, ◌≤◌, ℕ, zero, suc, List, [], ◌∷◌, Bool, true, false, Option, Some, None, Ordering, Less, Equal, Greater, nat_cmp, true≢false, refl, sym, ap, ◌∙◌, arith, inl, inr}
use Rattle.schemars_headline.proofs.Words.{codes, ◌&&◌, ◌||◌, not, is_some, option_and_then, option_map_or, match_ordering, slice_cmp, exact_bytes, Data, object, Members, no_members, member, get_member, Text, Patterns, draft2020_12, accepts, Field, Row, entry_at, is_inline_at, MeansItsType, slice_get_past, No, IsJson, bound, bare_fields, struct, Walk, one, then, DirectEdge, SameValueEdge, names_at, IsUndefined, HasRepeated, IsAccepted, Member, member_named, field_member, every_member, is_required, never_first_repeated, IsDistinct, belongs_within}
use Rattle.schemars_types.specs.declared.contract.Contract.{Contract}
use Rattle.schemars_types.specs.declared.contract.Contract.TheVariants.{Deserialize, Serialize}

abbrev next : Field
next = record { name = codes "n"; ty = 0; required = record { deserialize = true; serialize = true }; notes = no_members }

abbrev pub endless : List Row
endless = (record {
  id = codes "L";
  name = codes "L";
  entry = Some (record
      { inline = false; notes = no_members; shape = struct (bare_fields (next ∷ []) false) });
}) ∷ []

-- ---- it is accepted

no_walk : (Edge : ℕ → ℕ → Type 0) → ((n m : ℕ) → ¬ Edge n m) → (n m : ℕ) → ¬ Walk Edge n m
no_walk Edge none n m (one _ e) = none n m e
no_walk Edge none n m (then k _ w e) = none k m e

no_direct : (n m : ℕ) → ¬ DirectEdge endless n m
no_direct zero zero (inl e) = cc (e.1)
no_direct zero (suc m) (inl e) =
    let out : entry_at endless (suc m) ≡ None = ap (option_and_then (λ r. r.entry)) (slice_get_past endless (suc m) (omega arith)) in
    let apart : is_inline_at endless (suc m) ≡ false = ap (λ o. option_map_or (λ e. e.inline) o false) out in
    true≢false (sym e.1 ∙ apart)
no_direct zero m (inr e) = absurd (omega (arith, e.0.1))
no_direct (suc n) m (inl e) = absurd (omega (arith, e.0.1))
no_direct (suc n) m (inr e) = absurd (omega (arith, e.0.1))

no_same_value : (n m : ℕ) → ¬ SameValueEdge endless n m
no_same_value zero m e = absurd (omega (arith, e.0.1))
no_same_value (suc n) m e = absurd (omega (arith, e.0.1))

is_defined : (n : ℕ) → ¬ IsUndefined endless n
is_defined zero u = cc
is_defined (suc n) u = absurd (omega (arith, u.0))

differ : (n : ℕ) → ¬ HasRepeated endless n
unfolding IsDistinct
differ zero h = never_first_repeated (names_at endless 0) h.0 ((tt, tt), tt) h.1
differ (suc n) h = never_first_repeated (names_at endless (suc n)) h.0 tt h.1

pub endless_accepted : IsAccepted endless
endless_accepted = record {
  defined = is_defined;
  named = differ;
  direct = λ n walk. no_walk (DirectEdge endless) no_direct n n walk;
  empty = λ n walk. no_walk (SameValueEdge endless) no_same_value n n walk;
}

-- ---- and has no value

misfit : (p : Text → Data → Bool) (k : Text) (d : Data) (ms : Members) → get_member k ms ≡ Some d → p k d ≡ false
    → every_member p ms ≡ false
misfit p k d no_members is bad = cc
misfit p k d (member l e ms) is bad = go (slice_cmp nat_cmp k l) refl is (misfit p k d ms)
  where
    either : (a b : Bool) → b ≡ false → a && b ≡ false
    either true b h = h
    either false b h = refl

    first : (a b : Bool) → a ≡ false → a && b ≡ false
    first true b h = cc
    first false b h = refl

    go : (o : Ordering) → slice_cmp nat_cmp k l ≡ o → match_ordering o (get_member k ms) (Some e) (get_member k ms) ≡ Some d
        → (get_member k ms ≡ Some d → p k d ≡ false → every_member p ms ≡ false) → p l e && every_member p ms ≡ false
    go Less at is rest = either (p l e) (every_member p ms) (rest is bad)
    go Equal at is rest =
        let same_key : k ≡ l = exact_bytes k l at in
        let same : e ≡ d = cc in
        first (p l e) (every_member p ms) ((λ i. p (sym same_key i) (same i)) ∙ bad)
    go Greater at is rest = either (p l e) (every_member p ms) (rest is bad)

no_and : (a : Bool) → a && false ≡ false
no_and true = refl
no_and false = refl

-- what a member of this name may be
abbrev own : Contract → (ℕ → Data → Bool) → Text → Data → Bool
own c part k w = option_map_or (λ (m : Member). m.has w) (member_named (field_member c part next ∷ []) k) true

absent_or_misfit : (c : Contract) (part : ℕ → Data → Bool) → ((w : Data) → part 0 w ≡ false) → (ms : Members) (o : Option Data)
    → get_member (codes "n") ms ≡ o
    → every_member (own c part) ms && ((not (is_required c next.required) || is_some (get_member (codes "n") ms)) && true) ≡ false
absent_or_misfit Deserialize part none ms None is = rw is (no_and (every_member (own Deserialize part) ms))
absent_or_misfit Serialize part none ms None is = rw is (no_and (every_member (own Serialize part) ms))
absent_or_misfit c part none ms (Some w) is = rw (misfit (own c part) (codes "n") w ms is (none w)) refl

pub no_value : (contract : Contract) (patterns : Patterns) (steps n : ℕ) (v : Data)
    → belongs_within endless contract patterns steps n v ≡ false
unfolding belongs_within
no_value contract patterns zero n v = refl
no_value contract patterns (suc steps) (suc n) v = refl
no_value contract patterns (suc steps) zero (object ms) = absent_or_misfit contract (belongs_within endless contract patterns steps)
    (λ w. no_value contract patterns steps 0 w) ms (get_member (codes "n") ms) refl
no_value contract patterns (suc steps) zero _ = refl

-- so its document accepts nothing
pub document_accepts_nothing : (contract : Contract) (path : Text) (document : Data)
    → MeansItsType draft2020_12 endless contract path 0 document
    → (patterns : Patterns) (v : Data) → IsJson v → (followed : ℕ) → bound path document v ≤ followed
    → accepts draft2020_12 document patterns followed document v ≡ No
document_accepts_nothing contract path document h patterns v json followed enough =
    h.accepts_its_values patterns v json followed enough ∙ rw (no_value contract patterns _ 0 v) refl
