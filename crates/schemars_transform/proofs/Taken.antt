-- Definitions that are taken out of a document, transformed, and put back.
use Rattle.std.proofs.Common.{◌≡◌, ◌<◌, Bool, true, false, List, [], ◌∷◌, length, Some, None, Ok, Err, arith, codes, refl, sym, ap, ◌∙◌, subst}
use Rattle.schemars_transform.proofs.Words.{and_parts, bytes_eq-Decides, ◌||◌, bytes_eq, Data, object, Members, no_members, get, is_listed, Text, members_in, replaced, TransformStep, InOrder, function_of, made_by, each_made_by, OfMember, is_own, some_own, is_local, are_local, definition_keys, IsTaken}
use Rattle.schemars_walk.specs.declared.transform.TransformError.TheVariants.{Memory}
use Rattle.schemars_transform.specs.declared.gen_transform.GenTransform.{GenTransform}
use Rattle.schemars_transform.specs.declared.gen_transform.GenTransform.TheVariants.{ReplaceBoolSchemas, RemoveRefSiblings, SetSingleExample, ReplaceConstValue, ReplacePrefixItems, AddNullable, ReplaceUnevaluatedProperties, RestrictFormats, Own}
use Rattle.schemars_transform.proofs.Replaced.{replaced-found, replaced-missing}
use Rattle.schemars_transform.proofs.Turns.{IsApart, defs_apart, definitions_apart}
use Rattle.schemars_transform.proofs.Parted.{made_in_parts, parted}

-- ---- the value at a key

pub taken_there : (k : Text) (s d e n : Data) (names : Members) → Some d ≡ get k s → (d ≡ object names) × (e ≡ object no_members)
    → n ≡ object (replaced k e (members_in s)) → IsTaken k s names n
taken_there k s d e n names found both is =
    (sym found ∙ ap Some both.0, is ∙ ap (λ x. object (replaced k x (members_in s))) both.1)

pub left_there : (k : Text) (s d e n : Data) → Some d ≡ get k s → e ≡ d → n ≡ object (replaced k e (members_in s)) → n ≡ s
left_there k (object ms) d e n found same is =
    is ∙ (ap (λ x. object (replaced k x ms)) same ∙ ap object (replaced-found k d ms (sym found)))
left_there k _ d e n found same is = cc

pub put_there : (k : Text) (s v n : Data) (names ms : Members) → v ≡ object names → n ≡ object (replaced k v (members_in s))
    → s ≡ object ms → n ≡ object (replaced k (object names) ms)
put_there k s v n names ms value is was =
    is ∙ (ap (λ x. object (replaced k x (members_in s))) value ∙ ap (λ d. object (replaced k (object names) (members_in d))) was)

pub put_nowhere : (k : Text) (s n : Data) (names ms : Members) → None ≡ get k s → n ≡ s → s ≡ object ms
    → n ≡ object (replaced k (object names) ms)
put_nowhere k s n names ms none is was =
    is ∙ (was ∙ sym (ap object (replaced-missing k (object names) ms (sym (none ∙ ap (get k) was)))))

-- ---- lists of transforms

local_step : {O : Type 0} (Q : TransformStep O) (t : GenTransform O) (s : Data) → is_local t ≡ true
    → OfMember Q t s (Ok tt) t (function_of t s)
local_step Q (ReplaceBoolSchemas t) s is = (refl, refl)
local_step Q (RemoveRefSiblings t) s is = (refl, refl)
local_step Q (SetSingleExample t) s is = (refl, refl)
local_step Q (ReplaceConstValue t) s is = (refl, refl)
local_step Q (ReplacePrefixItems t) s is = (refl, refl)
local_step Q (AddNullable t) s is = (refl, refl)
local_step Q (ReplaceUnevaluatedProperties t) s is = (refl, refl)
local_step Q (RestrictFormats t) s is = cc
local_step Q (Own t) s is = cc

local_refusal : {O : Type 0} (Q : TransformStep O) (t : GenTransform O) (s v : Data) → is_local t ≡ true
    → OfMember Q t s (Err Memory) t v
local_refusal Q (ReplaceBoolSchemas t) s v is = (refl, refl)
local_refusal Q (RemoveRefSiblings t) s v is = (refl, refl)
local_refusal Q (SetSingleExample t) s v is = (refl, refl)
local_refusal Q (ReplaceConstValue t) s v is = (refl, refl)
local_refusal Q (ReplacePrefixItems t) s v is = (refl, refl)
local_refusal Q (AddNullable t) s v is = (refl, refl)
local_refusal Q (ReplaceUnevaluatedProperties t) s v is = (refl, refl)
local_refusal Q (RestrictFormats t) s v is = cc
local_refusal Q (Own t) s v is = cc

local_built_in : {O : Type 0} (t : GenTransform O) → is_local t ≡ true → is_own t ≡ false
local_built_in (Own t) is = cc
local_built_in _ is = refl

pub none_own : {O : Type 0} (ts : List (GenTransform O)) → are_local ts ≡ true → some_own ts ≡ false
none_own [] local = refl
none_own (t ∷ ts) local =
    let both = and_parts (is_local t) (are_local ts) local in
    ap (λ b. b || some_own ts) (local_built_in t both.0) ∙ none_own ts both.1

pub makes_in_order : {O : Type 0} (Q : TransformStep O) (ts : List (GenTransform O)) (d : Data) → are_local ts ≡ true
    → InOrder (OfMember Q) ts d (Ok tt) ts (made_by ts d)
makes_in_order Q [] d local = (refl, refl, refl)
makes_in_order Q (t ∷ ts) d local =
    let both = and_parts (is_local t) (are_local ts) local in
    (Ok tt, t, function_of t d, local_step Q t d both.0, (ts, makes_in_order Q ts (function_of t d) both.1, refl))

-- where memory runs out, the first of them may as well have been refused it
pub memory_in_order : {O : Type 0} (Q : TransformStep O) (ts us : List (GenTransform O)) (d v : Data) → are_local ts ≡ true
    → 0 < length ts → us ≡ ts → InOrder (OfMember Q) ts d (Err Memory) us v
memory_in_order Q [] us d v local some stay = absurd (omega (arith, some))
memory_in_order Q (t ∷ ts) us d v local some stay =
    let both = and_parts (is_local t) (are_local ts) local in
    subst (λ ys. InOrder (OfMember Q) (t ∷ ts) d (Err Memory) ys v) (sym stay)
    (Err Memory, t, v, local_refusal Q t d v both.0, (refl, refl))

-- ---- definitions

which : (q : Text) → is_listed q definition_keys ≡ true → IsApart q
which q is = first (bytes_eq q (codes "$defs")) refl
  where
    second : (b : Bool) → bytes_eq q (codes "definitions") ≡ b → (b || false) ≡ true → IsApart q
    second true at h = subst IsApart (sym ((bytes_eq-Decides q (codes "definitions")).0 at)) definitions_apart
    second false at h = cc

    first : (b : Bool) → bytes_eq q (codes "$defs") ≡ b → IsApart q
    first true at = subst IsApart (sym ((bytes_eq-Decides q (codes "$defs")).0 at)) defs_apart
    first false at =
        second (bytes_eq q (codes "definitions")) refl
        (ap (λ b. b || (bytes_eq q (codes "definitions") || false)) (sym at) ∙ is)

module _ {O : Type 0} (Q : TransformStep O) (ts us : List (GenTransform O)) (q : Text) (s0 s1 s2 : Data) (old new : Members)
    (key : is_listed q definition_keys ≡ true) (local : are_local ts ≡ true) (stay : us ≡ ts) (each : new ≡ each_made_by ts old)
    (left : s1 ≡ made_by ts s0) (put : (ms : Members) → s1 ≡ object ms → s2 ≡ object (replaced q (object new) ms)) where
  -- the definitions and what was left, both transformed, are the document transformed
  pub apart_in_order : (d : Data) → IsTaken q d old s0 → InOrder (OfMember Q) ts d (Ok tt) us s2
  apart_in_order (object ms) taken =
      let c = made_in_parts q (which q key) ts local (replaced q (object no_members) ms) in
      let rest : s1 ≡ object c.members = left ∙ (ap (made_by ts) taken.1 ∙ c.here) in
      let whole : s2 ≡ made_by ts (object ms) =
      put c.members rest ∙ (ap (λ e. object (replaced q (object e) c.members)) each
      ∙ (ap (λ d. object (replaced q (object (each_made_by ts old)) (members_in d))) (sym c.here)
      ∙ sym (parted q (which q key) ts local ms old taken.0))) in
      subst (λ ys. InOrder (OfMember Q) ts (object ms) (Ok tt) ys s2) (sym stay)
      (subst (λ v. InOrder (OfMember Q) ts (object ms) (Ok tt) ts v) (sym whole) (makes_in_order Q ts (object ms) local))
  apart_in_order _ taken = let never = taken.0 in cc
