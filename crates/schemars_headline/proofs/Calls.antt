-- What a call makes of what a generator holds.
use Rattle.std.proofs.Common.{◌≡◌, inl, inr, ℕ, List, [], ◌∷◌, length, Bool, true, false, Option, Some, None, refl, sym, ap, ◌∙◌, arith, subst, true≢false, Result, Ok, Err, IsErrAnd, IfErr}
use Rattle.schemars_headline.proofs.Words.{if◌then◌else◌, Data, Members, get_member, has_float, members_have_float, draft2020_12, placed_at, Text, name_at, IsChecked, name_of, IsOneToOne, reference, root_document, Basis, HasKeysOnce, HasPlainNotes, Plan, Registry, IsKey, Refers, reference_to, basis_of_plan, State, state_plan, registry_of, HasOwnDefinitions, IsDraftPath, IsRootOf, with_definitions, IsPlaced, IsSubschema, document_describes, references, members_view, DirectEdge, SameValueEdge, IsAccepted, HasNoFloat, IsDefinition, Step, after_root, RootHeadline, IsTitledRoot, CannotPlace, is_in_place, IsDocument, IsDocumentOf, placed_map, document-wider, AreReached, Wider, step_wider, definition-wider, IsDistinct, height, rank}
use Rattle.serde_json.proofs.Views.{Entry as Entries}
use Rattle.schemars_cycles.specs.Walks as walks
use Rattle.schemars_headline.proofs.Standing.{Stands, AllStand, stands_now, stands_before}
use Rattle.schemars_headline.proofs.Floats.{described_whole, root_whole, definitions_whole, whole_with_definitions}
use Rattle.schemars_headline.proofs.Roots.{plain_for, root_placed, root_call_means}

-- ---- definitions between calls

-- references that are known in another registry too
definition-moved : (plan other : Plan) (old new : Registry) → plan.rows ≡ other.rows → plan.contract ≡ other.contract
    → plan.titles ≡ other.titles → plan.inlines ≡ other.inlines
    → ((n : ℕ) (name : Text) → name_of n plan.contract old.names ≡ Some name → name_of n other.contract new.names ≡ Some name)
    → ((n : ℕ) (r : Text) → Refers plan false old n r → Refers other false new n r) → (k : Text) (d : Data) → IsDefinition plan old k d
    → IsDefinition other new k d
definition-moved plan other old new rows contract titles inlines names refers k d h = record {
  row = h.row;
  is_named = names h.row k h.is_named;
  is_text = h.is_text;
  pending = h.pending;
  document =
      let wide = document-wider (basis_of_plan plan) plan.inlines (Refers plan false old) (Refers other false new) refers h.pending h.row d
      h.document in
      let same : basis_of_plan plan ≡ basis_of_plan other =
      λ i. record { rows = rows i; contract = (contract i); titles = titles i } in
      let P : Basis → Type 0 = λ b. IsDocument b plan.inlines (Refers other false new) h.pending h.row d in
      let Q : Bool → Type 0 = λ b. IsDocument (basis_of_plan other) b (Refers other false new) h.pending h.row d in
      subst Q inlines (subst P same wide);
}

-- what a root call has, of what was there and what it adds
pub definitions_in : (s : State) (root : Option ℕ) (w : Registry) → Step (state_plan s root) (registry_of s) w → HasOwnDefinitions s
    → AllStand (state_plan s root) w
definitions_in s root w step own k d found = go (get_member k s.definitions) refl
  where
    go : (o : Option Data) → get_member k s.definitions ≡ o → Stands (state_plan s root) w k d
    go None is = stands_now (state_plan s root) w k d (step.adds k d is found).definition
    go (Some e) is =
        let kept : get_member k w.definitions ≡ Some e = step.stays k e is in
        let same : e ≡ d = cc in
        let P : Data → Type 0 = λ x. Stands (state_plan s root) w k x in
        subst P same (stands_before (state_plan s root) w k e (definition-wider (state_plan s None) (registry_of s) w
        (step_wider (state_plan s root) (registry_of s) w step) k e (own k e is)))

-- no definition refers to the root, so they can stay
pub definitions_kept : (s : State) (root : Option ℕ) (w : Registry) → w.has_root_reference ≡ false → Step (state_plan s root) (registry_of s) w
    → HasOwnDefinitions s → HasOwnDefinitions (record s { names = w.names; definitions = w.definitions })
definitions_kept s root w none step own k d found = go (get_member k s.definitions) refl
  where
    new : State
    new = record s { names = w.names; definitions = w.definitions }

    from_root : (n : ℕ) (r : Text) → Refers (state_plan s root) false w n r → Refers (state_plan new None) false (registry_of new) n r
    from_root n r (inl h) = absurd (true≢false (sym h.1 ∙ none))
    from_root n r (inr h) = inr (h.0, h.1, h.2, h.3, h.4, λ e. cc)

    wider : Wider s.settings.contract (registry_of s) (registry_of new)
    wider = record {
      names = (step_wider (state_plan s root) (registry_of s) w step).names;
      keys = (step_wider (state_plan s root) (registry_of s) w step).keys;
      meets = λ e. e;
    }

    go : (o : Option Data) → get_member k s.definitions ≡ o → IsDefinition (state_plan new None) (registry_of new) k d
    go None is = definition-moved (state_plan s root) (state_plan new None) w (registry_of new) refl refl refl refl
        (λ n name e. e) from_root k d
        (step.adds k d is found).definition
    go (Some e) is =
        let kept : get_member k w.definitions ≡ Some e = step.stays k e is in
        let same : e ≡ d = cc in
        let P : Data → Type 0 = λ x. IsDefinition (state_plan new None) (registry_of new) k x in
        subst P same (definition-wider (state_plan s None) (registry_of s) (registry_of new) wider k e (own k e is))

-- the old ones stay the generator's own as names join
names_joined : (s : State) (w : Registry) (root : Option ℕ) → Step (state_plan s root) (registry_of s) w → HasOwnDefinitions s
    → HasOwnDefinitions (record s { names = w.names })
names_joined s w root step own k d found =
    let new = record s { names = w.names } in
    definition-wider (state_plan s None) (registry_of s) (registry_of new) (record {
      names = λ n name e. (step_wider (state_plan s root) (registry_of s) w step).names n name e;
      keys = λ q is. is;
      meets = λ e. e;
    }) k d (own k d found)

pub after_root_own : (s : State) (n : ℕ) (w : Registry) → Step (state_plan s (Some n)) (registry_of s) w → HasOwnDefinitions s
    → HasOwnDefinitions (after_root s w)
after_root_own s n w step own = go w.has_root_reference refl
  where
    go : (b : Bool) → w.has_root_reference ≡ b → HasOwnDefinitions (record s {
      names = w.names;
      definitions = if b then s.definitions else
          w.definitions;
    })
    go true is = names_joined s w (Some n) step own
    go false is = definitions_kept s (Some n) w is step own

pub part_own : (s new : State) → new ≡ record s { names = new.names; definitions = new.definitions }
    → Step (state_plan s None) (registry_of s) (registry_of new) → HasOwnDefinitions s → HasOwnDefinitions new
part_own s new same step own =
    subst HasOwnDefinitions (sym same) (definitions_kept s None (registry_of new) refl step own)

-- ---- root documents

pub root_means : (s : State) (n : ℕ) (w : Registry) (d : Data) → IsChecked s.rows → IsRootOf s n w d → HasKeysOnce w.definitions
    → IsOneToOne w.names → RootHeadline draft2020_12 s n d
root_means s n w d checked root once one own path plain =
    root_call_means s n w d root checked one once (definitions_in s (Some n) w root.step own) path
    (plain_for draft2020_12 s.settings.contract s.rows plain)

pub own_are_whole : (s : State) → HasNoFloat s.rows → HasOwnDefinitions s → HasKeysOnce s.definitions
    → members_have_float s.definitions ≡ false
own_are_whole s none own once =
    let plan = state_plan s None in
    definitions_whole plan (registry_of s) none (λ k d found. stands_now plan (registry_of s) k d (own k d found)) once

pub root_is_whole : (s : State) (n : ℕ) (w : Registry) (d : Data) → IsRootOf s n w d → HasKeysOnce w.definitions → HasNoFloat s.rows
    → HasOwnDefinitions s → has_float d ≡ false
root_is_whole s n w d root once none own =
    whole_with_definitions (state_plan s (Some n)).path w.definitions (root_document (name_at s.rows n) s.settings.meta_schema root.own) d
    (definitions_whole (state_plan s (Some n)) w none (definitions_in s (Some n) w root.step own) once)
    (root_whole (name_at s.rows n) s.settings.meta_schema root.own (described_whole (basis_of_plan (state_plan s None))
    (Refers (state_plan s (Some n)) true w) none root.is_document.0 n root.own
    (document_describes (basis_of_plan (state_plan s None)) s.settings.inlines (Refers (state_plan s (Some n)) true w) [] n root.own
    root.is_document)))
    root.is_root

pub always_placed : (s : State) (n : ℕ) → HasPlainNotes s.rows → IsDraftPath (state_plan s None).path → CannotPlace s n → ⊥
always_placed s n plain path h =
    let R = Refers (state_plan s (Some n)) true h.registry in
    let there = root_placed (state_plan s (Some n)) h.registry n (name_at s.rows n) s.settings.meta_schema h.is_document.0 h.own plain R
    (document_describes (basis_of_plan (state_plan s (Some n))) s.settings.inlines R [] n h.own h.is_document) path in
    let some = there.1 in
    let none = h.no_place in
    cc

-- ---- parts

pub reference_of_part : (s : State) (n : ℕ) (d : Data) → IsSubschema (state_plan s None) false (registry_of s) n d
    → is_in_place s.rows s.settings.inlines [] n ≡ false
    → (name : Text) × (name_of n s.settings.contract s.names ≡ Some name) × IsKey name s.definitions
    × (d ≡ reference (reference_to (state_plan s None).path name))
reference_of_part s n d (inl (r, (inl h, e), same)) apart = cc
reference_of_part s n d (inl (r, (inr h, e), same)) apart = (h.0, h.1, h.2, same ∙ ap reference h.3)
reference_of_part s n d (inr h) apart = absurd (true≢false (sym h.1 ∙ apart))

-- what a call leaves of its registry
abbrev left_by : State → Registry → Registry
left_by s w = registry_of (record s { names = w.names; definitions = w.definitions })

refers_left : (s : State) (w : Registry) (j : ℕ) (r : Text) → Refers (state_plan s None) false w j r
    → Refers (state_plan s None) false (left_by s w) j r
refers_left s w j r (inl h) = cc
refers_left s w j r (inr h) = inr h

-- what the running call has marked doesn't matter without a root
pub part_kept : (s new : State) (w : Registry) (n : ℕ) (d : Data) → new ≡ record s { names = w.names; definitions = w.definitions }
    → w.pending ≡ [] → IsSubschema (state_plan s None) false w n d → IsSubschema (state_plan new None) false (registry_of new) n d
part_kept s new w n d same none h =
    let plan = state_plan s None in
    let P : State → Type 0 = λ x. IsSubschema (state_plan x None) false (registry_of x) n d in
    let Q : List ℕ → Type 0 = λ p. IsPlaced plan.rows plan.inlines p (Refers plan false w)
    (IsDocument (basis_of_plan plan) plan.inlines (Refers plan false w) p) n d in
    let R : ℕ → Text → Type 0 = Refers plan false w in
    let S : ℕ → Text → Type 0 = Refers plan false (left_by s w) in
    let moved = refers_left s w in
    subst P (sym same) (placed_map plan.rows plan.inlines [] R S (IsDocument (basis_of_plan plan) plan.inlines R [])
    (IsDocument (basis_of_plan plan) plan.inlines S []) moved (document-wider (basis_of_plan plan) plan.inlines R S moved []) n d
    (subst Q none h))

pub step_kept : (s : State) (w : Registry) → Step (state_plan s None) (registry_of s) w
    → Step (state_plan s None) (registry_of s) (left_by s w)
unfolding definition-moved
step_kept s w h = record {
  names = h.names;
  stays = h.stays;
  adds = λ k d none some.
      let added = h.adds k d none some in
      record {
        definition = definition-moved (state_plan s None) (state_plan s None) w (left_by s w) refl refl refl refl (λ n name e. e)
            (refers_left s w) k d added.definition;
        more = added.more;
        within = added.within;
      };
  still_begun = λ k is. is;
  still_meets = λ e. e;
  still_pending = refl;
}

-- nor does what the call has begun and marked
pub reached_kept : (plan : Plan) (inside : Bool) (s : State) (old w : Registry) (from : List Data) → AreReached plan inside old w from
    → AreReached plan inside old (left_by s w) from
reached_kept plan inside s old w from h = record {
  definitions = h.definitions;
  names = h.names;
  root = λ meets. cc;
}

-- ---- refusals

-- a refusal that is passed on tells what it told
pub err_told : {X E : Type 0} (r : Result X E) (P Q : E → Type 0) → IsErrAnd r Q → ((e : E) → Q e → P e) → IfErr r P
err_told (Ok x) P Q h all = tt
err_told (Err e) P Q h all = all e h

-- ---- placing

pub some_definitions : (path : Text) (es : List Entries) (document : Data) → (length es ≡ 0 → ⊥)
    → with_definitions path (members_view es) document ≡ placed_at path (members_view es) document
some_definitions path [] document some = absurd (some refl)
some_definitions path (e ∷ es) document some = refl

-- ---- nothing yet

no_edge : (n m : ℕ) → DirectEdge [] n m → ⊥
no_edge n m (inl e) = omega (arith, e.0.1)
no_edge n m (inr e) = omega (arith, e.1)

pub checked_nothing : IsChecked []
unfolding height rank IsDistinct
checked_nothing = record {
  within = record { within = λ n m is. absurd (omega (arith, is.1)) };
  defined = λ n less. absurd (omega arith);
  names_differ = λ n. tt;
  height_bound = λ n. omega arith;
  height_falls = λ n m edge. absurd (no_edge n m edge);
  rank_bound = λ n less. absurd (omega arith);
  rank_falls = λ n m edge. absurd (omega (arith, edge.1));
}

no_walk : (Edge : ℕ → ℕ → Type 0) → ((n m : ℕ) → Edge n m → ⊥) → (n m : ℕ) → walks.Walk Edge n m → ⊥
no_walk Edge none n m (walks.one m' e) = none n m' e
no_walk Edge none n m (walks.then k m' w e) = none k m' e

pub accepted_nothing : IsAccepted []
unfolding IsDistinct
accepted_nothing = record {
  defined = λ n is. omega (arith, is.0);
  named = λ n has. has.1;
  direct = λ n walk. no_walk (DirectEdge []) no_edge n n walk;
  empty = λ n walk. no_walk (SameValueEdge []) (λ k m edge. omega (arith, edge.1)) n n walk;
}

pub one_to_one-none : IsOneToOne []
one_to_one-none = record { one_row = λ m n c d name a b. cc }

pub cannot_place : (s : State) (n : ℕ) (old w : Registry) (t : Data) (path : Text) (ms : Members) → old ≡ registry_of s
    → Step (state_plan s (Some n)) old w → IsTitledRoot s old n w t → path ≡ (state_plan s None).path → ms ≡ w.definitions
    → with_definitions path ms t ≡ None → CannotPlace s n
cannot_place s n old w t path ms between step titled same_path same none = record {
  registry = w;
  step = subst (λ x. Step (state_plan s (Some n)) x w) between step;
  own = titled.own;
  is_document = subst (λ p. IsDocumentOf (state_plan s (Some n)) true w p n titled.own) (ap (λ x. x.pending) between) titled.is_document;
  no_place = sym (λ i. with_definitions (same_path i) (same i) (titled.is_root i)) ∙ none;
  reached = λ plain. subst (λ x. AreReached (state_plan s (Some n)) false x w (references titled.own)) between (titled.reached plain);
}

pub root_of : (s : State) (n : ℕ) (old w : Registry) (t d : Data) (path : Text) (ms : Members) → old ≡ registry_of s
    → Step (state_plan s (Some n)) old w → IsTitledRoot s old n w t → path ≡ (state_plan s None).path → ms ≡ w.definitions
    → with_definitions path ms t ≡ Some d → IsRootOf s n w d
root_of s n old w t d path ms between step titled same_path same made = record {
  step = subst (λ x. Step (state_plan s (Some n)) x w) between step;
  own = titled.own;
  is_document = subst (λ p. IsDocumentOf (state_plan s (Some n)) true w p n titled.own) (ap (λ x. x.pending) between) titled.is_document;
  is_root = sym (λ i. with_definitions (same_path i) (same i) (titled.is_root i)) ∙ made;
  reached = λ plain. subst (λ x. AreReached (state_plan s (Some n)) false x w (references titled.own)) between (titled.reached plain);
}
