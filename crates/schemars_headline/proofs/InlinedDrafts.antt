-- Where rows are inlined and no row refers to itself, root documents have no references, whatever the draft, and no definitions are
-- needed.
use Rattle.std.proofs.Common.{◌≡◌, inl, inr, ℕ, List, [], ◌∷◌, ◌++◌, Bool, true, false, Some, None, refl, sym, ap, ◌∙◌, subst}
use Rattle.schemars_headline.proofs.Words.{if◌then◌else◌, Data, no_members, get_member, Text, members_in, references, Everywhere, for_draft07, for_draft2019_09, flattened_part, name_at, IsPlainTable, root_document, Ask, part, members_of, content, Plan, Registry, Refers, basis_of_plan, IsReached, State, state_plan, registry_of, IsRootOf, Draft07, Draft2019_09, Draft2020_12, All, All-nil, All-head, opened_inside, flattened_part-refers, opened_inside-refers, without_options, are_optional, IsFilled, IsSaid, IsFilledOf, AreNeededFor, AreReached, after_root, HasNoCycle, Draft, made_for, InlinesAll, IsInlinedFor, NeedsNoDefinitions}
use Rattle.schemars_headline.proofs.Changes.{Demand, without_rest, Class, good, for_openapi, for_items}
use Rattle.schemars_headline.proofs.Classes.{described-good}
use Rattle.schemars_headline.proofs.RootClass.{root-are}
use Rattle.schemars_headline.proofs.ReferencesKept.{RefersOnce, draft07-refers, draft2019_09-refers}
use Rattle.schemars_headline.proofs.DialectsResolving.{each-passes}
use Rattle.schemars_headline.proofs.Inlined.{Nothing, bare-within, bare_silent, no_item, no_definition, part_inlined, root_bare, root_inlined}

abbrev Never : Text → Type 0
Never t = ⊥

abbrev unreferred : Demand
unreferred = without_rest Never

-- a document none of whose references may be one has none
silent : (d : Data) → Everywhere (RefersOnce Never) d → references d ≡ []
silent d is = no_item (references d) (each-passes Never (λ x. false) (λ t never. absurd never) d is)

module _ (s : State) (n : ℕ) (w : Registry) (document : Data) (root : IsRootOf s n w document) (all : InlinesAll s)
    (none : s.definitions ≡ no_members) where
  abbrev plan : Plan
  plan = state_plan s (Some n)

  everywhere : Everywhere (Class unreferred) document
  everywhere =
      let parts = root_bare s n w document root all.0 all.1 all.2 none in
      let own = described-good unreferred (basis_of_plan plan) Nothing (λ j r never. absurd never) all.1 parts.1.0 n root.own parts.1.1 in
      let ms = members_in (root_document (name_at s.rows n) s.settings.meta_schema root.own) in
      subst (Everywhere (Class unreferred)) parts.2
      (good unreferred ms (root-are unreferred (name_at s.rows n) s.settings.meta_schema root.own own)).everywhere

  made_silent : (draft : Draft) → references (made_for draft document) ≡ []
  made_silent Draft07 = silent (for_draft07 document) (draft07-refers Never document (for_openapi Never document everywhere))
  made_silent Draft2019_09 =
      silent (for_draft2019_09 document) (draft2019_09-refers Never document (for_items unreferred document everywhere))
  made_silent Draft2020_12 = root_inlined s n w document root none all.0 all.1 all.2

pub root_inlined_for : (draft : Draft) (s : State) (n : ℕ) (w : Registry) (d : Data) → IsRootOf s n w d → IsInlinedFor draft s d
root_inlined_for draft s n w d root all none = made_silent s n w d root all none draft

-- ---- definitions

pub root_needs_none : (s : State) (n : ℕ) (w : Registry) (d : Data) → IsRootOf s n w d → NeedsNoDefinitions s (after_root s w)
root_needs_none s n w d root all none = go w.has_root_reference
  where
    go : (b : Bool) → (if b then s.definitions else w.definitions) ≡ no_members
    go true = none
    go false = (root_bare s n w d root all.0 all.1 all.2 none).0

-- ---- answers to what is asked

none_of : (xs : List Data) → All (λ x. ⊥) xs → xs ≡ []
none_of [] all = refl
none_of (x ∷ xs) all = absurd (All-head (λ x. ⊥) x xs all)

of_none : (xs : List Data) → xs ≡ [] → All (λ x. ⊥) xs
of_none xs is = subst (All (λ x. ⊥)) (sym is) (All-nil (λ x. ⊥))

-- a document that is made while no row is pending
filled_silent : (plan : Plan) (w : Registry) → plan.inlines ≡ true → IsPlainTable plan.rows → HasNoCycle plan.rows → (n : ℕ) (d : Data)
    → IsFilledOf plan false w [] n d → references d ≡ []
filled_silent plan w inlines plain free n d h =
    let R = Refers plan false w in
    let basis = basis_of_plan plan in
    let filled : IsFilled basis true R [] n d = subst (λ b. IsFilled basis b R [] n d) inlines h in
    bare_silent basis filled.0 n d plain (bare-within basis R free filled.0 [] n d (λ m is. cc) filled.1)

answer_silent : (s : State) (a : Ask) (t : Data) → InlinesAll s → IsSaid (state_plan s None) false (registry_of s) a t → references t ≡ []
answer_silent s (part n) t all h = part_inlined s n t h all.0 all.1 all.2
answer_silent s (members_of n required) t all h =
    let own : references h.0 ≡ [] =
    filled_silent (state_plan s None) (registry_of s) all.0 all.1 all.2 (without_options s.rows n) h.0 h.1 in
    ap references h.2 ∙ none_of (references (flattened_part (are_optional s.rows n required) h.0))
    (flattened_part-refers (λ x. ⊥) (are_optional s.rows n required) h.0 (of_none (references h.0) own))
answer_silent s (content n) t all (b, in_place, (d, own, inl is)) =
    ap references is.1 ∙ none_of (references (opened_inside d)) (opened_inside-refers (λ x. ⊥) d
    (of_none (references d) (filled_silent (state_plan s None) (registry_of s) all.0 all.1 all.2 n d own)))
answer_silent s (content n) t all (b, in_place, (d, own, inr is)) = part_inlined s n t is.1 all.0 all.1 all.2

from_nothing : (old new : State) (from : List Data) → from ≡ [] → AreReached (state_plan old None) true (registry_of old) (registry_of new) from
    → old.definitions ≡ no_members → new.definitions ≡ no_members
from_nothing old new from bare reached none =
    let path = (state_plan old None).path in
    let P : List Data → Type 0 = λ refs. (k : Text) (e : Data) → get_member k old.definitions ≡ None
    → get_member k new.definitions ≡ Some e → IsReached path new.definitions refs k in
    let nothing : P [] = subst P bare reached.definitions in
    no_definition path new.definitions (λ k e at. nothing k e (ap (get_member k) none) at)

-- whatever is asked: a part, the members of another map, or the content beside a tag
pub answer_needs_none : (old new : State) (a : Ask) (t : Data) → new ≡ record old { names = new.names; definitions = new.definitions }
    → IsSaid (state_plan new None) false (registry_of new) a t
    → AreNeededFor (state_plan old None) true (registry_of old) (registry_of new) a t → NeedsNoDefinitions old new
answer_needs_none old new a t same said needed all none = by a said needed
  where
    silent_answer : (b : Ask) → IsSaid (state_plan new None) false (registry_of new) b t → references t ≡ []
    silent_answer b h = answer_silent new b t (subst InlinesAll (sym same) all) h

    by : (b : Ask) → IsSaid (state_plan new None) false (registry_of new) b t
        → AreNeededFor (state_plan old None) true (registry_of old) (registry_of new) b t → new.definitions ≡ no_members
    by (part n) h need = from_nothing old new (references t) (silent_answer (part n) h) (need all.1) none
    by (members_of n required) h need =
        from_nothing old new (references need.0)
        (filled_silent (state_plan old None) (registry_of new) all.0 all.1 all.2 (without_options old.rows n) need.0 need.1) (need.2 all.1) none
    by (content n) h need =
        let own : references need.0 ≡ [] =
        filled_silent (state_plan old None) (registry_of new) all.0 all.1 all.2 n need.0 need.1 in
        from_nothing old new (references need.0 ++ references t) (λ i. own i ++ silent_answer (content n) h i) (need.2 all.1) none
