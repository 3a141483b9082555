-- Where rows are inlined, a reference closes a cycle.
use Rattle.std.proofs.Common.{◌≡◌, inl, inr, ℕ, zero, suc, List, [], ◌∷◌, ◌++◌, Bool, true, false, Option, Some, None, refl, sym, ap, ◌∙◌, subst, arith, length, Contains, true≢false}
use Rattle.schemars_headline.proofs.Words.{◌||◌, ◌&&◌, not, option_map_or, match_ordering, Data, Members, no_members, member, get_member, Text, references, Entry, numbers_of, Row, entry_at, name_at, is_inline_at, option_at, IsPlainTable, root_document, Basis, Ask, part, members_of, content, IsOwnDocument, IsWritten, plain_rows, IsPlaced, row_asked, Registry, Refers, basis_of_plan, IsSubschema, IsReached, references-root, State, state_plan, registry_of, IsRootOf, with_definitions, ◌⊎◌, nat_eq, list_any, tied_itself, nat_list_cmp_total, eqb-true, list_any-append, insert_key, Walk, one, then, numbers_at, IsAnswered, IsContent, without_options_within, without_options, is_pending, pending_in, is_in_place, IsDocument, Answers, option_edges, by_reference, by_definition, Edge, HasNoCycle, IsInlined, Describes, IsFilledWithin}
use Rattle.schemars_headline.proofs.AskedRows.{own_asked}
use Rattle.schemars_headline.proofs.Resolving.{all_pass, described_resolved}

-- ---- walks that end at a row

abbrev pub IsAt : List Row → ℕ → ℕ → Type 0
IsAt rows n m = (m ≡ n) ⊎ Walk (Edge rows) m n

-- each pending row is row n, or leads to it
abbrev pub AllLead : List Row → List ℕ → ℕ → Type 0
AllLead rows pending n = (m : ℕ) → is_pending pending m ≡ true → IsAt rows n m

-- and so on, along an edge
leads_on : (rows : List Row) (n j m : ℕ) → Edge rows n j → IsAt rows n m → Walk (Edge rows) m j
leads_on rows n j m edge (inl same) = subst (λ k. Walk (Edge rows) k j) (sym same) (one j edge)
leads_on rows n j m edge (inr walk) = then n j walk edge

-- with row n itself
lead_within : (rows : List Row) (pending : List ℕ) (n : ℕ) → AllLead rows pending n → AllLead rows (insert_key nat_eq pending n) n
lead_within rows pending n all m is = by (list_any (nat_eq n) pending) refl
  where
    last : (a b : Bool) → is_pending pending m ≡ a → nat_eq m n ≡ b → a || (b || false) ≡ true → IsAt rows n m
    last true b e f h = all m e
    last false true e f h = inl (eqb-true m n f)
    last false false e f h = cc

    by : (b : Bool) → list_any (nat_eq n) pending ≡ b → IsAt rows n m
    by true there = let kept : insert_key nat_eq pending n ≡ pending = rw there refl in all m (sym (ap (λ ns. is_pending ns m) kept) ∙ is)
    by false there =
        let grown : insert_key nat_eq pending n ≡ pending ++ n ∷ [] = rw there refl in
        last (is_pending pending m) (nat_eq m n) refl refl
        (sym (list_any-append (nat_eq m) pending (n ∷ [])) ∙ (sym (ap (λ ns. is_pending ns m) grown) ∙ is))

placed_inlined : (a b : Bool) → a || (true && not b) ≡ false → b ≡ true
placed_inlined true b h = cc
placed_inlined false true h = refl
placed_inlined false false h = cc

-- ---- no part is a reference

abbrev pub Nothing : ℕ → Text → Type 0
Nothing n r = ⊥

module _ (rows : List Row) where
  walk_on : (n m k : ℕ) → Edge rows n m → Walk (Edge rows) m k → Walk (Edge rows) n k
  walk_on n m k edge (one _ e) = then m k (one m edge) e
  walk_on n m k edge (then j _ w e) = then j k (walk_on n m j edge w) e

  -- an Option leads to the row without the Options around it
  options_lead : (steps m : ℕ) → IsAt rows (without_options_within rows steps m) m
  options_lead zero m = inl refl
  options_lead (suc steps) m = by (option_at rows m) refl (options_lead steps)
    where
      by : (o : Option ℕ) → option_at rows m ≡ o → ((k : ℕ) → IsAt rows (without_options_within rows steps k) k)
          → IsAt rows (elim o [ None ↦ m | Some k ↦ without_options_within rows steps k ]) m
      by None at rest = inl refl
      by (Some k) at rest = elim (rest k) [
        | inl same ↦ inr (subst (λ j. Walk (Edge rows) m j) same (one k (option_edges rows m k at).0))
        | inr walk ↦ inr (walk_on m k (without_options_within rows steps k) (option_edges rows m k at).0 walk)
      ]

  further : (n j m : ℕ) → IsAt rows n m → IsAt rows j n → IsAt rows j m
  further n j m (inl same) at = subst (IsAt rows j) (sym same) at
  further n j m (inr walk) (inl same) = inr (subst (λ k. Walk (Edge rows) m k) same walk)
  further n j m (inr walk) (inr more) = inr (joined walk more)
    where
      joined : {k : ℕ} → Walk (Edge rows) m n → Walk (Edge rows) n k → Walk (Edge rows) m k
      joined w (one k e) = then n k w e
      joined w (then i k v e) = then i k (joined w v) e

module _ (basis : Basis) (R : ℕ → Text → Type 0) (free : HasNoCycle basis.rows) where
  abbrev rows : List Row
  rows = basis.rows

  abbrev Filled : ℕ → List ℕ → ℕ → Data → Type 0
  Filled = IsFilledWithin basis true R

  abbrev Bare : ℕ → ℕ → Data → Type 0
  Bare = Describes basis Nothing

  -- while these rows are pending, each of which leads to row n
  module _ (d : ℕ) (pending : List ℕ) (n : ℕ) (lead : AllLead rows pending n)
      (deeper : (inner : List ℕ) (j : ℕ) (t : Data) → AllLead rows inner j → Filled d inner j t → Bare d j t) where
    lead_to : (j : ℕ) → Edge rows n j → AllLead rows pending j
    lead_to j edge m is = inr (leads_on rows n j m edge (lead m is))

    written : (j : ℕ) (t : Data) → Edge rows n j → IsPlaced rows true pending R (λ m. Filled d (pending_in true pending m) m) j t
        → IsWritten Nothing (Bare d) j t
    written j t edge (inl g) =
        let back = lead j (placed_inlined (is_inline_at rows j) (is_pending pending j) g.1.1) in
        absurd (free j (leads_on rows n j j edge back))
    written j t edge (inr g) = inr (deeper (pending_in true pending j) j t (lead_within rows pending j (lead_to j edge)) g.0)

    content_bare : (b : Bool) (j : ℕ) (t : Data) → Edge rows n j
        → IsContent b (Filled d pending j) (IsPlaced rows true pending R (λ m. Filled d (pending_in true pending m) m) j) t
        → IsContent b (Bare d j) (IsWritten Nothing (Bare d) j) t
    content_bare b j t edge (s, own, inl h) = (s, deeper pending j s (lead_to j edge) own, inl h)
    content_bare b j t edge (s, own, inr h) = (s, deeper pending j s (lead_to j edge) own, inr (h.0, written j t edge h.1))

    answer_bare : (a : Ask) (t : Data) → Edge rows n (row_asked a) → Answers basis true R d pending a t
        → IsAnswered rows (λ m b. Unit {0}) (IsWritten Nothing (Bare d)) (Bare d) a t
    answer_bare (part j) t edge h = written j t edge h
    answer_bare (members_of j required) t edge h =
        let inside : AllLead rows pending (without_options rows j) =
        λ m is. further rows j (without_options rows j) m (lead_to j edge m is) (options_lead rows (length rows) j) in
        (h.0, deeper pending (without_options rows j) h.0 inside h.1, h.2)
    answer_bare (content j) t edge h = (h.0, tt, content_bare h.0 j t edge h.2)

  pub bare-within : (d : ℕ) (pending : List ℕ) (n : ℕ) (s : Data) → AllLead rows pending n → Filled d pending n s → Bare d n s
  unfolding IsFilledWithin Describes
  bare-within zero pending n s lead h = absurd h
  bare-within (suc d) pending n s lead h =
      by (λ inner j t inner_lead. bare-within d inner j t inner_lead) (entry_at rows n) refl h
    where
      by : ((inner : List ℕ) (j : ℕ) (t : Data) → AllLead rows inner j → Filled d inner j t → Bare d j t) → (o : Option Entry)
          → entry_at rows n ≡ o → IsOwnDocument (Answers basis true R d pending) basis o s
          → IsOwnDocument (IsAnswered rows (λ m b. Unit {0}) (IsWritten Nothing (Bare d)) (Bare d)) basis o s
      by deeper None at g = absurd g
      by deeper (Some e) at g =
          let numbers : numbers_at rows n ≡ numbers_of e.shape = ap (λ o. option_map_or (λ x. numbers_of x.shape) o []) at in
          own_asked (Answers basis true R d pending) (IsAnswered rows (λ m b. Unit {0}) (IsWritten Nothing (Bare d)) (Bare d)) basis e
          (λ a t c. answer_bare d pending n lead deeper a t (subst (λ (ms : List ℕ). Contains ms (row_asked a)) (sym numbers) c)) s g

pub no_item : (xs : List Data) → all_pass (λ x. false) xs ≡ true → xs ≡ []
no_item [] h = refl
no_item (x ∷ xs) h = cc

-- the document of a row has no part that is a reference
pub bare_document : (basis : Basis) (R : ℕ → Text → Type 0) (n : ℕ) (s : Data) → HasNoCycle basis.rows
    → IsDocument basis true R [] n s → (d : ℕ) × Describes basis Nothing d n s
bare_document basis R n s free h =
    (h.0, bare-within basis R free h.0 (pending_in true [] n) n s (lead_within basis.rows [] n (λ m is. cc)) h.1)

pub bare_silent : (basis : Basis) (d n : ℕ) (s : Data) → IsPlainTable basis.rows → Describes basis Nothing d n s → references s ≡ []
bare_silent basis d n s plain h =
    no_item (references s)
    (described_resolved (λ x. false) basis Nothing (plain_rows basis.rows plain) (λ j r never. absurd never) d n s h).1

-- so it refers to nothing
pub bare : (basis : Basis) (R : ℕ → Text → Type 0) (n : ℕ) (s : Data) → IsPlainTable basis.rows → HasNoCycle basis.rows
    → IsDocument basis true R [] n s → references s ≡ []
bare basis R n s plain free h =
    let described = bare_document basis R n s free h in bare_silent basis described.0 n s plain described.1

-- where rows are inlined and none is pending, each is in place
pub part_inlined : (s : State) (n : ℕ) (d : Data) → IsSubschema (state_plan s None) false (registry_of s) n d → IsInlined s d
part_inlined s n d (inl h) inlines plain free = absurd (true≢false (sym (inlined s.settings.inlines inlines) ∙ h.1.1))
  where
    or_true : (b : Bool) → b || true ≡ true
    or_true true = refl
    or_true false = refl

    inlined : (b : Bool) → b ≡ true → is_in_place s.rows b [] n ≡ true
    inlined b is = ap (λ x. is_in_place s.rows x [] n) is ∙ or_true (is_inline_at s.rows n)
part_inlined s n d (inr h) inlines plain free =
    let plan = state_plan s None in
    let R = Refers plan false (registry_of s) in
    bare (basis_of_plan plan) R n d plain free (subst (λ b. IsDocument (basis_of_plan plan) b R [] n d) inlines h.0)

-- ---- root documents

unreached : (path : Text) (ms : Members) (k : Text) → IsReached path ms [] k → ⊥
unreached path ms k (by_reference q is) = absurd (omega (arith, is.1))
unreached path ms k (by_definition q l d is at more) = unreached path ms l is

pub no_definition : (path : Text) (ms : Members)
    → ((k : Text) (d : Data) → get_member k ms ≡ Some d → IsReached path ms [] k) → ms ≡ no_members
no_definition path no_members all = refl
no_definition path (member k d ms) all =
    let there : get_member k (member k d ms) ≡ Some d = ap (λ o. match_ordering o (get_member k ms) (Some d) (get_member k ms))
    (tied_itself nat_list_cmp_total k) in
    absurd (unreached path (member k d ms) k (all k d there))

-- the root document is that of the row alone, which has no part that is a reference
pub root_bare : (s : State) (n : ℕ) (w : Registry) (d : Data) (root : IsRootOf s n w d) → s.settings.inlines ≡ true → IsPlainTable s.rows
    → HasNoCycle s.rows → s.definitions ≡ no_members
    → (w.definitions ≡ no_members) × ((depth : ℕ) × Describes (basis_of_plan (state_plan s (Some n))) Nothing depth n root.own)
    × (root_document (name_at s.rows n) s.settings.meta_schema root.own ≡ d)
root_bare s n w d root inlines plain free none =
    let plan = state_plan s (Some n) in
    let R = Refers plan true w in
    let described : (depth : ℕ) × Describes (basis_of_plan plan) Nothing depth n root.own =
    bare_document (basis_of_plan plan) R n root.own free
    (subst (λ b. IsDocument (basis_of_plan plan) b R [] n root.own) inlines root.is_document) in
    let own : references root.own ≡ [] = bare_silent (basis_of_plan plan) described.0 n root.own plain described.1 in
    let P : List Data → Type 0 = λ from. (k : Text) (e : Data) → get_member k s.definitions ≡ None → get_member k w.definitions ≡ Some e
    → IsReached plan.path w.definitions from k in
    let reached : P [] = subst P own (root.reached plain).definitions in
    let nothing : w.definitions ≡ no_members =
    no_definition plan.path w.definitions (λ k e at. reached k e (ap (get_member k) none) at) in
    let Q : Members → Type 0 = λ ms. with_definitions plan.path ms (root_document (name_at s.rows n) s.settings.meta_schema root.own)
    ≡ Some d in
    let same : Q no_members = subst Q nothing root.is_root in
    (nothing, described, cc)

pub root_inlined : (s : State) (n : ℕ) (w : Registry) (d : Data) → IsRootOf s n w d → s.definitions ≡ no_members → IsInlined s d
root_inlined s n w d root none inlines plain free =
    let parts = root_bare s n w d root inlines plain free none in
    let basis = basis_of_plan (state_plan s (Some n)) in
    sym (ap references parts.2)
    ∙ (references-root (name_at s.rows n) s.settings.meta_schema root.own ∙ bare_silent basis parts.1.0 n root.own plain parts.1.1)
