-- What a generator holds stays its own as rows join its table.
use Rattle.std.proofs.Common.{◌≡◌, ◌<◌, ◌≤◌, inl, inr, ℕ, zero, suc, List, [], ◌∷◌, take, length, Bool, false, Option, Some, None, IsSome, refl, sym, ap, ◌∙◌, arith, subst, Contains, true≢false}
use Rattle.schemars_headline.proofs.Words.{◌||◌, ◌&&◌, not, is_some, option_and_then, option_map_or, Data, Text, Entry, Shape, numbers_of, Row, entry_at, is_inline_at, option_at, rank, IsChecked, key_options, flattened_part, Basis, Template, Ask, part, members_of, content, noted, values_template, template_of, IsOwnDocument, IsPlaced, Refers, basis_of_plan, State, state_plan, registry_of, HasOwnDefinitions, row_asked, option_of, further_rows, length-take, IsContent, Fills, without_options_within, without_options, is_pending, pending_in, IsFilledWithin, StandsApart, Answers, document-wider, option_edges}
use Rattle.schemars_shapes.specs.Shape as shape
use Rattle.schemars_headline.proofs.AskedRows.{own_asked}

-- a shape's template stays as rows join that its rows' options do not depend on
template-more : (basis : Basis) (more : List Row) (kind : Shape)
    → ((n : ℕ) → Contains (numbers_of kind) n → key_options more n ≡ key_options basis.rows n)
    → template_of basis kind ≡ template_of (record basis { rows = more }) kind
template-more basis more (shape.map_from key value) same =
    ap (λ options. values_template options value) (sym (same key (0, omega arith, refl)))
template-more basis more kind same = refl

-- ---- the rows below Options

-- the row below row m, without the Options around it
abbrev found_below : List Row → ℕ → ℕ → Option ℕ → ℕ
found_below rows steps m o = elim o [ None ↦ m | Some k ↦ without_options_within rows steps k ]

module _ (rows more : List Row) (checked : IsChecked rows) (same : (m : ℕ) → m < length rows → option_at more m ≡ option_at rows m) where
  -- they are found as far down in more rows
  options_same : (few many m : ℕ) → m < length rows → rank rows m < few → few ≤ many
      → without_options_within more many m ≡ without_options_within rows few m
  options_same zero many m known low less = absurd (omega arith)
  options_same (suc few) zero m known low less = absurd (omega arith)
  options_same (suc few) (suc many) m known low less = by (option_at rows m) refl (options_same few many)
    where
      by : (o : Option ℕ) → option_at rows m ≡ o
          → ((k : ℕ) → k < length rows → rank rows k < few → few ≤ many
          → without_options_within more many k ≡ without_options_within rows few k)
          → found_below more many m (option_at more m) ≡ found_below rows few m (option_at rows m)
      by None at rest = ap (found_below more many m) (same m known ∙ at) ∙ ap (found_below rows few m) (sym at)
      by (Some k) at rest =
          let edges = option_edges rows m k at in
          let within : k < length rows = checked.within.within m k edges.0 in
          let falls = checked.rank_falls m k (edges.1, within) in
          ap (found_below more many m) (same m known ∙ at)
          ∙ (rest k within (omega arith) (omega arith) ∙ ap (found_below rows few m) (sym at))

  without_options-same : length rows ≤ length more → (m : ℕ) → m < length rows → without_options more m ≡ without_options rows m
  without_options-same longer m known = options_same (length rows) (length more) m known (checked.rank_bound m known) longer

-- a document stays one as rows join
module _ (basis : Basis) (more : List Row) (inlines : Bool) (R : ℕ → Text → Type 0)
    (all : (n : ℕ) (e : Entry) → entry_at basis.rows n ≡ Some e → entry_at more n ≡ Some e)
    (same : (n m : ℕ) (e : Entry) → entry_at basis.rows n ≡ Some e → Contains (numbers_of e.shape) m
    → key_options more m ≡ key_options basis.rows m)
    (options : (n m : ℕ) (e : Entry) → entry_at basis.rows n ≡ Some e → Contains (numbers_of e.shape) m
    → (option_at more m ≡ option_at basis.rows m) × (without_options more m ≡ without_options basis.rows m))
    (apart : (n : ℕ) (r : Text) → R n r → is_inline_at more n ≡ is_inline_at basis.rows n) where
  abbrev wider : Basis
  wider = record basis { rows = more }

  abbrev Filled : ℕ → List ℕ → ℕ → Data → Type 0
  Filled = IsFilledWithin basis inlines R

  abbrev Wider : ℕ → List ℕ → ℕ → Data → Type 0
  Wider = IsFilledWithin wider inlines R

  inline_same : (d : ℕ) (pending : List ℕ) (j : ℕ) (t : Data) → Filled d pending j t → is_inline_at more j ≡ is_inline_at basis.rows j
  unfolding IsFilledWithin
  inline_same zero pending j t h = absurd h
  inline_same (suc d) pending j t h = by (entry_at basis.rows j) refl h
    where
      by : (o : Option Entry) → entry_at basis.rows j ≡ o → IsOwnDocument (Answers basis inlines R d pending) basis o t
          → is_inline_at more j ≡ is_inline_at basis.rows j
      by None is h = absurd h
      by (Some e) is h = ap (λ o. option_map_or (λ x. x.inline) o false) (all j e is ∙ sym is)

  placed_more : (pending : List ℕ) (D E : ℕ → Data → Type 0) → ((j : ℕ) (t : Data) → D j t → E j t)
      → ((j : ℕ) (t : Data) → D j t → is_inline_at more j ≡ is_inline_at basis.rows j) → (j : ℕ) (t : Data)
      → IsPlaced basis.rows inlines pending R D j t → IsPlaced more inlines pending R E j t
  placed_more pending D E own inline j t (inl h) =
      inl (h.0, (h.1.0, ap (λ b. b || (inlines && not (is_pending pending j))) (apart j h.0 h.1.0) ∙ h.1.1), h.2)
  placed_more pending D E own inline j t (inr h) =
      inr (own j t h.0, ap (λ b. b || (inlines && not (is_pending pending j))) (inline j t h.0) ∙ h.1)

  module _ (d : ℕ) (pending : List ℕ) (deeper : (inner : List ℕ) (j : ℕ) (t : Data) → Filled d inner j t → Wider d inner j t) where
    written : (j : ℕ) (t : Data) → IsPlaced basis.rows inlines pending R (λ m. Filled d (pending_in inlines pending m) m) j t
        → IsPlaced more inlines pending R (λ m. Wider d (pending_in inlines pending m) m) j t
    written = placed_more pending (λ m. Filled d (pending_in inlines pending m) m) (λ m. Wider d (pending_in inlines pending m) m)
        (λ j. deeper (pending_in inlines pending j) j) (λ j. inline_same d (pending_in inlines pending j) j)

    content_more : (b : Bool) (j : ℕ) (t : Data)
        → IsContent b (Filled d pending j) (IsPlaced basis.rows inlines pending R (λ m. Filled d (pending_in inlines pending m) m) j) t
        → IsContent b (Wider d pending j) (IsPlaced more inlines pending R (λ m. Wider d (pending_in inlines pending m) m) j) t
    content_more b j t (s, own, inl h) = (s, deeper pending j s own, inl h)
    content_more b j t (s, own, inr h) = (s, deeper pending j s own, inr (h.0, written j t h.1))

    answer_more : (n : ℕ) (e : Entry) → entry_at basis.rows n ≡ Some e → (a : Ask) (t : Data) → Contains (numbers_of e.shape) (row_asked a)
        → Answers basis inlines R d pending a t → Answers wider inlines R d pending a t
    answer_more n e is (part j) t c h = written j t h
    answer_more n e is (members_of j required) t c h =
        let alike = options n j e is c in (
          h.0,
          subst (λ k. Wider d pending k h.0) (sym alike.1) (deeper pending (without_options basis.rows j) h.0 h.1),
          h.2 ∙ ap (λ o. flattened_part (is_some o && not required) h.0) (sym alike.0),
        )
    answer_more n e is (content j) t c h = (
      h.0,
      h.1 ∙ ap (λ b. b || inlines) (sym (inline_same d pending j h.2.0 h.2.1)),
      content_more h.0 j t h.2,
    )

  within-more : (d : ℕ) (pending : List ℕ) (n : ℕ) (s : Data) → Filled d pending n s → Wider d pending n s
  unfolding IsFilledWithin
  within-more zero pending n s h = absurd h
  within-more (suc d) pending n s h = by (within-more d) (entry_at basis.rows n) refl h
    where
      New : Ask → Data → Type 0
      New = Answers wider inlines R d pending

      by : ((inner : List ℕ) (j : ℕ) (t : Data) → Filled d inner j t → Wider d inner j t) → (o : Option Entry)
          → entry_at basis.rows n ≡ o → IsOwnDocument (Answers basis inlines R d pending) basis o s
          → IsOwnDocument New wider (entry_at more n) s
      by deeper None is h = absurd h
      by deeper (Some e) is h =
          let P : Option Entry → Type 0 = λ o. IsOwnDocument New wider o s in
          let Q : Template → Type 0 = λ t. Fills New (noted e.notes t) s in
          subst P (sym (all n e is)) (subst Q (template-more basis more e.shape (λ m c. same n m e is c))
          (own_asked (Answers basis inlines R d pending) New basis e (answer_more d pending deeper n e is) s h))

entry-in_more : (first : List Row) (k : ℕ) (rows : List Row) → take k rows ≡ first → (n : ℕ) (e : Entry) → entry_at first n ≡ Some e
    → entry_at rows n ≡ Some e
entry-in_more first k rows same n e is = go k rows n (ap (λ rs. entry_at rs n) same ∙ is)
  where
    go : (k : ℕ) (rows : List Row) (n : ℕ) → entry_at (take k rows) n ≡ Some e → entry_at rows n ≡ Some e
    go zero rows n h = cc
    go (suc k) [] n h = cc
    go (suc k) (r ∷ rows) zero h = h
    go (suc k) (r ∷ rows) (suc n) h = go k rows n h

apart_in_more : (first : List Row) (k : ℕ) (rows : List Row) → take k rows ≡ first → (n : ℕ) → StandsApart first n → StandsApart rows n
apart_in_more first k rows same n h = go k rows n (let P : List Row → Type 0 = λ rs. StandsApart rs n in subst P (sym same) h)
  where
    go : (k : ℕ) (rows : List Row) (n : ℕ) → StandsApart (take k rows) n → StandsApart rows n
    go zero rows n h = absurd (let never : n < 0 = h.0 in omega (arith, never))
    go (suc k) [] n h = absurd (let never : n < 0 = h.0 in omega (arith, never))
    go (suc k) (r ∷ rows) zero h = (omega arith, h.1)
    go (suc k) (r ∷ rows) (suc n) h =
        let here : suc n < suc (length (take k rows)) = h.0 in
        let later = go k rows n (omega (arith, here), h.1) in
        let there : n < length rows = later.0 in
        (omega (arith, there), later.1)

pub more_types_own : (s : State) (rows : List Row) → IsChecked s.rows → take (length s.rows) rows ≡ s.rows → HasOwnDefinitions s
    → HasOwnDefinitions (record s { rows = rows })
more_types_own s rows checked same own k d found =
    let h = own k d found in
    let new = record s { rows = rows } in
    record {
      row = h.row;
      is_named = h.is_named;
      is_text = h.is_text;
      pending = h.pending;
      document = document-wider (basis_of_plan (state_plan new None)) s.settings.inlines R
          (Refers (state_plan new None) false (registry_of s)) to_more
          h.pending h.row d (
            h.document.0,
            within-more (basis_of_plan (state_plan s None)) rows s.settings.inlines R
                (entry-in_more s.rows (length s.rows) rows same) stays options inline h.document.0
                (pending_in s.settings.inlines h.pending h.row) h.row d h.document.1,
          );
    }
  where
    R : ℕ → Text → Type 0
    R = Refers (state_plan s None) false (registry_of s)

    stays : (n m : ℕ) (e : Entry) → entry_at s.rows n ≡ Some e → Contains (numbers_of e.shape) m → key_options rows m ≡ key_options s.rows m
    stays n m e at c =
        let P : Option Entry → Type 0 = λ o. Contains (option_map_or (λ x. numbers_of x.shape) o []) m in
        further_rows s.rows rows checked same m (checked.within.within n m (subst P (sym at) c))

    longer : length s.rows ≤ length rows
    longer = subst (λ (rs : List Row). length rs ≤ length rows) same (length-take (length s.rows) rows)

    option_same : (m : ℕ) → m < length s.rows → option_at rows m ≡ option_at s.rows m
    option_same m known = by (entry_at s.rows m) refl (checked.defined m known)
      where
        by : (o : Option Entry) → entry_at s.rows m ≡ o → IsSome o → option_at rows m ≡ option_at s.rows m
        by None at some = absurd (true≢false (sym some))
        by (Some e) at some =
            ap (option_and_then (λ x. option_of x.shape)) (entry-in_more s.rows (length s.rows) rows same m e at ∙ sym at)

    options : (n m : ℕ) (e : Entry) → entry_at s.rows n ≡ Some e → Contains (numbers_of e.shape) m
        → (option_at rows m ≡ option_at s.rows m) × (without_options rows m ≡ without_options s.rows m)
    options n m e at c =
        let P : Option Entry → Type 0 = λ o. Contains (option_map_or (λ x. numbers_of x.shape) o []) m in
        let known : m < length s.rows = checked.within.within n m (subst P (sym at) c) in
        (option_same m known, without_options-same s.rows rows checked option_same longer m known)

    to_more : (n : ℕ) (r : Text) → Refers (state_plan s None) false (registry_of s) n r
        → Refers (state_plan (record s { rows = rows }) None) false (registry_of s) n r
    to_more n r (inl h) = cc
    to_more n r (inr h) = inr (h.0, h.1, h.2, h.3, apart_in_more s.rows (length s.rows) rows same n h.4, h.5)

    inline : (n : ℕ) (r : Text) → R n r → is_inline_at rows n ≡ is_inline_at s.rows n
    inline n r (inl h) = cc
    inline n r (inr h) = (apart_in_more s.rows (length s.rows) rows same n h.4).1 ∙ sym h.4.1
