-- Where the references of a table's documents lead: to the root, or to the definition of their row.
use Rattle.std.proofs.Common.{◌≡◌, ◌⊎◌, inl, inr, ℕ, suc, ◌+◌, ◌*◌, ◌<◌, ◌≤◌, List, [], ◌∷◌, ◌++◌, map, Option, Some, None, true, Contains, length, refl, sym, ap, ◌∙◌, arith, subst}
use Rattle.schemars_headline.proofs.Words.{codes, is_some, IsUtf8, Data, object, Members, no_members, member, depth, get_member, members_len, Text, IsSchema, lookup, Patterns, Judge, judge, draft2020_12, count_of_definitions, context2020_12, Shape, Flattened, Entry, Payload, Variant, struct_payload, Row, entry_at, rank, IsChecked, IsWritten, Describes, IsPlainUnder, IsOneToOne, name_of, Plan, Registry, IsKey, reference_to, basis_of_plan, AcceptsItsValues, describes-wider, described, mul-le-mul_left, Contains-append_left, Contains-append_right, lookup-encoded, Tagging, payload_flattened, payload_same, payload_same_by, of_variants, same_value_numbers, entry_low, parts_in, payload_parts, variant_parts, Naming, written_map, IsNewtypeIn, IsSame, References, InList, Setting, written_says, settled, is-schema, lookup-whole, resolved}
use Rattle.schemars_shapes.specs.Shape as shape
use Rattle.schemars_types.proofs.Asked.{asked}
use Rattle.schemars_headline.proofs.Keys.{key_here, key_later, key_cases}
use Rattle.schemars_headline.proofs.Standing.{MayRefer, AllStand}

-- ---- ranks

-- the row of a newtype variant that has the value itself is among those of the variants
newtype_number : (xs : List Variant) (j : ℕ) → IsNewtypeIn j xs → Contains (of_variants payload_same xs) j
newtype_number [] j same = absurd same
newtype_number (x ∷ xs) j (inl is) =
    let here : Contains (payload_same x.payload) j = subst (λ p. Contains (payload_same p) j) (sym is) (0, omega arith, refl) in
    Contains-append_left (payload_same x.payload) (of_variants payload_same xs) j here
newtype_number (x ∷ xs) j (inr later) = Contains-append_right (payload_same x.payload) (of_variants payload_same xs) j
    (newtype_number xs j later)

-- a part that has the row's own values is among its numbers
same_number : (kind : Shape) (j : ℕ) → IsSame kind j → Contains (same_value_numbers kind) j
same_number (shape.option i) j same = (0, omega arith, sym same)
same_number (shape.newtype i) j same = (0, omega arith, sym same)
same_number (shape.enum shape.by_nothing xs) j same = newtype_number xs j same
same_number (shape.enum (shape.by_tag tag closed) xs) j same = newtype_number xs j same
same_number kind j same = absurd same

rank_below : (rows : List Row) → IsChecked rows → (n : ℕ) (e : Entry) (j : ℕ) → entry_at rows n ≡ Some e → IsSame e.shape j
    → rank rows j < rank rows n
rank_below rows checked n e j at same =
    checked.rank_falls n j (asked rows checked.within n e at j (same_number e.shape j same))

-- a part that is flattened is among them too
flattened_case : (ps : List Flattened) → (ps ≡ []) ⊎ ((j : ℕ) × Contains (map (λ p. p.ty) ps) j)
flattened_case [] = inl refl
flattened_case (p ∷ ps) = inr (p.ty, (0, omega arith, refl))

payload_case : (p : Payload) → (payload_parts p ≡ []) ⊎ ((j : ℕ) × Contains (payload_flattened p) j)
payload_case (struct_payload x) = flattened_case x.flatten
payload_case _ = inl refl

same_case : (p : Payload) → (payload_parts p ≡ []) ⊎ ((j : ℕ) × Contains (payload_same p) j)
same_case (struct_payload x) = flattened_case x.flatten
same_case _ = inl refl

variants_case : (rows_of : Payload → List ℕ) → ((p : Payload) → (payload_parts p ≡ []) ⊎ ((j : ℕ) × Contains (rows_of p) j))
    → (xs : List Variant) → (variant_parts xs ≡ []) ⊎ ((j : ℕ) × Contains (of_variants rows_of xs) j)
variants_case rows_of each [] = inl refl
variants_case rows_of each (x ∷ xs) = go (each x.payload) (variants_case rows_of each xs)
  where
    go : (payload_parts x.payload ≡ []) ⊎ ((j : ℕ) × Contains (rows_of x.payload) j)
        → (variant_parts xs ≡ []) ⊎ ((j : ℕ) × Contains (of_variants rows_of xs) j)
        → (payload_parts x.payload ++ variant_parts xs ≡ []) ⊎ ((j : ℕ) × Contains (rows_of x.payload ++ of_variants rows_of xs) j)
    go (inl none) (inl nothing) = inl (λ i. none i ++ nothing i)
    go (inl none) (inr (j, later)) = inr (j, Contains-append_right (rows_of x.payload) (of_variants rows_of xs) j later)
    go (inr (j, here)) rest = inr (j, Contains-append_left (rows_of x.payload) (of_variants rows_of xs) j here)

case_by : (t : Tagging) (p : Payload) → (payload_parts p ≡ []) ⊎ ((j : ℕ) × Contains (payload_same_by t p) j)
case_by shape.by_name = payload_case
case_by shape.by_nothing = same_case
case_by (shape.by_tag tag closed) = same_case
case_by (shape.by_tag_and_content tag key closed) = payload_case

shape_case : (kind : Shape) → (parts_in kind ≡ []) ⊎ ((j : ℕ) × Contains (same_value_numbers kind) j)
shape_case (shape.struct x) = flattened_case x.flatten
shape_case (shape.enum tagging xs) = variants_case (payload_same_by tagging) (case_by tagging) xs
shape_case kind = inl refl

ranks_above : (rows : List Row) → IsChecked rows → (n : ℕ) (e : Entry) → entry_at rows n ≡ Some e
    → (parts_in e.shape ≡ []) ⊎ (0 < rank rows n)
ranks_above rows checked n e at = go (shape_case e.shape)
  where
    go : (parts_in e.shape ≡ []) ⊎ ((j : ℕ) × Contains (same_value_numbers e.shape) j) → (parts_in e.shape ≡ []) ⊎ (0 < rank rows n)
    go (inl none) = inl none
    go (inr (j, among)) = inr (omega (arith, checked.rank_falls n j (asked rows checked.within n e at j among)))

-- ---- what a reference leads to

resolved_found : (document : Data) (r : Text) (d : Data) → lookup r document ≡ Some d → IsSchema d → resolved document r ≡ Some d
unfolding resolved
resolved_found document r d found is = rw (found, is-schema d is)

-- ---- the references to definitions, one for each

module _ (plan : Plan) (names : Naming) where
  abbrev RowNamed : Text → Type 0
  RowNamed k = (row : ℕ) × (name_of row plan.contract names ≡ Some k)

  references_of : (ms : Members) → ((k : Text) → IsKey k ms → RowNamed k) → References
  references_of no_members row = []
  references_of (member k d ms) row = ((row k (key_here k d ms)).0, reference_to plan.path k)
      ∷ references_of ms (λ j is. row j (key_later j k d ms is))

  references_len : (ms : Members) (row : (k : Text) → IsKey k ms → RowNamed k) → length (references_of ms row) ≡ members_len ms
  unfolding references_of
  references_len no_members row = refl
  references_len (member k d ms) row = ap suc (references_len ms (λ j is. row j (key_later j k d ms is)))

  -- a row's reference by the name of its definition
  abbrev NamedReference : Members → ℕ → Text → Type 0
  NamedReference ms j r = (name : Text) × (name_of j plan.contract names ≡ Some name) × IsKey name ms × (r ≡ reference_to plan.path name)

  named_from : (ms : Members) (row : (k : Text) → IsKey k ms → RowNamed k) (j : ℕ) (r : Text) → InList (references_of ms row) j r
      → NamedReference ms j r
  unfolding references_of
  named_from no_members row j r h = absurd h
  named_from (member k d ms) row j r (inl h) =
      let P : ℕ → Type 0 = λ i. name_of i plan.contract names ≡ Some k in
      (k, subst P h.0 (row k (key_here k d ms)).1, key_here k d ms, sym h.1)
  named_from (member k d ms) row j r (inr h) = let n = named_from ms (λ i is. row i (key_later i k d ms is)) j r h in
      (n.0, n.1, key_later n.0 k d ms n.2, n.3)

  named_in : IsOneToOne names → (ms : Members) (row : (k : Text) → IsKey k ms → RowNamed k) (j : ℕ) (r : Text) → NamedReference ms j r
      → InList (references_of ms row) j r
  unfolding references_of
  named_in one no_members row j r h = cc (h.2.1)
  named_in one (member k d ms) row j r h = elim (key_cases h.0 k d ms h.2) [
    | inl same ↦
        let here = row k (key_here k d ms) in
        inl ((one.one_row here.0 j plan.contract plan.contract k here.1 (h.1 ∙ ap Some same)).0, rw (h.3, same) refl)
    | inr later ↦ inr (named_in one ms (λ i is. row i (key_later i k d ms is)) j r (h.0, h.1, later, h.3))
  ]

-- ---- all references

with_root : Option ℕ → References → References
with_root None refs = refs
with_root (Some n) refs = (n, codes "#") ∷ refs

with_root_len : (root : Option ℕ) (refs : References) → length (with_root root refs) ≤ length refs + 1
unfolding with_root
with_root_len None refs = omega arith
with_root_len (Some n) refs = omega arith

listed_root : (root : Option ℕ) (refs : References) (n : ℕ) → root ≡ Some n → InList (with_root root refs) n (codes "#")
unfolding with_root
listed_root None refs n is = cc
listed_root (Some m) refs n is = let same : m ≡ n = cc in inl (same, refl)

listed_later : (root : Option ℕ) (refs : References) (j : ℕ) (r : Text) → InList refs j r → InList (with_root root refs) j r
unfolding with_root
listed_later None refs j r h = h
listed_later (Some n) refs j r h = inr h

listed_cases : (root : Option ℕ) (refs : References) (j : ℕ) (r : Text) → InList (with_root root refs) j r
    → ((root ≡ Some j) × (r ≡ codes "#")) ⊎ InList refs j r
unfolding with_root
listed_cases None refs j r h = inr h
listed_cases (Some n) refs j r (inl h) = inl (ap Some h.0, sym h.1)
listed_cases (Some n) refs j r (inr h) = inr h

-- the definitions are found by their references in this document, and the bound counts them
pub record HoldsDefinitions (path : Text) (definitions : Members) (document : Data) : Type 0 where
  pub leads : (name : Text) (d : Data) → IsUtf8 name → get_member name definitions ≡ Some d
      → lookup (reference_to path name) document ≡ Some d
  pub counts : members_len definitions ≤ count_of_definitions path document

-- so it is where they are at the path
pub holds_at : (path : Text) (definitions : Members) (document : Data) → lookup (35 ∷ path) document ≡ Some (object definitions)
    → members_len definitions ≤ count_of_definitions path document
    → HoldsDefinitions path definitions document
holds_at path definitions document found counts = record {
  leads = λ name d text is. lookup-encoded (35 ∷ path) name document definitions text found ∙ is;
  counts = counts;
}

-- the root is the document itself, or says the same
abbrev pub IsItsRoot : Plan → Registry → Data → Type 0
IsItsRoot plan w document =
    (n : ℕ) → plan.root ≡ Some n
    → (own : Data) × (depth : ℕ) × ((patterns : Patterns) (f : Text → Judge)
    → judge (context2020_12 patterns f) document ≡ judge (context2020_12 patterns f) own) × IsSchema document
    × Describes (basis_of_plan plan) (MayRefer plan w) depth n own

bound_enough : (a len defs counted n : ℕ) → len ≤ defs + 1 → defs ≤ counted → (a + 1) * (counted + 2) ≤ n → (a + 1) * (len + 1) ≤ n
bound_enough a len defs counted n few less h = grind (arith, mul-le-mul_left)

module _ (plan : Plan) (w : Registry) (document : Data) (checked : IsChecked plan.rows) (plain : IsPlainUnder plan.contract plan.rows)
    (one : IsOneToOne w.names) (definitions : AllStand plan w)
    (holds : HoldsDefinitions plan.path w.definitions document) (is_root : IsItsRoot plan w document) where
  abbrev row_named : (k : Text) → IsKey k w.definitions → RowNamed plan w.names k
  row_named k is = let d = definitions k is.0 is.1 in (d.row, d.is_named)

  to_definitions : References
  to_definitions = references_of plan w.names w.definitions row_named

  refs : References
  refs = with_root plan.root to_definitions

  refs_len : length refs ≤ members_len w.definitions + 1
  unfolding refs to_definitions
  refs_len = omega (
    arith,
    with_root_len plan.root (references_of plan w.names w.definitions row_named),
    references_len plan w.names w.definitions row_named,
  )

  refers_listed : (j : ℕ) (r : Text) → MayRefer plan w j r → InList refs j r
  unfolding refs to_definitions
  refers_listed j r (inl (inl h)) = rw (h.2) (listed_root plan.root (references_of plan w.names w.definitions row_named) j h.0)
  refers_listed j r (inl (inr h)) = listed_later plan.root (references_of plan w.names w.definitions row_named) j r
      (named_in plan w.names one w.definitions row_named j r (h.0, h.1, h.2, h.3))
  refers_listed j r (inr (inl h)) = cc
  refers_listed j r (inr (inr h)) = listed_later plan.root (references_of plan w.names w.definitions row_named) j r
      (named_in plan w.names one w.definitions row_named j r (h.0, h.1, h.2, h.3))

  -- the root by `#`, or a row by the name of its definition
  abbrev Leads : ℕ → Text → Type 0
  Leads j r = ((plan.root ≡ Some j) × (r ≡ codes "#")) ⊎ NamedReference plan w.names w.definitions j r

  listed_leads : (j : ℕ) (r : Text) → InList refs j r → Leads j r
  unfolding refs to_definitions
  listed_leads j r h = elim (listed_cases plan.root (references_of plan w.names w.definitions row_named) j r h) [
    | inl root ↦ inl root
    | inr named ↦ inr (named_from plan w.names w.definitions row_named j r named)
  ]

  refers_leads : (j : ℕ) (r : Text) → MayRefer plan w j r → Leads j r
  refers_leads j r (inl (inl h)) = inl (h.0, h.2)
  refers_leads j r (inl (inr h)) = inr (h.0, h.1, h.2, h.3)
  refers_leads j r (inr (inl h)) = cc
  refers_leads j r (inr (inr h)) = inr (h.0, h.1, h.2, h.3)

  abbrev D : ℕ → ℕ → Data → Type 0
  D = Describes (basis_of_plan plan) (MayRefer plan w)

  -- found, and what it says the same as, which describes the row
  abbrev LeadsTo : ℕ → Text → Type 0
  LeadsTo j r =
      (found : Data) × (s : Data) × (d : ℕ) × (resolved document r ≡ Some found)
      × ((patterns : Patterns) (f : Text → Judge) → judge (context2020_12 patterns f) found ≡ judge (context2020_12 patterns f) s)
      × D d j s

  leads_root : (j : ℕ) → plan.root ≡ Some j → LeadsTo j (codes "#")
  leads_root j is = let root = is_root j is in (
    document,
    root.0,
    root.1,
    resolved_found document (codes "#") document (lookup-whole document) root.3,
    root.2,
    root.4,
  )

  leads_named : (j : ℕ) (name : Text) (d : Data) → name_of j plan.contract w.names ≡ Some name → get_member name w.definitions ≡ Some d
      → LeadsTo j (reference_to plan.path name)
  leads_named j name d named found =
      let definition = definitions name d found in
      let same : definition.row ≡ j = (one.one_row definition.row j plan.contract plan.contract name definition.is_named named).0 in
      let P : ℕ → Type 0 = λ i. D definition.depth i d in
      let describes : D definition.depth j d = subst P same definition.describes in (
        d,
        d,
        definition.depth,
        resolved_found document (reference_to plan.path name) d (holds.leads name d definition.is_text found)
            (described (basis_of_plan plan) (MayRefer plan w) definition.depth j d describes),
        λ patterns f. refl,
        describes,
      )

  leads_to : (j : ℕ) (r : Text) → Leads j r → LeadsTo j r
  leads_to j r (inl h) = rw (h.1) (leads_root j h.0)
  leads_to j r (inr h) = rw (h.3) (leads_named j h.0 h.2.0 h.1 h.2.1)

  pub refers_resolve : (j : ℕ) (r : Text) → MayRefer plan w j r → is_some (resolved document r) ≡ true
  refers_resolve j r h = let to = leads_to j r (refers_leads j r h) in rw (to.3)

  setting : Patterns → Setting
  setting patterns = record {
    basis = basis_of_plan plan;
    patterns = patterns;
    document = document;
    refs = refs;
    resolves = λ j r is.
        let to = leads_to j r (listed_leads j r is) in (
          to.0,
          to.1,
          to.2,
          to.3,
          to.4 patterns,
          describes-wider (basis_of_plan plan) (MayRefer plan w) (InList refs)
              refers_listed to.2 to.2 (omega arith) j to.1 to.5,
        );
    settled = settled (basis_of_plan plan) checked plain;
    rank = rank plan.rows;
    ranks = length plan.rows;
    low_rank = λ n e at. checked.rank_bound n (entry_low plan.rows n e at);
    ranked = rank_below plan.rows checked;
    flattens = ranks_above plan.rows checked;
  }

  -- what is written for a row accepts just its values
  pub written_accepts : (d n : ℕ) (t : Data) → IsWritten (MayRefer plan w) (D d) n t
      → AcceptsItsValues draft2020_12 plan.rows plan.contract plan.path n document t
  unfolding setting
  written_accepts d n t h patterns v json followed bounded =
      let listed = written_map (MayRefer plan w) (InList refs) (D d) (Describes (basis_of_plan plan) (InList refs) d)
      refers_listed (describes-wider (basis_of_plan plan) (MayRefer plan w) (InList refs) refers_listed d d
      (omega arith)) n t h in
      written_says (setting patterns) d n t listed v json followed ((depth v + 1) * length plan.rows)
      (bound_enough (depth v) (length refs) (members_len w.definitions) (count_of_definitions plan.path document) followed refs_len
      holds.counts bounded) (omega arith)
