-- A rewrite from the bottom up, call by call.
use Rattle.std.proofs.Common.{◌≡◌, ℕ, zero, suc, ◌+◌, ◌<◌, ◌≤◌, max, List, [], ◌∷◌, length, get_or, take, drop, set, Some, None, sym, ap, ◌∙◌, refl, add-one, arith}
use Rattle.schemars_walk.proofs.Words.{Data, boolean, array, object, Items, no_items, item, Members, no_members, member, depth, items_depth, as_array, as_object, view, items_view, Text, IsSchema, SchemaList, SchemaOrList, SchemasByName, nothing_left, array-as_array, not_array, object-as_object, not_object, Rules, form_at, forms, in_items, in_names, in_keywords, read_at, as_schema_in, rewritten, with_subschemas}
use Rattle.serde_json.specs.declared.value.Value.{Value}
use Rattle.schemars_walk.proofs.Walks.{then_items, then_items-none, item_written, items_from, all_taken}

-- ---- depths

pub depth_at : (xs : List Value) (i : ℕ) (d : Value) → i < length xs → depth (view (get_or xs i d)) ≤ items_depth (items_view (drop i xs))
depth_at [] i d h = absurd (omega arith)
depth_at (x ∷ xs) zero d h = omega arith
depth_at (x ∷ xs) (suc i) d h = depth_at xs i d (omega arith)

pub depth_past : (xs : List Value) (i : ℕ) (v : Value) → i < length xs
    → items_depth (items_view (drop (i + 1) (set xs i v))) ≤ items_depth (items_view (drop i xs))
depth_past xs i v h =
    let same : items_depth (items_view (drop i xs)) ≡ max (depth (view (get_or xs i v))) (items_depth (items_view (drop (suc i) (set xs i
    v)))) = ap items_depth (items_from xs i v v h) in
    rw add-one (omega arith)

-- ---- loops

module _ (f : Items → Items) (g : Data → Data) (cons : (d : Data) (ds : Items) → f (item d ds) ≡ item (g d) (f ds)) where
  pub item_done : (all : Items) (xs : List Value) (i : ℕ) (d v : Value) → i < length xs → view v ≡ g (view (get_or xs i d))
      → then_items (items_view (take i xs)) (f (items_view (drop i xs))) ≡ all
      → then_items (items_view (take (i + 1) (set xs i v))) (f (items_view (drop (i + 1) (set xs i v)))) ≡ all
  item_done all xs i d v within call before =
      rw add-one (item_written xs i v (f (items_view (drop (suc i) (set xs i v)))) within
      ∙ ap (then_items (items_view (take i xs))) (ap (λ e. item e (f (items_view (drop (suc i) (set xs i v))))) call ∙ sym (cons (view
      (get_or xs i d)) (items_view (drop (suc i) (set xs i v)))) ∙ ap f (sym (items_from xs i v d within)))
      ∙ before)

module _ (f : Items → Items) (nothing : f no_items ≡ no_items) where
  pub items_done : (all : Items) (xs : List Value) (i : ℕ) → length xs ≤ i
      → then_items (items_view (take i xs)) (f (items_view (drop i xs))) ≡ all → items_view xs ≡ all
  items_done all xs i end before =
      sym (all_taken xs i end) ∙ sym (then_items-none (items_view (take i xs))) ∙ ap (then_items (items_view (take i xs))) (sym nothing ∙
      ap f (sym (nothing_left xs i end))) ∙ before

-- ---- the function, case by case

module _ {R : Type 0} (ρ : Rules R) (r : R) where
  pub keywords_more : (k : Text) (d : Data) (ms : Members) → in_keywords ρ r (member k d ms) ≡ member k (form_at (ρ.place r k d) d (forms
      ρ r d)) (in_keywords ρ r ms)
  unfolding in_keywords
  keywords_more k d ms = refl

  pub keywords_none : in_keywords ρ r no_members ≡ no_members
  unfolding in_keywords
  keywords_none = refl

  pub names_more : (k : Text) (d : Data) (ms : Members) → in_names ρ r (member k d ms) ≡ member k (forms ρ r d).as_schema (in_names ρ r ms)
  unfolding in_names
  names_more k d ms = refl

  pub names_none : in_names ρ r no_members ≡ no_members
  unfolding in_names
  names_none = refl

  pub items_more : (d : Data) (ds : Items) → in_items ρ r (item d ds) ≡ item (forms ρ r d).as_schema (in_items ρ r ds)
  unfolding in_items
  items_more d ds = refl

  pub items_none : in_items ρ r no_items ≡ no_items
  unfolding in_items
  items_none = refl

  pub a_list : (d : Data) (ds : Items) → Some ds ≡ as_array d → array (in_items ρ r ds) ≡ read_at ρ SchemaList r d
  unfolding forms
  a_list d ds e = rw (array-as_array d ds e) refl

  pub no_list : (d : Data) → None ≡ as_array d → d ≡ read_at ρ SchemaList r d
  unfolding forms
  no_list d e = not_array (λ d. d ≡ read_at ρ SchemaList r d) refl (λ b. refl) (λ n. refl) (λ s. refl) (λ ms. refl) d e

  pub either_list : (d : Data) (ds : Items) → Some ds ≡ as_array d → array (in_items ρ r ds) ≡ read_at ρ SchemaOrList r d
  unfolding forms
  either_list d ds e = rw (array-as_array d ds e) refl

  pub either_schema : (d : Data) → None ≡ as_array d → as_schema_in ρ r d ≡ read_at ρ SchemaOrList r d
  unfolding forms
  either_schema d e =
      not_array (λ d. as_schema_in ρ r d ≡ read_at ρ SchemaOrList r d) refl (λ b. refl) (λ n. refl) (λ s. refl) (λ ms. refl) d e

  pub some_names : (d : Data) (ms : Members) → Some ms ≡ as_object d → object (in_names ρ r ms) ≡ read_at ρ SchemasByName r d
  unfolding forms
  some_names d ms e = rw (object-as_object d ms e) refl

  pub no_names : (d : Data) → None ≡ as_object d → d ≡ read_at ρ SchemasByName r d
  unfolding forms
  no_names d e = not_object (λ d. d ≡ read_at ρ SchemasByName r d) refl (λ b. refl) (λ n. refl) (λ s. refl) (λ ds. refl) d e

  pub no_schema : (d : Data) → ¬ IsSchema d → d ≡ as_schema_in ρ r d
  unfolding forms
  no_schema (boolean b) e = absurd (e tt)
  no_schema (object ms) e = absurd (e tt)
  no_schema _ e = refl

  pub rewritten_by : (d : Data) → IsSchema d → rewritten ρ r d ≡ ρ.finish (ρ.inside r d) (with_subschemas ρ (ρ.inside r d) d)
  unfolding forms
  rewritten_by (boolean b) e = refl
  rewritten_by (object ms) e = refl
  rewritten_by _ e = absurd e

  pub subschemas_of_object : (d : Data) (ms : Members) → Some ms ≡ as_object d → object (in_keywords ρ r ms) ≡ with_subschemas ρ r d
  subschemas_of_object d ms e = rw (object-as_object d ms e) refl
