-- Units that become objects, call by call.
use Rattle.std.proofs.Common.{◌≡◌, ℕ, ◌+◌, ◌<◌, ◌≤◌, List, [], ◌∷◌, ◌++◌, Option, Some, None, false, length, get_or, drop, refl, sym, ap, ◌∙◌}
use Rattle.schemars_flatten.proofs.Words.{codes, if◌then◌else◌, option_map, option_and_then, Data, Items, no_items, item, get, as_str, as_array, view, items_view, Text, removed, nothing_left, from_here, appended, has_type, unit_object, unit_object_first, unit_objects, units_of, with_units, first_as_objects, list_changed_at, units_as_objects}
use Rattle.serde_json.specs.declared.value.Value.{Value}
use Rattle.schemars_flatten.proofs.Parts.{appended_none, appended_more}

appended_assoc : (a b c : Items) → appended (appended a b) c ≡ appended a (appended b c)
appended_assoc no_items b c = refl
appended_assoc (item d a) b c = ap (item d) (appended_assoc a b c)

first_then : (o : Option Text) (rest : Items) → appended (unit_object_first o no_items) rest ≡ unit_object_first o rest
first_then None rest = refl
first_then (Some name) rest = refl

pub unit_pushed : (xs : List Value) (x : Value) (o : Option Text) (name : Text) → Some name ≡ o
    → view x ≡ unit_object name
    → items_view (xs ++ x ∷ []) ≡ appended (items_view xs) (unit_object_first o no_items)
unit_pushed xs x o name found is =
    sym (appended_none (items_view (xs ++ x ∷ []))) ∙ (appended_more xs x no_items ∙ go o found)
  where
    go : (p : Option Text) → Some name ≡ p
        → appended (items_view xs) (item (view x) no_items) ≡ appended (items_view xs) (unit_object_first p no_items)
    go None h = cc
    go (Some t) h =
        let same : name ≡ t = cc in ap (λ d. appended (items_view xs) (item d no_items)) (is ∙ ap unit_object same)

pub no_unit : (xs : List Value) (o : Option Text) → None ≡ o
    → items_view xs ≡ appended (items_view xs) (unit_object_first o no_items)
no_unit xs None h = sym (appended_none (items_view xs))
no_unit xs (Some t) h = cc

-- one turn: the object of the next text, if it is one, has joined
pub unit_turn : (xs : List Value) (i : ℕ) (x : Value) (all done next : Items) → i < length xs → x ≡ get_or xs i x
    → next ≡ appended done (unit_object_first (as_str (view x)) no_items)
    → appended done (unit_objects (items_view (drop i xs))) ≡ all
    → appended next (unit_objects (items_view (drop (i + 1) xs))) ≡ all
unit_turn xs i x all done next within is step before =
    let rest = items_view (drop (i + 1) xs) in
    let o = as_str (view x) in
    ap (λ ds. appended ds (unit_objects rest)) step
    ∙ (appended_assoc done (unit_object_first o no_items) (unit_objects rest)
    ∙ (ap (appended done) (first_then o (unit_objects rest))
    ∙ (ap (λ ds. appended done (unit_objects ds)) (sym (from_here xs i x within is)) ∙ before)))

pub units_end : (xs : List Value) (i : ℕ) (all done : Items) → length xs ≤ i
    → appended done (unit_objects (items_view (drop i xs))) ≡ all → done ≡ all
units_end xs i all done end before =
    sym (appended_none done) ∙ (ap (λ ds. appended done (unit_objects ds)) (sym (nothing_left xs i end)) ∙ before)

-- ---- in a schema

pub units_missing : (s new : Data) → None ≡ units_of s → new ≡ list_changed_at (codes "oneOf") first_as_objects s
    → new ≡ units_as_objects s
units_missing s new missing made = made ∙ go (units_of s) missing
  where
    go : (o : Option Items) → None ≡ o → list_changed_at (codes "oneOf") first_as_objects s ≡ elim o [
      | None ↦ list_changed_at (codes "oneOf") first_as_objects s
      | Some units ↦ with_units units (removed (codes "type") (removed (codes "enum") s))
    ]
    go None h = refl
    go (Some units) h = cc

pub no_units : (s : Data) → has_type (codes "string") s ≡ false → None ≡ units_of s
no_units s h =
    ap (λ b. if b then option_map unit_objects (option_and_then as_array (get (codes "enum") s)) else None) (sym h)
