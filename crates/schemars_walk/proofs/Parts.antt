-- The members of an object in parts.
use Rattle.std.proofs.Common.{◌≡◌, ℕ, zero, suc, ◌+◌, ◌<◌, ◌≤◌, max, List, [], ◌∷◌, ◌++◌, length, get_or, take, drop, set, map, zip, Bool, true, cond, String, Global, string_bytes, refl, sym, ap, ◌∙◌, add-one, arith}
use Rattle.schemars_walk.proofs.Words.{keys_of, values_of, RetainsPairs, Data, Items, item, Members, no_members, member, depth, items_depth, members_depth, view, items_view, members_view, Entry, Text, Place, nothing_left, place_meant, all_unread, member_places, in_places, Rules, form_at, forms, in_items, in_names, in_keywords}
use Rattle.serde_json.specs.declared.value.Value.{Value}
use Rattle.schemars_walk.specs.declared.rewrite.place.Place as place
use Rattle.schemars_walk.proofs.Walks.{then_items, then_items-none, item_written, items_from, all_taken}
use Rattle.schemars_walk.proofs.Rewrites.{keywords_more, keywords_none, names_more, names_none, items_more}

-- a closure that writes over each value with the next one of a list, and answers `true`
module _ {F : Type 0} (T : F → String Global → Value → Bool → Value → F → Type 0) (next : F → List Value)
    (each : (c : F) (k : String Global) (v : Value) (b : Bool) (w : Value) (d : F) (x : Value) (xs : List Value) → next c ≡ x ∷ xs
    → T c k v b w d → (b ≡ true) × (w ≡ x) × (next d ≡ xs)) where
  pub all_filled : (c : F) (es kept : List Entry) (xs : List Value) → next c ≡ xs → length xs ≡ length es → RetainsPairs T c es kept
      → kept ≡ zip (keys_of es) xs
  all_filled c [] kept [] is full r = r
  all_filled c [] kept (x ∷ xs) is full r = absurd (omega (arith, full))
  all_filled c (e ∷ es) kept [] is full r = absurd (omega (arith, full))
  all_filled c (e ∷ es) kept (x ∷ xs) is full r =
      let told = each c e.0 e.1 r.0 r.1 r.2 x xs is r.4 in
      let rest : r.3 ≡ zip (keys_of es) xs = all_filled r.2 es r.3 xs told.2 (omega (arith, full)) r.5 in
      r.6 ∙ ap (λ b. cond b ((e.0, r.1) ∷ r.3) r.3) told.0 ∙ ap (λ w. (e.0, w) ∷ r.3) told.1 ∙ ap (λ es. (e.0, x) ∷ es) rest

-- ---- loops that gather places and values

pub none_left : {A : Type 0} (xs : List A) → xs ≡ xs ++ []
none_left [] = refl
none_left (x ∷ xs) = ap (λ ys. x ∷ ys) (none_left xs)

pub nothing_in : {A : Type 0} (xs : List A) → length xs ≡ 0 → xs ≡ []
nothing_in [] h = refl
nothing_in (x ∷ xs) h = absurd (omega (arith, h))

one_more : {A : Type 0} (xs : List A) (x : A) (ys : List A) → (xs ++ x ∷ []) ++ ys ≡ xs ++ x ∷ ys
one_more [] x ys = refl
one_more (y ∷ xs) x ys = ap (λ zs. y ∷ zs) (one_more xs x ys)

pub value_added : {A : Type 0} (done now : List A) (x : A) (more : List A) → now ≡ done ++ x ∷ [] → now ++ more ≡ done ++ x ∷ more
value_added done now x more pushed = ap (λ xs. xs ++ more) pushed ∙ one_more done x more

meant_more : (ps : List place.Place) (p : place.Place) (more : List Place) → map place_meant (ps ++ p ∷ []) ++ more
    ≡ map place_meant ps ++ place_meant p ∷ more
meant_more [] p more = refl
meant_more (q ∷ ps) p more = ap (λ ys. place_meant q ∷ ys) (meant_more ps p more)

pub place_added : (at : Text → Data → Place) (done now : List place.Place) (p : place.Place) (e : Entry) (es : List Entry)
    → now ≡ done ++ p ∷ [] → place_meant p ≡ at (string_bytes e.0) (view e.1)
    → map place_meant now ++ member_places at (members_view es) ≡ map place_meant done ++ member_places at (members_view (e ∷ es))
place_added at done now p e es pushed here =
    ap (λ ps. map place_meant ps ++ member_places at (members_view es)) pushed
    ∙ meant_more done p (member_places at (members_view es))
    ∙ ap (λ q. map place_meant done ++ q ∷ member_places at (members_view es)) here

-- ---- members in parts and together again

pub as_many : (at : Text → Data → Place) (ps : List place.Place) (es : List Entry) → map place_meant ps ≡ member_places at (members_view es)
    → length ps ≡ length (values_of es)
as_many at [] [] h = refl
as_many at [] (e ∷ es) h = cc
as_many at (p ∷ ps) [] h = cc
as_many at (p ∷ ps) (e ∷ es) h = let rest : map place_meant ps ≡ member_places at (members_view es) = cc in ap suc (as_many at ps es rest)

pub depth_of_values : (es : List Entry) → items_depth (items_view (values_of es)) ≡ members_depth (members_view es)
depth_of_values [] = refl
depth_of_values (e ∷ es) = ap (λ n. max (depth (view e.1)) n) (depth_of_values es)

place_from : (ps : List place.Place) (i : ℕ) (d : place.Place) → i < length ps → drop i ps ≡ get_or ps i d ∷ drop (suc i) ps
place_from [] i d h = absurd (omega arith)
place_from (p ∷ ps) zero d h = refl
place_from (p ∷ ps) (suc i) d h = place_from ps i d (omega arith)

no_place_left : (ps : List place.Place) (i : ℕ) → length ps ≤ i → drop i ps ≡ []
no_place_left [] zero h = refl
no_place_left [] (suc i) h = refl
no_place_left (p ∷ ps) zero h = absurd (omega arith)
no_place_left (p ∷ ps) (suc i) h = no_place_left ps i (omega arith)

pub same_members : (ks now : List (String Global)) (vs ws : List Value) → now ≡ ks → vs ≡ ws → members_view (zip now vs) ≡ members_view
    (zip ks ws)
same_members ks now vs ws keys values = ap (λ ks. members_view (zip ks vs)) keys ∙ ap (λ vs. members_view (zip ks vs)) values

module _ {R : Type 0} (ρ : Rules R) (r : R) where
  pub keywords_unread : (ms : Members) → all_unread (ρ.place r) ms → ms ≡ in_keywords ρ r ms
  keywords_unread no_members h = sym (keywords_none ρ r)
  keywords_unread (member k d ms) h =
      ap (λ ms. member k d ms) (keywords_unread ms h.1) ∙ ap (λ p. member k (form_at p d (forms ρ r d)) (in_keywords ρ r ms)) (sym h.0)
      ∙ sym (keywords_more ρ r k d ms)

  pub keywords_together : (es : List Entry) (ws : List Value)
      → items_view ws ≡ in_places ρ r (member_places (ρ.place r) (members_view es)) (items_view (values_of es))
      → members_view (zip (keys_of es) ws) ≡ in_keywords ρ r (members_view es)
  keywords_together [] ws h = sym (keywords_none ρ r)
  keywords_together (e ∷ es) [] h = cc
  keywords_together (e ∷ es) (w ∷ ws) h =
      let k = string_bytes e.0 in let d = view e.1 in
      let here : view w ≡ form_at (ρ.place r k d) d (forms ρ r d) = cc in
      let rest : items_view ws ≡ in_places ρ r (member_places (ρ.place r) (members_view es)) (items_view (values_of es)) = cc in
      ap (λ x. member k x (members_view (zip (keys_of es) ws))) here ∙ ap (λ ms. member k (form_at (ρ.place r k d) d (forms ρ r d)) ms)
      (keywords_together es ws rest) ∙ sym (keywords_more ρ r k d (members_view es))

  pub names_together : (es : List Entry) (ws : List Value) → items_view ws ≡ in_items ρ r (items_view (values_of es)) → members_view (zip
      (keys_of es) ws) ≡ in_names ρ r (members_view es)
  names_together [] ws h = sym (names_none ρ r)
  names_together (e ∷ es) [] h = let all = h ∙ items_more ρ r (view e.1) (items_view (values_of es)) in cc
  names_together (e ∷ es) (w ∷ ws) h =
      let k = string_bytes e.0 in let d = view e.1 in
      let all : item (view w) (items_view ws) ≡ item ((forms ρ r d).as_schema) (in_items ρ r (items_view (values_of es))) =
      h ∙ items_more ρ r d (items_view (values_of es)) in
      let here : view w ≡ (forms ρ r d).as_schema = cc in
      let rest : items_view ws ≡ in_items ρ r (items_view (values_of es)) = cc in
      ap (λ x. member k x (members_view (zip (keys_of es) ws))) here
      ∙ ap (λ ms. member k ((forms ρ r d).as_schema) ms) (names_together es ws rest) ∙ sym (names_more ρ r k d (members_view es))

  -- one turn of the loop over values
  pub value_done : (all : Items) (ps : List place.Place) (xs : List Value) (i : ℕ) (p : place.Place) (d v : Value) → i < length ps
      → i < length xs → view v ≡ form_at (place_meant (get_or ps i p)) (view (get_or xs i d)) (forms ρ r (view (get_or xs i d)))
      → then_items (items_view (take i xs)) (in_places ρ r (map place_meant (drop i ps)) (items_view (drop i xs))) ≡ all
      → then_items (items_view (take (i + 1) (set xs i v))) (in_places ρ r (map place_meant (drop (i + 1) ps)) (items_view (drop (i + 1)
      (set xs i v)))) ≡ all
  value_done all ps xs i p d v few within call before =
      let later : Items → Items = in_places ρ r (map place_meant (drop (suc i) ps)) in
      let rest : Items = items_view (drop (suc i) (set xs i v)) in
      rw add-one (item_written xs i v (later rest) within
      ∙ ap (then_items (items_view (take i xs))) (ap (λ e. item e (later rest)) call
      ∙ ap (in_places ρ r (place_meant (get_or ps i p) ∷ map place_meant (drop (suc i) ps))) (sym (items_from xs i v d within))
      ∙ ap (λ qs. in_places ρ r (map place_meant qs) (items_view (drop i xs))) (sym (place_from ps i p few)))
      ∙ before)

  pub values_done : (all : Items) (ps : List place.Place) (xs : List Value) (i : ℕ) → length ps ≤ i → length xs ≤ i
      → then_items (items_view (take i xs)) (in_places ρ r (map place_meant (drop i ps)) (items_view (drop i xs))) ≡ all
      → items_view xs ≡ all
  values_done all ps xs i end last before =
      let nothing = sym (nothing_left xs i last) in
      let left = ap (λ qs. in_places ρ r (map place_meant qs) (items_view (drop i xs))) (sym (no_place_left ps i end)) in
      sym (all_taken xs i last) ∙ sym (then_items-none (items_view (take i xs)))
      ∙ ap (then_items (items_view (take i xs))) (nothing ∙ left) ∙ before
