-- The walk, call by call.
use Rattle.std.proofs.Common.{◌≡◌, ℕ, zero, suc, ◌+◌, ◌<◌, ◌≤◌, ◌-◌, Some, List, [], ◌∷◌, ◌++◌, length, get_or, take, drop, set, String, Global, string_bytes, string_cmp, Less, Greater, Ok, Err, OnOk, inl, inr, refl, sym, ap, ◌∙◌, subst, add-one, arith}
use Rattle.schemars_walk.proofs.Words.{nat_list_cmp_total, AllByRecursion, IsStrictlySortedBy, keys_of, ordering_reverse, insert_entry, Data, array, object, Items, no_items, item, Members, no_members, member, view, items_view, members_view, Entry, Text, as_array, as_object, place_under, nothing_left, Answer, TransformStep, EachItem, EachMember, AtSchema, AtList, AtSchemaOrList, AtNames, AtPlace, Walked, Recursed}
use Rattle.serde_json.specs.declared.value.Value.{Value}
use Rattle.schemars_walk.specs.declared.transform.TransformError.{TransformError}
use Rattle.schemars_walk.specs.declared.transform.TransformError.TheVariants.{Memory, TooDeep}
use Rattle.schemars_walk.specs.declared.walk.Reach.{Reach}
use Rattle.schemars_walk.specs.declared.walk.Reach.TheVariants.{Once, Levels}

-- ---- lists of items and members

abbrev pub then_items : Items → Items → Items
then_items no_items es = es
then_items (item d ds) es = item d (then_items ds es)

abbrev pub then_members : Members → Members → Members
then_members no_members es = es
then_members (member k d ms) es = member k d (then_members ms es)

pub then_items-none : (ds : Items) → then_items ds no_items ≡ ds
then_items-none no_items = refl
then_items-none (item d ds) = ap (item d) (then_items-none ds)

pub then_members-none : (ms : Members) → then_members ms no_members ≡ ms
then_members-none no_members = refl
then_members-none (member k d ms) = ap (member k d) (then_members-none ms)

-- item i is written over, and those before it come first
pub item_written : (xs : List Value) (i : ℕ) (v : Value) (es : Items) → i < length xs
    → then_items (items_view (take (suc i) (set xs i v))) es ≡ then_items (items_view (take i xs)) (item (view v) es)
item_written [] i v es h = absurd (omega arith)
item_written (x ∷ xs) zero v es h = refl
item_written (x ∷ xs) (suc i) v es h = ap (item (view x)) (item_written xs i v es (omega arith))

pub items_from : (xs : List Value) (i : ℕ) (v d : Value) → i < length xs
    → items_view (drop i xs) ≡ item (view (get_or xs i d)) (items_view (drop (suc i) (set xs i v)))
items_from [] i v d h = absurd (omega arith)
items_from (x ∷ xs) zero v d h = refl
items_from (x ∷ xs) (suc i) v d h = items_from xs i v d (omega arith)

below_middle : (first : Entry) (es : List Entry) (e : Entry) (more : List Entry)
    → AllByRecursion (λ y. string_cmp first.0 y ≡ Less) (keys_of (es ++ e ∷ more)) → string_cmp first.0 e.0 ≡ Less
below_middle first [] e more h = h.0
below_middle first (x ∷ es) e more h = below_middle first es e more h.1

-- a key that is above those before it goes last
pub insert_last : (done : List Entry) (k : String Global) (v w : Value) (more : List Entry)
    → IsStrictlySortedBy string_cmp (keys_of (done ++ (k, v) ∷ more))
    → insert_entry string_cmp done k w ≡ done ++ (k, w) ∷ []
unfolding IsStrictlySortedBy
insert_last [] k v w more h = refl
insert_last (first ∷ done) k v w more h =
    let above : string_cmp k first.0 ≡ Greater =
    nat_list_cmp_total.antisymm (string_bytes k) (string_bytes first.0) ∙ ap ordering_reverse (below_middle first done (k, v) more h.0) in
    rw above (ap (λ es. first ∷ es) (insert_last done k v w more h.1))

same_keys : (done : List Entry) (k : String Global) (v w : Value) (more : List Entry)
    → keys_of ((done ++ (k, w) ∷ []) ++ more) ≡ keys_of (done ++ (k, v) ∷ more)
same_keys [] k v w more = refl
same_keys (e ∷ done) k v w more = ap (λ ks. e.0 ∷ ks) (same_keys done k v w more)

-- the next member has been put back
pub still_sorted : (done now more : List Entry) (k : String Global) (v w : Value)
    → IsStrictlySortedBy string_cmp (keys_of (done ++ (k, v) ∷ more)) → now ≡ insert_entry string_cmp done k w
    → IsStrictlySortedBy string_cmp (keys_of (now ++ more))
still_sorted done now more k v w h e =
    let same : keys_of (now ++ more) ≡ keys_of (done ++ (k, v) ∷ more) = ap (λ es. keys_of (es ++ more)) (e ∙ insert_last done k v w more
    h) ∙ same_keys done k v w more in
    subst (λ ks. IsStrictlySortedBy string_cmp ks) (sym same) h

pub turn_sorted_at : (it done more now : List Entry) (k : String Global) (v w : Value)
    → IsStrictlySortedBy string_cmp (keys_of (done ++ it)) → it ≡ (k, v) ∷ more → now ≡ insert_entry string_cmp done k w
    → IsStrictlySortedBy string_cmp (keys_of (now ++ more))
turn_sorted_at it done more now k v w sorted step put = still_sorted done now more k v w (subst (λ i. IsStrictlySortedBy string_cmp
    (keys_of (done ++ i))) step sorted) put

then_last : (done : List Entry) (k : String Global) (w : Value) (es : Members)
    → then_members (members_view (done ++ (k, w) ∷ [])) es ≡ then_members (members_view done) (member (string_bytes k) (view w) es)
then_last [] k w es = refl
then_last (e ∷ done) k w es = ap (member (string_bytes e.0) (view e.1)) (then_last done k w es)

pub member_put_back : (done now more : List Entry) (k : String Global) (v w : Value) (es : Members)
    → IsStrictlySortedBy string_cmp (keys_of (done ++ (k, v) ∷ more)) → now ≡ insert_entry string_cmp done k w
    → then_members (members_view now) es ≡ then_members (members_view done) (member (string_bytes k) (view w) es)
member_put_back done now more k v w es h e = ap (λ x. then_members (members_view x) es) (e ∙ insert_last done k v w more h) ∙ then_last
    done k w es

-- ---- calls

on_ok_same : {A : Type 0} (r : Answer) (x : A) → OnOk r (x ≡ x)
on_ok_same (Ok x) y = refl
on_ok_same (Err x) y = tt

always : {A : Type 0} (r : Answer) → A → OnOk r A
always (Ok x) a = a
always (Err x) a = tt

some_same : {A : Type 0} {a b : A} → Some a ≡ Some b → a ≡ b
some_same e = cc

module _ {S : Type 0} (Q : TransformStep S) where
  pub items_more : (s w u : S) (d e : Data) (ds fs : Items) (r : Answer) → Q s d (Ok tt) w e → EachItem Q w ds r u fs
      → EachItem Q s (item d ds) r u (item e fs)
  items_more s w u d e ds fs r q rest = (Ok tt, w, e, q, (fs, rest, on_ok_same r (item e fs)))

  pub items_stop : (s w : S) (d e : Data) (ds fs : Items) (x : TransformError) → Q s d (Err x) w e → EachItem Q s (item d ds) (Err x) w fs
  items_stop s w d e ds fs x q = (Err x, w, e, q, (refl, refl))

  -- after a refusal the items are open
  pub items_open : (s u : S) (ds es fs : Items) (x : TransformError) → EachItem Q s ds (Err x) u es → EachItem Q s ds (Err x) u fs
  items_open s u no_items es fs x h = cc
  items_open s u (item d ds) es fs x h = h

module _ {S : Type 0} (Q : Text → TransformStep S) where
  pub members_more : (s w u : S) (k : Text) (d e : Data) (ms fs : Members) (r : Answer) → Q k s d (Ok tt) w e
      → EachMember Q w ms r u fs → EachMember Q s (member k d ms) r u (member k e fs)
  members_more s w u k d e ms fs r q rest = (Ok tt, w, e, q, inr (fs, rest, on_ok_same r (member k e fs)))

  pub members_stop : (s w : S) (k : Text) (d e : Data) (ms fs : Members) (x : TransformError) → Q k s d (Err x) w e
      → EachMember Q s (member k d ms) (Err x) w fs
  members_stop s w k d e ms fs x q = (Err x, w, e, q, (refl, refl))

  pub members_full : (s w : S) (k : Text) (d e : Data) (ms fs : Members) (x : TransformError) → Q k s d (Ok tt) w e → x ≡ Memory
      → EachMember Q s (member k d ms) (Err x) w fs
  members_full s w k d e ms fs x q full = (Ok tt, w, e, q, inl (ap (λ y. Err y) full, refl))

  pub members_open : (s u : S) (ms es fs : Members) (x : TransformError) → EachMember Q s ms (Err x) u es → EachMember Q s ms (Err x) u fs
  members_open s u no_members es fs x h = cc
  members_open s u (member k d ms) es fs x h = h

-- ---- levels

abbrev pub levels : Reach → ℕ
levels Once = 0
levels (Levels n) = suc n

-- one turn of a loop over members that go back one after another
module _ {S : Type 0} (Q : Text → TransformStep S) (start s w : S) (all : Members) (it done more : List Entry) (k : String Global)
    (v : Value)
    (goes : (r : Answer) (u : S) (es : Members) → EachMember Q s (members_view it) r u es
    → EachMember Q start all r u (then_members (members_view done) es))
    (step : it ≡ (k, v) ∷ more) where
  pub turn : (now : List Entry) (x : Value) → IsStrictlySortedBy string_cmp (keys_of (done ++ it))
      → Q (string_bytes k) s (view v) (Ok tt) w (view x) → now ≡ insert_entry string_cmp done k x
      → (r : Answer) (u : S) (es : Members) → EachMember Q w (members_view more) r u es
      → EachMember Q start all r u (then_members (members_view now) es)
  turn now x sorted call put r u es h =
      let order : IsStrictlySortedBy string_cmp (keys_of (done ++ (k, v) ∷ more)) = subst (λ i. IsStrictlySortedBy string_cmp (keys_of
      (done ++ i))) step sorted in
      let here : EachMember Q s (members_view it) r u (member (string_bytes k) (view x) es) =
      subst (λ i. EachMember Q s (members_view i) r u (member (string_bytes k) (view x) es)) (sym step) (members_more Q s w u
      (string_bytes k) (view v) (view x) (members_view more) es r call h) in
      subst (λ m. EachMember Q start all r u m) (sym (member_put_back done now more k v x es order put)) (goes r u (member (string_bytes
      k) (view x) es) here)

  pub turn_stops : (x : TransformError) (d : Data) (es : Members) → Q (string_bytes k) s (view v) (Err x) w d
      → EachMember Q start all (Err x) w es
  turn_stops x d es call =
      let here : EachMember Q s (members_view it) (Err x) w no_members =
      subst (λ i. EachMember Q s (members_view i) (Err x) w no_members) (sym step) (members_stop Q s w (string_bytes k) (view v) d
      (members_view more) no_members x call) in
      members_open Q start w all (then_members (members_view done) no_members) es x (goes (Err x) w no_members here)

  pub turn_full : (x : TransformError) (d : Data) (es : Members) → Q (string_bytes k) s (view v) (Ok tt) w d → x ≡ Memory
      → EachMember Q start all (Err x) w es
  turn_full x d es call full =
      let here : EachMember Q s (members_view it) (Err x) w no_members =
      subst (λ i. EachMember Q s (members_view i) (Err x) w no_members) (sym step) (members_full Q s w (string_bytes k) (view v) d
      (members_view more) no_members x call full) in
      members_open Q start w all (then_members (members_view done) no_members) es x (goes (Err x) w no_members here)

module _ {S : Type 0} (Q : Text → TransformStep S) (start s : S) (all : Members) (it done : List Entry)
    (goes : (r : Answer) (u : S) (es : Members) → EachMember Q s (members_view it) r u es
    → EachMember Q start all r u (then_members (members_view done) es)) where
  pub turns_end : it ≡ [] → EachMember Q start all (Ok tt) s (members_view done)
  turns_end end =
      let here : EachMember Q s (members_view it) (Ok tt) s no_members = subst (λ i. EachMember Q s (members_view i) (Ok tt) s
      no_members) (sym end) (refl, refl, refl) in
      subst (λ m. EachMember Q start all (Ok tt) s m) (then_members-none (members_view done)) (goes (Ok tt) s no_members here)

-- one turn of a loop over items, each written over in its place
module _ {S : Type 0} (Q : TransformStep S) (start s w : S) (all : Items) (xs : List Value) (i : ℕ) (d : Value)
    (goes : (r : Answer) (u : S) (es : Items) → EachItem Q s (items_view (drop i xs)) r u es
    → EachItem Q start all r u (then_items (items_view (take i xs)) es))
    (within : i < length xs) where
  pub item_turn : (v : Value) → Q s (view (get_or xs i d)) (Ok tt) w (view v)
      → (r : Answer) (u : S) (es : Items) → EachItem Q w (items_view (drop (i + 1) (set xs i v))) r u es
      → EachItem Q start all r u (then_items (items_view (take (i + 1) (set xs i v))) es)
  item_turn v call r u es h =
      let here : EachItem Q s (items_view (drop i xs)) r u (item (view v) es) =
      subst (λ m. EachItem Q s m r u (item (view v) es)) (sym (items_from xs i v d within)) (items_more Q s w u (view (get_or xs i d))
      (view v) _ es r call (rw add-one at h)) in
      rw add-one (subst (λ m. EachItem Q start all r u m) (sym (item_written xs i v es within)) (goes r u (item (view v) es) here))

  pub item_turn_stops : (x : TransformError) (e : Data) (es : Items) → Q s (view (get_or xs i d)) (Err x) w e
      → EachItem Q start all (Err x) w es
  item_turn_stops x e es call =
      let here : EachItem Q s (items_view (drop i xs)) (Err x) w no_items =
      subst (λ m. EachItem Q s m (Err x) w no_items) (sym (items_from xs i d d within)) (items_stop Q s w (view (get_or xs i d)) e _
      no_items x call) in
      items_open Q start w all (then_items (items_view (take i xs)) no_items) es x (goes (Err x) w no_items here)

pub all_taken : (xs : List Value) (i : ℕ) → length xs ≤ i → items_view (take i xs) ≡ items_view xs
all_taken [] zero h = refl
all_taken [] (suc i) h = refl
all_taken (x ∷ xs) zero h = absurd (omega arith)
all_taken (x ∷ xs) (suc i) h = ap (item (view x)) (all_taken xs i (omega arith))

module _ {S : Type 0} (Q : TransformStep S) (start s : S) (all : Items) (xs : List Value) (i : ℕ)
    (goes : (r : Answer) (u : S) (es : Items) → EachItem Q s (items_view (drop i xs)) r u es
    → EachItem Q start all r u (then_items (items_view (take i xs)) es)) where
  pub item_turns_end : length xs ≤ i → EachItem Q start all (Ok tt) s (items_view xs)
  item_turns_end end =
      let here : EachItem Q s (items_view (drop i xs)) (Ok tt) s no_items = subst (λ m. EachItem Q s m (Ok tt) s no_items) (sym
      (nothing_left xs i end)) (refl, refl, refl) in
      subst (λ m. EachItem Q start all (Ok tt) s m) (then_items-none (items_view (take i xs)) ∙ all_taken xs i end) (goes (Ok tt) s
      no_items here)

-- ---- places and levels

module _ {S : Type 0} (Q : TransformStep S) (s u : S) (r : Answer) where
  pub at_list : (d e : Data) (ds es : Items) → Some ds ≡ as_array d → EachItem (AtSchema Q) s ds r u es → e ≡ array es → AtList Q s d r u e
  at_list (array fs) e ds es is h new = (es, subst (λ m. EachItem (AtSchema Q) s m r u es) (some_same is) h, always r new)
  at_list _ e ds es is h new = cc

  pub at_schema_or_list : (d e : Data) (ds es : Items) → Some ds ≡ as_array d → EachItem (AtSchema Q) s ds r u es → e ≡ array es
      → AtSchemaOrList Q s d r u e
  at_schema_or_list (array fs) e ds es is h new = (es, subst (λ m. EachItem (AtSchema Q) s m r u es) (some_same is) h, always r new)
  at_schema_or_list _ e ds es is h new = cc

  pub at_names : (d e : Data) (ms es : Members) → Some ms ≡ as_object d → EachMember (λ k. AtSchema Q) s ms r u es → e ≡ object es
      → AtNames Q s d r u e
  at_names (object fs) e ms es is h new = (es, subst (λ m. EachMember (λ k. AtSchema Q) s m r u es) (some_same is) h, always r new)
  at_names _ e ms es is h new = cc

  pub walked : (d : Data) (ms es : Members) → Some ms ≡ as_object d → EachMember (λ k. AtPlace (place_under k) Q) s ms r u es
      → Walked Q s d r u (object es)
  walked (object fs) ms es is h = (
    es,
    subst (λ m. EachMember (λ k. AtPlace (place_under k) Q) s m r u es) (some_same is) h,
    on_ok_same r
        (object es),
  )
  walked _ ms es is h = cc

module _ {S : Type 0} (R : TransformStep S) where
  pub recursed_stop : (n : ℕ) (s w : S) (d c e : Data) (x : TransformError) → 0 < n → R s d (Err x) w c → Recursed R n s d (Err x) w e
  unfolding Recursed
  recursed_stop zero s w d c e x some h = absurd (omega arith)
  recursed_stop (suc n) s w d c e x some h = (Err x, w, c, h, (refl, refl))

  pub recursed_more : (n : ℕ) (s w u : S) (d c e : Data) (r : Answer) → 0 < n → R s d (Ok tt) w c
      → Walked (Recursed R (n - 1)) w c r u e → Recursed R n s d r u e
  unfolding Recursed
  recursed_more zero s w u d c e r some h more = absurd (omega arith)
  recursed_more (suc n) s w u d c e r some h more = let one : suc n - 1 ≡ n = omega arith in (
    Ok tt,
    w,
    c,
    h,
    subst (λ m. Walked
        (Recursed R m) w c r u e) one more,
  )

  pub recursed_none : (s : S) (d e : Data) → Recursed R 0 s d (Err TooDeep) s e
  unfolding Recursed
  recursed_none s d e = (refl, refl)
