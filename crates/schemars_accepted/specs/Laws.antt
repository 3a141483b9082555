-- The row of a type in a table whose rows are as a dictionary tells.
use Rattle.std.proofs.Common.{◌≡◌, inl, inr, arith, ℕ, List, [], ◌∷◌, Bool, true, false, Option, Some, None, IsSome, option_map, option_and_then, refl, sym, ap, ◌∙◌, subst, if◌then◌else◌, ◌==◌}
use Rattle.std.proofs.lemmas.Bool.Decides.{nat_tests}
use Rattle.schemars_schema.specs.Json.{Text}
use Rattle.schemars_shapes.specs.Shape.{Shape, Entry, in_place, option, seq, set, map_from, array, tuple}
use Rattle.schemars_types.specs.Rows.{Row, place_of, entry_at}
use Rattle.schemars_types.specs.Faults.{IsChecked}
use Rattle.schemars_types.proofs.Registered.{place_of-below}
use Rattle.schemars_written.specs.Fits.{HasShape, IsArrayRow}
use Rattle.schemars_impls.specs.Describes.{Always, IsMade, OfOne, places_of}
use Rattle.schemars_impls.specs.Dictionary.{Dictionary, Told, TypeRow, told_of, IsIn, IsTold, IsEntryOf, IsRowOf, Follows, Pending, staged, alone, of_one, of_two}
use Rattle.schemars_impls.specs.Containers.{option_row, seq_row, set_row, map_row, array_row, PartRows, tuple_row, HasItems}
use Rattle.schemars_accepted.specs.Told.{Tells, OfItems, AreAsTold, IsToldIn, telling, single_row, pair_row, triple_row, quadruple_row}

-- ---- a table that follows a dictionary

pub follows_told : (d : Dictionary) (rows : List Row) → Follows d rows → AreAsTold d.told rows
follows_told d rows f = record { entries = λ id n there. (f.each id n there).entry }

-- a table without rows follows each dictionary in which no row is being described
telling_followed : (entries : List (Text × Told)) → Follows (telling entries) []
telling_followed entries = record { each = λ id n there. cc; pending = λ id is. cc }

pub told_in_empty : (told : Dictionary → Type 0) (entries : List (Text × Told)) → told (telling entries) → (rows : List Row) → rows ≡ []
    → IsToldIn told rows
told_in_empty told entries is rows empty =
    record { dictionary = telling entries; tells = is; follows = subst (Follows (telling entries)) (sym empty) (telling_followed entries) }

-- ---- in a dictionary

pub is_told : (o : Option Told) (t : TypeRow) → o ≡ Some (told_of t) → IsTold o t
is_told o t is = subst (λ x. IsTold x t) (sym is) refl

pub tells_in : (t : TypeRow) (d : Dictionary) → Tells t d → t.parts (staged t.id Pending d) → IsIn t d
unfolding IsIn
tells_in t d tells parts = record { told = is_told (d.told t.id) t tells.told; free = tells.free; parts = parts }

-- ---- the row of a type

row_there : (t : TypeRow) (rows : List Row) (n : ℕ) (o : Option Entry) → entry_at rows n ≡ o → IsSome o
    → IsEntryOf (Some (told_of t)) rows o → IsRowOf t rows n
row_there t rows n None is some made = cc
row_there t rows n (Some e) is some made = record { entry = e; is = is; described = made }

pub row_of : (t : TypeRow) (d : Dictionary) (rows : List Row) (n : ℕ) → Tells t d → AreAsTold d.told rows → IsChecked rows
    → place_of t.id rows ≡ Some n → IsRowOf t rows n
row_of t d rows n tells are checked there =
    row_there t rows n (entry_at rows n) refl (checked.defined n (place_of-below t.id rows n there))
    (subst (λ o. IsEntryOf o rows (entry_at rows n)) tells.told (are.entries t.id n there))

-- the shape of what is described so
has_shape : (t : TypeRow) (rows : List Row) (n : ℕ) (s : Shape) (r : IsRowOf t rows n) → r.described.given ≡ in_place s → HasShape rows n s
has_shape t rows n s r is = (r.entry, r.is, ap (λ (e : Entry). e.shape) r.described.is ∙ ap (λ (e : Entry). e.shape) is)

made_of_one : (make : ℕ → Entry) (o : Option ℕ) (e : Entry) → option_map make o ≡ Some e → (m : ℕ) × (o ≡ Some m) × (e ≡ make m)
made_of_one make None e made = cc
made_of_one make (Some m) e made = (m, refl, cc)

-- ---- types without parts

pub alone_in : (id name : Text) (inline : Bool) (e : Entry) (d : Dictionary) → Tells (alone id name inline e) d
    → IsIn (alone id name inline e) d
unfolding alone
alone_in id name inline e d tells = tells_in (alone id name inline e) d tells tt

pub alone_row : (id name : Text) (inline : Bool) (s : Shape) (d : Dictionary) (rows : List Row) (n : ℕ)
    → Tells (alone id name inline (in_place s)) d → AreAsTold d.told rows → IsChecked rows
    → place_of (alone id name inline (in_place s)).id rows ≡ Some n → HasShape rows n s
unfolding alone
alone_row id name inline s d rows n tells are checked there =
    let r = row_of (alone id name inline (in_place s)) d rows n tells are checked there in
    has_shape (alone id name inline (in_place s)) rows n s r r.described.made

-- ---- types of one part

pub one_in : (id name : Text) (inline : Bool) (make : ℕ → Entry) (part : TypeRow) (d : Dictionary)
    → Tells (of_one id name inline make part) d
    → IsIn part (staged (of_one id name inline make part).id Pending d) → IsIn (of_one id name inline make part) d
unfolding of_one
one_in id name inline make part d tells is = tells_in (of_one id name inline make part) d tells is

pub one_row : (id name : Text) (inline : Bool) (f : ℕ → Shape) (part : TypeRow) (d : Dictionary) (rows : List Row) (n : ℕ)
    → Tells (of_one id name inline (λ k. in_place (f k)) part) d → AreAsTold d.told rows → IsChecked rows
    → place_of (of_one id name inline (λ k. in_place (f k)) part).id rows ≡ Some n
    → (m : ℕ) × (place_of part.id rows ≡ Some m) × HasShape rows n (f m)
unfolding of_one
one_row id name inline f part d rows n tells are checked there =
    let t = of_one id name inline (λ k. in_place (f k)) part in
    let r = row_of t d rows n tells are checked there in
    let p = made_of_one (λ k. in_place (f k)) (place_of part.id rows) r.described.given r.described.made in
    (p.0, p.1, has_shape t rows n (f p.0) r p.2)

pub option_in : (t : TypeRow) (d : Dictionary) → Tells (option_row t) d
    → IsIn t (staged (option_row t).id Pending d) → IsIn (option_row t) d
unfolding option_row
option_in t d tells part = one_in _ _ _ _ t d tells part

pub option_at : (t : TypeRow) (R : List Row → ℕ → Type 0) (d : Dictionary) (rows : List Row) (n : ℕ) → Tells (option_row t) d
    → AreAsTold d.told rows → IsChecked rows → place_of (option_row t).id rows ≡ Some n
    → ((m : ℕ) → place_of t.id rows ≡ Some m → R rows m) → (m : ℕ) × HasShape rows n (option m) × R rows m
unfolding option_row
option_at t R d rows n tells are checked there part =
    let r = one_row _ _ _ option t d rows n tells are checked there in (r.0, r.2, part r.0 r.1)

pub seq_in : (t : TypeRow) (d : Dictionary) → Tells (seq_row t) d
    → IsIn t (staged (seq_row t).id Pending d) → IsIn (seq_row t) d
unfolding seq_row
seq_in t d tells part = one_in _ _ _ _ t d tells part

pub seq_at : (t : TypeRow) (R : List Row → ℕ → Type 0) (d : Dictionary) (rows : List Row) (n : ℕ) → Tells (seq_row t) d
    → AreAsTold d.told rows → IsChecked rows → place_of (seq_row t).id rows ≡ Some n
    → ((m : ℕ) → place_of t.id rows ≡ Some m → R rows m) → (m : ℕ) × HasShape rows n (seq m) × R rows m
unfolding seq_row
seq_at t R d rows n tells are checked there part =
    let r = one_row _ _ _ seq t d rows n tells are checked there in (r.0, r.2, part r.0 r.1)

pub set_in : (t : TypeRow) (d : Dictionary) → Tells (set_row t) d
    → IsIn t (staged (set_row t).id Pending d) → IsIn (set_row t) d
unfolding set_row
set_in t d tells part = one_in _ _ _ _ t d tells part

pub set_at : (t : TypeRow) (R : List Row → ℕ → Type 0) (d : Dictionary) (rows : List Row) (n : ℕ) → Tells (set_row t) d
    → AreAsTold d.told rows → IsChecked rows → place_of (set_row t).id rows ≡ Some n
    → ((m : ℕ) → place_of t.id rows ≡ Some m → R rows m) → (m : ℕ) × HasShape rows n (set m) × R rows m
unfolding set_row
set_at t R d rows n tells are checked there part =
    let r = one_row _ _ _ set t d rows n tells are checked there in (r.0, r.2, part r.0 r.1)

-- ---- types of two parts

made_of_two : (make : ℕ → ℕ → Entry) (o p : Option ℕ) (e : Entry) → option_and_then (λ n. option_map (λ m. make n m) p) o ≡ Some e
    → (n m : ℕ) × (o ≡ Some n) × (p ≡ Some m) × (e ≡ make n m)
made_of_two make None p e made = cc
made_of_two make (Some n) None e made = cc
made_of_two make (Some n) (Some m) e made = (n, m, refl, refl, cc)

pub two_in : (id name : Text) (inline : Bool) (make : ℕ → ℕ → Entry) (t u : TypeRow) (d : Dictionary)
    → Tells (of_two id name inline make t u) d → IsIn t (staged (of_two id name inline make t u).id Pending d)
    → IsIn u (staged (of_two id name inline make t u).id Pending d) → IsIn (of_two id name inline make t u) d
unfolding of_two
two_in id name inline make t u d tells first second = tells_in (of_two id name inline make t u) d tells (first, second)

pub two_row : (id name : Text) (inline : Bool) (make : ℕ → ℕ → Entry) (t u : TypeRow) (d : Dictionary) (rows : List Row) (n : ℕ)
    → Tells (of_two id name inline make t u) d → AreAsTold d.told rows → IsChecked rows
    → place_of (of_two id name inline make t u).id rows ≡ Some n
    → (a b : ℕ) × (place_of t.id rows ≡ Some a) × (place_of u.id rows ≡ Some b) × HasShape rows n (make a b).shape
unfolding of_two
two_row id name inline make t u d rows n tells are checked there =
    let r = row_of (of_two id name inline make t u) d rows n tells are checked there in
    let p = made_of_two make (place_of t.id rows) (place_of u.id rows) r.described.given r.described.made in (
      p.0,
      p.1,
      p.2,
      p.3,
      (r.entry, r.is, ap (λ (e : Entry). e.shape) r.described.is ∙ ap (λ (e : Entry). e.shape) p.4),
    )

pub map_in : (key t : TypeRow) (d : Dictionary) → Tells (map_row key t) d → IsIn key (staged (map_row key t).id Pending d)
    → IsIn t (staged (map_row key t).id Pending d) → IsIn (map_row key t) d
unfolding map_row
map_in key t d tells first second = two_in _ _ _ _ key t d tells first second

pub map_at : (key t : TypeRow) (K R : List Row → ℕ → Type 0) (d : Dictionary) (rows : List Row) (n : ℕ) → Tells (map_row key t) d
    → AreAsTold d.told rows → IsChecked rows → place_of (map_row key t).id rows ≡ Some n
    → ((m : ℕ) → place_of key.id rows ≡ Some m → K rows m) → ((m : ℕ) → place_of t.id rows ≡ Some m → R rows m)
    → (k m : ℕ) × HasShape rows n (map_from k m) × K rows k × R rows m
unfolding map_row
map_at key t K R d rows n tells are checked there first second =
    let r = two_row _ _ _ (λ k m. in_place (map_from k m)) key t d rows n tells are checked there in
    (r.0, r.1, r.4, first r.0 r.2, second r.1 r.3)

-- ---- arrays

items_in : (b : Bool) (t : TypeRow) (told : Dictionary → Type 0) (d : Dictionary) → (told d → IsIn t d) → OfItems b told d → HasItems b t d
items_in true t told d part of = tt
items_in false t told d part of = part of

pub array_in : (t : TypeRow) (len : ℕ) (told : Dictionary → Type 0) (d : Dictionary) → Tells (array_row t len) d
    → ((e : Dictionary) → told e → IsIn t e) → OfItems (len == 0) told (staged (array_row t len).id Pending d) → IsIn (array_row t len) d
unfolding array_row
array_in t len told d tells part of =
    tells_in (array_row t len) d tells
    (items_in (len == 0) t told (staged (array_row t len).id Pending d) (part (staged (array_row t len).id Pending d)) of)

pub array_at : (t : TypeRow) (len : ℕ) (R : List Row → ℕ → Type 0) (told : Dictionary → Type 0) (d : Dictionary) (rows : List Row) (n : ℕ)
    → Tells (array_row t len) d → OfItems (len == 0) told (staged (array_row t len).id Pending d) → AreAsTold d.told rows → IsChecked rows
    → place_of (array_row t len).id rows ≡ Some n
    → ((m : ℕ) → told (staged (array_row t len).id Pending d) → place_of t.id rows ≡ Some m → R rows m) → IsArrayRow R len rows n
unfolding array_row
array_at t len R told d rows n tells of are checked there part =
    let r = row_of (array_row t len) d rows n tells are checked there in
    go (len == 0) refl of r r.described.made
  where
    go : (b : Bool) → (len == 0) ≡ b → OfItems b told (staged (array_row t len).id Pending d) → (r : IsRowOf (array_row t len) rows n)
        → IsMade (if b then Always (in_place (tuple [])) else OfOne t.id (λ k. in_place (array k len))) rows r.described.given
        → IsArrayRow R len rows n
    go true is items r made =
        inr (grind (arith, nat_tests, is), has_shape (array_row t len) rows n (tuple []) r made)
    go false is items r made =
        let p = made_of_one (λ k. in_place (array k len)) (place_of t.id rows) r.described.given made in
        inl (p.0, has_shape (array_row t len) rows n (array p.0 len) r p.2, part p.0 items p.1)

-- ---- tuples

pub next_place : (id : Text) (ids : List Text) (rows : List Row) (ns : List ℕ) → places_of (id ∷ ids) rows ≡ Some ns
    → (m : ℕ) × (ms : List ℕ) × (place_of id rows ≡ Some m) × (places_of ids rows ≡ Some ms) × (ns ≡ m ∷ ms)
next_place id ids rows ns placed = go (place_of id rows) (places_of ids rows) placed
  where
    go : (o : Option ℕ) (p : Option (List ℕ)) → option_and_then (λ n. option_map (λ ns. n ∷ ns) p) o ≡ Some ns
        → (m : ℕ) × (ms : List ℕ) × (o ≡ Some m) × (p ≡ Some ms) × (ns ≡ m ∷ ms)
    go None p h = cc
    go (Some m) None h = cc
    go (Some m) (Some ms) h = (m, ms, refl, refl, cc)

no_place : (rows : List Row) (ns : List ℕ) → places_of [] rows ≡ Some ns → ns ≡ []
no_place rows ns placed = cc

pub made_of_all : (make : List ℕ → Entry) (o : Option (List ℕ)) (e : Entry) → option_map make o ≡ Some e
    → (ns : List ℕ) × (o ≡ Some ns) × (e ≡ make ns)
made_of_all make None e made = cc
made_of_all make (Some ns) e made = (ns, refl, cc)

pub tuple_in : (parts : PartRows) (d : Dictionary) → Tells (tuple_row parts) d → parts.are_in (staged (tuple_row parts).id Pending d)
    → IsIn (tuple_row parts) d
unfolding tuple_row
tuple_in parts d tells are = tells_in (tuple_row parts) d tells are

tuple_at : (parts : PartRows) (d : Dictionary) (rows : List Row) (n : ℕ) → Tells (tuple_row parts) d
    → AreAsTold d.told rows → IsChecked rows → place_of (tuple_row parts).id rows ≡ Some n
    → (ns : List ℕ) × (places_of parts.ids rows ≡ Some ns) × HasShape rows n (tuple ns)
unfolding tuple_row
tuple_at parts d rows n tells are checked there =
    let r = row_of (tuple_row parts) d rows n tells are checked there in
    let p = made_of_all (λ ns. in_place (tuple ns)) (places_of parts.ids rows) r.described.given r.described.made in
    (p.0, p.1, has_shape (tuple_row parts) rows n (tuple p.0) r p.2)

has_tuple : (rows : List Row) (n : ℕ) (ns ms : List ℕ) → ns ≡ ms → HasShape rows n (tuple ns) → HasShape rows n (tuple ms)
has_tuple rows n ns ms is shape = subst (λ ks. HasShape rows n (tuple ks)) is shape

longer : (m : ℕ) (ns ms ks : List ℕ) → ns ≡ m ∷ ms → ms ≡ ks → ns ≡ m ∷ ks
longer m ns ms ks is same = is ∙ ap (λ xs. m ∷ xs) same

pub single_at : (t : TypeRow) (T : List Row → ℕ → Type 0) (d : Dictionary) (rows : List Row) (n : ℕ)
    → Tells (single_row t) d → AreAsTold d.told rows → IsChecked rows → place_of (single_row t).id rows ≡ Some n
    → ((m : ℕ) → place_of t.id rows ≡ Some m → T rows m)
    → (a : ℕ) × HasShape rows n (tuple (a ∷ [])) × T rows a
single_at t T d rows n tells are checked there is_t =
    let p = tuple_at _ d rows n tells are checked there in
    let a = next_place t.id [] rows p.0 p.1 in
    let is : p.0 ≡ a.0 ∷ [] = longer a.0 p.0 a.1 [] a.4 (no_place rows a.1 a.3) in
    (a.0, has_tuple rows n p.0 (a.0 ∷ []) is p.2, is_t a.0 a.2)

pub pair_at : (t u : TypeRow) (T U : List Row → ℕ → Type 0) (d : Dictionary) (rows : List Row) (n : ℕ)
    → Tells (pair_row t u) d → AreAsTold d.told rows → IsChecked rows → place_of (pair_row t u).id rows ≡ Some n
    → ((m : ℕ) → place_of t.id rows ≡ Some m → T rows m)
    → ((m : ℕ) → place_of u.id rows ≡ Some m → U rows m)
    → (a b : ℕ) × HasShape rows n (tuple (a ∷ b ∷ [])) × T rows a × U rows b
pair_at t u T U d rows n tells are checked there is_t is_u =
    let p = tuple_at _ d rows n tells are checked there in
    let a = next_place t.id (u.id ∷ []) rows p.0 p.1 in
    let b = next_place u.id [] rows a.1 a.3 in
    let is : p.0 ≡ a.0 ∷ b.0 ∷ [] = longer a.0 p.0 a.1 (b.0 ∷ []) a.4 (longer b.0 a.1 b.1 [] b.4 (no_place rows b.1 b.3)) in
    (a.0, b.0, has_tuple rows n p.0 (a.0 ∷ b.0 ∷ []) is p.2, is_t a.0 a.2, is_u b.0 b.2)

pub triple_at : (t u v : TypeRow) (T U V : List Row → ℕ → Type 0) (d : Dictionary) (rows : List Row) (n : ℕ)
    → Tells (triple_row t u v) d → AreAsTold d.told rows → IsChecked rows → place_of (triple_row t u v).id rows ≡ Some n
    → ((m : ℕ) → place_of t.id rows ≡ Some m → T rows m)
    → ((m : ℕ) → place_of u.id rows ≡ Some m → U rows m)
    → ((m : ℕ) → place_of v.id rows ≡ Some m → V rows m)
    → (a b c : ℕ) × HasShape rows n (tuple (a ∷ b ∷ c ∷ [])) × T rows a × U rows b × V rows c
triple_at t u v T U V d rows n tells are checked there is_t is_u is_v =
    let p = tuple_at _ d rows n tells are checked there in
    let a = next_place t.id (u.id ∷ v.id ∷ []) rows p.0 p.1 in
    let b = next_place u.id (v.id ∷ []) rows a.1 a.3 in
    let c = next_place v.id [] rows b.1 b.3 in
    let no : c.1 ≡ [] = no_place rows c.1 c.3 in
    let from_c : b.1 ≡ c.0 ∷ [] = longer c.0 b.1 c.1 [] c.4 no in
    let from_b : a.1 ≡ b.0 ∷ c.0 ∷ [] = longer b.0 a.1 b.1 (c.0 ∷ []) b.4 from_c in
    let is : p.0 ≡ a.0 ∷ b.0 ∷ c.0 ∷ [] = longer a.0 p.0 a.1 (b.0 ∷ c.0 ∷ []) a.4 from_b in
    (a.0, b.0, c.0, has_tuple rows n p.0 (a.0 ∷ b.0 ∷ c.0 ∷ []) is p.2, is_t a.0 a.2, is_u b.0 b.2, is_v c.0 c.2)

pub quadruple_at : (t u v w : TypeRow) (T U V W : List Row → ℕ → Type 0) (d : Dictionary) (rows : List Row) (n : ℕ)
    → Tells (quadruple_row t u v w) d → AreAsTold d.told rows → IsChecked rows → place_of (quadruple_row t u v w).id rows ≡ Some n
    → ((m : ℕ) → place_of t.id rows ≡ Some m → T rows m)
    → ((m : ℕ) → place_of u.id rows ≡ Some m → U rows m)
    → ((m : ℕ) → place_of v.id rows ≡ Some m → V rows m)
    → ((m : ℕ) → place_of w.id rows ≡ Some m → W rows m)
    → (a b c d : ℕ) × HasShape rows n (tuple (a ∷ b ∷ c ∷ d ∷ [])) × T rows a × U rows b × V rows c × W rows d
quadruple_at t u v w T U V W d rows n tells are checked there is_t is_u is_v is_w =
    let p = tuple_at _ d rows n tells are checked there in
    let a = next_place t.id (u.id ∷ v.id ∷ w.id ∷ []) rows p.0 p.1 in
    let b = next_place u.id (v.id ∷ w.id ∷ []) rows a.1 a.3 in
    let c = next_place v.id (w.id ∷ []) rows b.1 b.3 in
    let d = next_place w.id [] rows c.1 c.3 in
    let no : d.1 ≡ [] = no_place rows d.1 d.3 in
    let from_d : c.1 ≡ d.0 ∷ [] = longer d.0 c.1 d.1 [] d.4 no in
    let from_c : b.1 ≡ c.0 ∷ d.0 ∷ [] = longer c.0 b.1 c.1 (d.0 ∷ []) c.4 from_d in
    let from_b : a.1 ≡ b.0 ∷ c.0 ∷ d.0 ∷ [] = longer b.0 a.1 b.1 (c.0 ∷ d.0 ∷ []) b.4 from_c in
    let is : p.0 ≡ a.0 ∷ b.0 ∷ c.0 ∷ d.0 ∷ [] = longer a.0 p.0 a.1 (b.0 ∷ c.0 ∷ d.0 ∷ []) a.4 from_b in
    (a.0, b.0, c.0, d.0, has_tuple rows n p.0 (a.0 ∷ b.0 ∷ c.0 ∷ d.0 ∷ []) is p.2, is_t a.0 a.2, is_u b.0 b.2, is_v c.0 c.2, is_w d.0 d.2)
