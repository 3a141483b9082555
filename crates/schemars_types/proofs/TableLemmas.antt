-- The rows of a table against the entries of its map: where an id stands, and a row that joins or is written.
use Rattle.std.proofs.Common.{◌≡◌, ◌+◌, ℕ, zero, suc, List, [], ◌∷◌, ◌++◌, length, map, slice_get, Bool, true, false, Some, None, cond, option_map, String, string_bytes, refl, ap, ◌∙◌, sym, arith, position}
use Rattle.std.specs.declared.alloc.Global.{Global}
use Rattle.schemars_types.proofs.Words.{position_from, AllByRecursion, IsDistinct, keys_of, values_of, bytes_eq, string_eq, position_from-zero, bytes_eq-Decides, insert_entry, set_value_at, Text, bytes_eq_comm, Entry, entry_of, Row, place_of, entry_at, reserved, defined, HasDistinctIds, row_of}
use Rattle.schemars_types.specs.declared.table.slots.NamedEntry.{NamedEntry}
use Rattle.schemars_types.specs.declared.table.slots.Slot.{Slot}
use Rattle.schemars_shapes.specs.declared.shape.TypeEntry.{TypeEntry}

place_from : (id : Text) (slots : List (String Global × Slot)) (i : ℕ)
    → position_from (λ k. bytes_eq id (string_bytes k)) i (keys_of slots) ≡ position_from (λ r. bytes_eq r.id id) i (map row_of slots)
place_from id [] i = refl
place_from id (s ∷ slots) i = λ j. cond (bytes_eq_comm id (string_bytes s.0) j) (Some i) (place_from id slots (i + 1) j)

-- an id has the number of its key
pub position-keys_of : (id : Text) (slots : List (String Global × Slot))
    → position (λ k. bytes_eq id (string_bytes k)) (keys_of slots) ≡ place_of id (map row_of slots)
position-keys_of id slots = position_from-zero (λ k. bytes_eq id (string_bytes k)) (keys_of slots) ∙ place_from id slots 0

pub reserved-absent : (id name : Text) (rows : List Row) → place_of id rows ≡ None
    → reserved id name rows ≡ rows ++ (record { id = id; name = name; entry = None }) ∷ []
reserved-absent id name rows none = rw none

insert_from : (id : String Global) (slot : Slot) (slots : List (String Global × Slot)) (i : ℕ)
    → position_from (λ r. bytes_eq r.id (string_bytes id)) i (map row_of slots) ≡ None
    → map row_of (insert_entry string_eq slots id slot) ≡ map row_of slots ++ row_of (id, slot) ∷ []
insert_from id slot [] i none = refl
insert_from id slot (s ∷ slots) i none =
    by (bytes_eq (string_bytes s.0) (string_bytes id)) (bytes_eq_comm (string_bytes id) (string_bytes s.0)) none
    (insert_from id slot slots (i + 1))
  where
    by : (b : Bool) → string_eq id s.0 ≡ b → cond b (Some i) (position_from (λ r. bytes_eq r.id (string_bytes id)) (i + 1)
        (map row_of slots)) ≡ None
        → (position_from (λ r. bytes_eq r.id (string_bytes id)) (i + 1) (map row_of slots) ≡ None
        → map row_of (insert_entry string_eq slots id slot) ≡ map row_of slots ++ row_of (id, slot) ∷ [])
        → map row_of (insert_entry string_eq (s ∷ slots) id slot) ≡ row_of s ∷ map row_of slots ++ row_of (id, slot) ∷ []
    by true e h rest = cc
    by false e h rest = rw e (ap (λ rows. row_of s ∷ rows) (rest h))

-- a new id joins at the end, not yet defined
pub insert_entry-reserved : (id name : String Global) (slot : Slot) (slots : List (String Global × Slot)) (rows : List Row)
    → slot.row.value ≡ record { name = name; entry = None } → map row_of slots ≡ rows → place_of (string_bytes id) rows ≡ None
    → map row_of (insert_entry string_eq slots id slot) ≡ reserved (string_bytes id) (string_bytes name) rows
insert_entry-reserved id name slot slots rows is view_is none =
    let new : Row = record { id = string_bytes id; name = string_bytes name; entry = None } in
    let says : row_of (id, slot) ≡ new =
    ap (λ (v : NamedEntry). record { id = string_bytes id; name = string_bytes v.name; entry = option_map entry_of v.entry }) is in
    insert_from id slot slots 0 (ap (place_of (string_bytes id)) view_is ∙ none)
    ∙ ap (λ (r : Row). map row_of slots ++ r ∷ []) says ∙ ap (λ (rs : List Row). rs ++ new ∷ []) view_is
    ∙ sym (reserved-absent (string_bytes id) (string_bytes name) rows none)

joined_from : (test : Row → Bool) (r : Row) (rows : List Row) (i : ℕ) → position_from test i rows ≡ None → test r ≡ true
    → position_from test i (rows ++ r ∷ []) ≡ Some (i + length rows)
joined_from test r [] i none passes = rw passes (ap Some (omega arith))
joined_from test r (q ∷ rows) i none passes = by (test q) none (λ h. joined_from test r rows (i + 1) h passes)
  where
    by : (b : Bool) → cond b (Some i) (position_from test (i + 1) rows) ≡ None
        → (position_from test (i + 1) rows ≡ None → position_from test (i + 1) (rows ++ r ∷ []) ≡ Some (i + 1 + length rows))
        → cond b (Some i) (position_from test (i + 1) (rows ++ r ∷ [])) ≡ Some (i + length (q ∷ rows))
    by true h rest = cc
    by false h rest = rest h ∙ ap Some (omega arith)

-- and is found there
pub place_of-reserved : (id name : Text) (rows : List Row) → place_of id rows ≡ None
    → place_of id (reserved id name rows) ≡ Some (length rows)
place_of-reserved id name rows none =
    ap (place_of id) (reserved-absent id name rows none)
    ∙ joined_from (λ q. bytes_eq q.id id) (record { id = id; name = name; entry = None }) rows 0 none ((bytes_eq-Decides id id).1 refl)
    ∙ ap Some (omega arith)

place_from-defined : (id : Text) (n : ℕ) (e : Entry) (rows : List Row) (i : ℕ)
    → position_from (λ r. bytes_eq r.id id) i (defined n e rows) ≡ position_from (λ r. bytes_eq r.id id) i rows
place_from-defined id n e [] i = refl
place_from-defined id zero e (r ∷ rows) i = refl
place_from-defined id (suc n) e (r ∷ rows) i = ap (cond (bytes_eq r.id id) (Some i)) (place_from-defined id n e rows (i + 1))

-- ids keep their numbers as rows are defined
pub place_of-defined : (id : Text) (n : ℕ) (e : Entry) (rows : List Row) → place_of id (defined n e rows) ≡ place_of id rows
place_of-defined id n e rows = place_from-defined id n e rows 0

-- a row that has this entry already stays
pub defined-same : (n : ℕ) (e : Entry) (rows : List Row) → entry_at rows n ≡ Some e → defined n e rows ≡ rows
defined-same n e [] there = refl
defined-same zero e (r ∷ rows) there = λ i. (record r { entry = sym there i }) ∷ rows
defined-same (suc n) e (r ∷ rows) there = ap (λ rs. r ∷ rs) (defined-same n e rows there)

-- a slot's entry written is its row defined
pub map-set_value_at : (slots : List (String Global × Slot)) (n : ℕ) (slot new : Slot) (entry : TypeEntry)
    → new.row.value ≡ record slot.row.value { entry = Some entry } → slice_get (values_of slots) n ≡ Some slot
    → map row_of (set_value_at slots n new) ≡ defined n (entry_of entry) (map row_of slots)
map-set_value_at [] n slot new entry is there = refl
map-set_value_at (s ∷ slots) zero slot new entry is there =
    let says : row_of (s.0, new) ≡ record (row_of (s.0, slot)) { entry = Some (entry_of entry) } =
    ap (λ (v : NamedEntry). record { id = string_bytes s.0; name = string_bytes v.name; entry = option_map entry_of v.entry }) is in
    cc
map-set_value_at (s ∷ slots) (suc n) slot new entry is there =
    ap (λ rs. row_of s ∷ rs) (map-set_value_at slots n slot new entry is there)

-- the ids of rows are the keys of the map, which are distinct
ids_after : (k : String Global) (es : List (String Global × Slot)) → AllByRecursion (λ y. string_eq k y ≡ false) (keys_of es)
    → AllByRecursion (λ y. bytes_eq (string_bytes k) y ≡ false) (map (λ r. r.id) (map row_of es))
ids_after k [] others = others
ids_after k (e ∷ es) others = (others.0, ids_after k es others.1)

pub ids_distinct : (es : List (String Global × Slot)) → IsDistinct string_eq (keys_of es) → HasDistinctIds (map row_of es)
unfolding IsDistinct
ids_distinct [] keys = keys
ids_distinct (e ∷ es) keys = (ids_after e.0 es keys.0, ids_distinct es keys.1)
