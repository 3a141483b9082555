-- Rows that a type of one's own is made of besides those of other types, in tables that follow a dictionary.
use Rattle.std.proofs.Common.{◌≡◌, ◌⊎◌, ◌≤◌, inl, inr, ℕ, List, [], ◌∷◌, ◌++◌, Bool, true, false, Option, Some, None, IsSome, length, find, nat_le, is_some, option_map, option_and_then, refl, ap, sym, ◌∙◌, subst, arith, ◌==◌, if◌then◌else◌}
use Rattle.schemars_impls.proofs.Words.{nat_tests, Text, Entry, in_place, option, seq, set, tuple, array, array_of, map_from, option_name, seq_name, set_name, array_id, array_name, map_id, map_name, Refuses, Registers, Row, place_of, id_at, name_at, reserved, defined, unknown_in, with_entry, place_of-below, nat_le-above, place_of-reserved, reserved-absent, place_of-defined, Always, OfOne, IsMade, Told, Dictionary, IsNamed, Follows, TypeRow, IsTold, IsLeft, IsIn, IsInPart, KeepsTo, RefusesAs, RefusesPart, of_one, of_two, option_row, seq_row, set_row, array_row, map_row, RefusesNumbers, IsNumber, HasMap, IsMapOf, with_row, HasRow, HasRowOf, HasOptionOf, HasSeqOf, HasSetOf, IsReserved, IsCalled, called, IsMadeOf, IsOptionOf, IsSeqOf, IsSetOf, IsArrayOf, Keeps, KeepsRows}
use Rattle.schemars_types.specs.declared.error.TypesError.{TypesError}
use Rattle.schemars_types.specs.declared.error.TypesError.TheVariants.{OutOfMemory, UnknownType}
use Rattle.schemars_types.specs.declared.error.TypesError.TheVariants as fault
use Rattle.schemars_impls.proofs.Keeping.{keeps-same, keeps-trans, all-joined, reserved_keeps, place_of-kept, length-kept}
use Rattle.schemars_impls.proofs.Following.{follows-reserved, follows-joined, made-kept, id-there}
use Rattle.schemars_impls.proofs.Registering.{named, described}

-- ---- what the calls make of the table

with_row-absent : (id name : Text) (e : Entry) (rows : List Row) → place_of id rows ≡ None
    → with_row id name e rows ≡ rows ++ (record { id = id; name = name; entry = Some e }) ∷ []
with_row-absent id name e rows none = rw none refl

with_row-present : (id name : Text) (e : Entry) (rows : List Row) (n : ℕ) → place_of id rows ≡ Some n → with_row id name e rows ≡ rows
with_row-present id name e rows n there = rw there refl

defined-last : (rows : List Row) (r : Row) (e : Entry) → defined (length rows) e (rows ++ r ∷ []) ≡ rows ++ with_entry e r ∷ []
defined-last [] r e = refl
defined-last (q ∷ rows) r e = ap (λ t. q ∷ t) (defined-last rows r e)

has-present : (id name : Text) (e : Entry) (rows : List Row) (n : ℕ) → place_of id rows ≡ Some n → HasRow id name e rows rows n
has-present id name e rows n there = record { number = there; table = sym (with_row-present id name e rows n there) }

has-registered : (id name : Text) (e : Entry) (old new : List Row) (n : ℕ) → place_of id old ≡ None → Registers id name e old new n
    → HasRow id name e old new n
has-registered id name e old new n none r =
    let new_row : Row = record { id = id; name = name; entry = None } in
    let joined = reserved-absent id name old none in
    let at : place_of id (reserved id name old) ≡ Some n = sym (place_of-defined id n e (reserved id name old))
    ∙ ap (place_of id) (sym r.table) ∙ r.number in
    let last : Some (length old) ≡ Some n = sym (place_of-reserved id name old none) ∙ at in
    let n_is : n ≡ length old = cc in
    record {
      number = r.number;
      table = r.table ∙ ap (λ t. defined n e t) joined ∙ ap (λ k. defined k e (old ++ new_row ∷ [])) n_is ∙ defined-last old new_row e
          ∙ sym (with_row-absent id name e old none);
    }

has-keeps : (id name : Text) (e : Entry) (old new : List Row) (n : ℕ) → HasRow id name e old new n → Keeps old new
has-keeps id name e old new n h = subst (Keeps old) (sym h.table) (by (is_some (place_of id old)))
  where
    by : (b : Bool) → Keeps old (if b then old else old ++ (record { id = id; name = name; entry = Some e }) ∷ [])
    by true = keeps-same old old refl
    by false = record { rows = all-joined old ((record { id = id; name = name; entry = Some e }) ∷ []) }

-- a row that is made of a reserved one: it was there, or a constructor added it
module _ (id name made_id : Text) (made_name : Text → Text) (make : ℕ → Entry) (old mid : List Row) (part : ℕ)
    (mid_is : mid ≡ reserved id name old) (place : place_of id mid ≡ Some part) where
  pub row-present : (n : ℕ) → place_of made_id mid ≡ Some n → HasRowOf id name made_id made_name make old mid n
  row-present n there = subst (λ (r : List Row). HasRowOf id name made_id made_name make old r n) (sym mid_is) (record {
    part = part;
    place = ap (place_of id) (sym mid_is) ∙ place;
    has = has-present made_id (made_name (name_at (reserved id name old) part)) (make part) (reserved id name old) n
        (ap (place_of made_id) (sym mid_is) ∙ there);
  })

  pub row-made : (new : List Row) (n : ℕ) → place_of made_id mid ≡ None
      → Registers made_id (made_name (name_at mid part)) (make part) mid new n → HasRowOf id name made_id made_name make old new n
  row-made new n none r = record {
    part = part;
    place = ap (place_of id) (sym mid_is) ∙ place;
    has = subst (λ (m : List Row). HasRow made_id (made_name (name_at m part)) (make part) m new n) mid_is
        (has-registered made_id (made_name (name_at mid part)) (make part) mid new n none r);
  }

-- a constructor of an absent row, of rows that are there, refuses for want of memory alone
pub made-memory : (made_id : Text) (x : Entry) (rows : List Row) (e : TypesError) → place_of made_id rows ≡ None
    → unknown_in rows x.shape ≡ None → Refuses made_id x rows e → e ≡ OutOfMemory
made-memory made_id x rows fault.OutOfMemory none known r = refl
made-memory made_id x rows (fault.AlreadyDefined m) none known r = let never : None ≡ Some m = sym none ∙ r.1 in cc
made-memory made_id x rows (fault.UnknownType m) none known r = let never : None ≡ Some m = sym known ∙ r in cc
made-memory made_id x rows (fault.UndefinedType m) none known r = absurd r
made-memory made_id x rows (fault.RepeatedName m t) none known r = absurd r
made-memory made_id x rows (fault.DirectCycle m) none known r = absurd r
made-memory made_id x rows (fault.EmptyCycle m) none known r = absurd r

pub known-alone : (id : Text) (rows : List Row) (n : ℕ) → place_of id rows ≡ Some n → find (λ m. nat_le (length rows) m) (n ∷ []) ≡ None
known-alone id rows n there = rw (nat_le-above (length rows) n (place_of-below id rows n there)) refl

pub array-known : (id : Text) (rows : List Row) (n len : ℕ) → place_of id rows ≡ Some n → unknown_in rows (in_place (array_of n len)).shape
    ≡ None
array-known id rows n len there = by (len == 0)
  where
    by : (b : Bool) → unknown_in rows (if b then tuple [] else array n len) ≡ None
    by true = refl
    by false = known-alone id rows n there

-- what a search for the id of such a row found
pub found_at : (rows : List Row) {asked made_id : Text} {o : Option ℕ} → asked ≡ made_id → o ≡ place_of asked rows → (found : Option ℕ)
    → o ≡ found → place_of made_id rows ≡ found
found_at rows is at found same = ap (λ i. place_of i rows) (sym is) ∙ sym at ∙ same

-- such a row is made by a constructor that takes the reserved row's id and name from the table
module _ (id name : Text) (made_id made_name : Text → Text) (make : ℕ → Entry) (old mid : List Row) (part : ℕ)
    (mid_is : mid ≡ reserved id name old) (place : place_of id mid ≡ Some part) (none : place_of (made_id id) mid ≡ None) where
  pub row-added : (new : List Row) (n : ℕ) → Registers (made_id (id_at mid part)) (made_name (name_at mid part)) (make part) mid new n
      → HasRowOf id name (made_id id) made_name make old new n
  row-added new n r = row-made id name (made_id id) made_name make old mid part mid_is place new n none
      (subst (λ i. Registers (made_id i) (made_name (name_at mid part)) (make part) mid new n) (id-there id part mid place) r)

pub added-memory : (id : Text) (made_id : Text → Text) (x : Entry) (mid : List Row) (part : ℕ) (e : TypesError)
    → place_of id mid ≡ Some part → place_of (made_id id) mid ≡ None → unknown_in mid x.shape ≡ None
    → Refuses (made_id (id_at mid part)) x mid e → e ≡ OutOfMemory
added-memory id made_id x mid part e place none known r =
    made-memory (made_id id) x mid e none known (subst (λ i. Refuses (made_id i) x mid e) (id-there id part mid place) r)

-- ---- in the words of the law

pub self_reserved : (t : TypeRow) (d : Dictionary) → IsInPart t d → IsReserved t.id t.name d
self_reserved t d h = record { left = subst IsLeft (sym h.pending) tt; named = named (d.told t.id) t h.told }

pub reserve_follows : (id name : Text) (old new : List Row) → new ≡ reserved id name old → KeepsTo (IsReserved id name) old new
reserve_follows id name old new is = record {
  each = λ d h f. subst (Follows d) (sym is) (follows-reserved d id name old f h.left h.named);
}

called-there : (id name : Text) (d : Dictionary) (rows : List Row) (n : ℕ) → IsCalled id name d → Follows d rows → place_of id rows ≡ Some n
    → name_at rows n ≡ name
called-there id name d rows n h f there =
    subst (λ o. IsNamed o (name_at rows n)) h.is ((f.each id n there).name) ∙ h.named

-- a row that the table did not have
module _ (t : TypeRow) (d : Dictionary) (given : Entry) (name : Text) (old new : List Row) (m : ℕ)
    (has : HasRow t.id name (record given { inline = t.inline }) old new m) (told : IsTold (d.told t.id) t) (f : Follows d old)
    (made : IsMade t.making old given) (name_is : IsSome (d.told t.id) → name ≡ t.name) where
  named-so : (o : Option Told) → IsTold o t → (is_some o ≡ true → name ≡ t.name) → IsNamed o name
  named-so None h is = tt
  named-so (Some x) h is = is refl ∙ ap (λ (y : Told). y.name) (sym h)

  row-follows : Follows d new
  row-follows = by (place_of t.id old) refl
    where
      e : Entry
      e = record given { inline = t.inline }

      by : (o : Option ℕ) → place_of t.id old ≡ o → Follows d new
      by (Some k) found = subst (Follows d) (sym (has.table ∙ with_row-present t.id name e old k found)) f
      by None none =
          let is = has.table ∙ with_row-absent t.id name e old none in
          let kept : Keeps old (old ++ (record { id = t.id; name = name; entry = Some e }) ∷ []) = record {
            rows = all-joined old ((record { id = t.id; name = name; entry = Some e }) ∷ []);
          } in
          subst (Follows d) (sym is)
          (follows-joined d t.id name e old f none (named-so (d.told t.id) told name_is)
          (described (d.told t.id) t (old ++ (record { id = t.id; name = name; entry = Some e }) ∷ []) given told
          (made-kept t.making old (old ++ (record { id = t.id; name = name; entry = Some e }) ∷ []) given kept made)))

-- a row that is made of a reserved one follows what is told of it
module _ (t : TypeRow) (id name : Text) (made_name : Text → Text) (make : ℕ → Entry) (name_is : made_name name ≡ t.name)
    (made : (rows : List Row) (n : ℕ) → place_of id rows ≡ Some n → IsMade t.making rows (make n))
    (placed : (n : ℕ) → make n ≡ record (make n) { inline = t.inline }) where
  made-each : (old new : List Row) (m : ℕ) → HasRowOf id name t.id made_name make old new m → (d : Dictionary) → IsMadeOf t id name d
      → Follows d old → Follows d new
  made-each old new m has d h f =
      let mid = reserved id name old in
      let g : Follows d mid = follows-reserved d id name old f h.own.left h.own.named in
      let row = subst (λ e. HasRow t.id (made_name (name_at mid has.part)) e mid new m) (placed has.part) has.has in
      row-follows t d (make has.part) (made_name (name_at mid has.part)) mid new m row h.told g (made mid has.part has.place)
      (λ some. ap made_name (called-there id name d mid has.part (h.part some) g has.place) ∙ name_is)

pub row_of_keeps : {id name made_id : Text} {made_name : Text → Text} {make : ℕ → Entry} {old new : List Row} {n : ℕ}
    → HasRowOf id name made_id made_name make old new n → Keeps old new
row_of_keeps {id = id} {name = name} {made_id = made_id} {made_name = made_name} {make = make} {old = old} {new = new} {n = n} has =
    keeps-trans (reserved_keeps id name old (reserved id name old) refl)
    (has-keeps made_id (made_name (name_at (reserved id name old) has.part)) (make has.part) (reserved id name old) new n has.has)

pub option_follows : (id name : Text) {old new : List Row} {m : ℕ} → HasOptionOf id name old new m → KeepsTo (IsOptionOf id name) old new
unfolding IsOptionOf option_row of_one
option_follows id name {old = old} {new = new} {m = m} has =
    let t = option_row (called id name) in
    let make = λ (k : ℕ). in_place (option k) in
    let made = λ (rows : List Row) (n : ℕ) (there : place_of id rows ≡ Some n). ap (option_map make) there in
    record { each = λ d h f. made-each t id name option_name make refl made (λ n. refl) old new m has d h f }

pub seq_follows : (id name : Text) {old new : List Row} {m : ℕ} → HasSeqOf id name old new m → KeepsTo (IsSeqOf id name) old new
unfolding IsSeqOf seq_row of_one
seq_follows id name {old = old} {new = new} {m = m} has =
    let t = seq_row (called id name) in
    let make = λ (k : ℕ). in_place (seq k) in
    let made = λ (rows : List Row) (n : ℕ) (there : place_of id rows ≡ Some n). ap (option_map make) there in
    record { each = λ d h f. made-each t id name seq_name make refl made (λ n. refl) old new m has d h f }

pub set_follows : (id name : Text) {old new : List Row} {m : ℕ} → HasSetOf id name old new m → KeepsTo (IsSetOf id name) old new
unfolding IsSetOf set_row of_one
set_follows id name {old = old} {new = new} {m = m} has =
    let t = set_row (called id name) in
    let make = λ (k : ℕ). in_place (set k) in
    let made = λ (rows : List Row) (n : ℕ) (there : place_of id rows ≡ Some n). ap (option_map make) there in
    record { each = λ d h f. made-each t id name set_name make refl made (λ n. refl) old new m has d h f }

array-made : (b : Bool) (id : Text) (len : ℕ) (rows : List Row) (n : ℕ) → place_of id rows ≡ Some n
    → IsMade (if b then Always (in_place (tuple [])) else OfOne id (λ k. in_place (array k len))) rows
    (in_place (if b then tuple [] else array n len))
array-made true id len rows n there = refl
array-made false id len rows n there = ap (option_map (λ k. in_place (array k len))) there

pub array_follows : (len : ℕ) (id name : Text) {old new : List Row} {m : ℕ}
    → HasRowOf id name (array_id id len) (λ x. array_name x len) (λ k. in_place (array_of k len)) old new m
    → KeepsTo (IsArrayOf len id name) old new
unfolding IsArrayOf array_row
array_follows len id name {old = old} {new = new} {m = m} has =
    let t = array_row (called id name) len in
    let make = λ (k : ℕ). in_place (array_of k len) in
    let made = λ (rows : List Row) (n : ℕ) (there : place_of id rows ≡ Some n). array-made (len == 0) id len rows n there in
    record { each = λ d h f. made-each t id name (λ x. array_name x len) make refl made (λ n. refl) old new m has d h f }

-- Maps, whose keys were registered first. The name of the keys' row is told of it where that of the maps' row is.
pub map_follows : (key : TypeRow) (id name : Text) {old rows new : List Row} {k m : ℕ} → KeepsTo (IsIn key) old rows
    → place_of key.id rows ≡ Some k
    → HasRowOf id name (map_id key.id id) (λ x. map_name key.id (name_at (reserved id name rows) k) x) (λ j. in_place (map_from k j)) rows new m
    → KeepsTo (IsMapOf key id name) old new
unfolding IsMapOf map_row of_two
map_follows key id name {rows = rows} {new = new} {k = k} {m = m} first there has =
    let t = map_row key (called id name) in
    let make = λ (n : ℕ) (j : ℕ). in_place (map_from n j) in
    let mid = reserved id name rows in
    let key_there : place_of key.id mid ≡ Some k = place_of-kept key.id k (reserved_keeps id name rows mid refl) there in
    let made : IsMade t.making mid (make k has.part) =
    ap (λ o. option_and_then (λ n. option_map (λ j. make n j) (place_of id mid)) o) key_there ∙ ap (option_map (λ j. make k j)) has.place in
    let follows : (d : Dictionary) → HasMap key id name d → Follows d rows → Follows d new = λ d h f.
    let g : Follows d mid = follows-reserved d id name rows f h.made.own.left h.made.own.named in
    row-follows t d (make k has.part) (map_name key.id (name_at mid k) (name_at mid has.part)) mid new m has.has h.made.told g made
    (λ some. ap (λ x. map_name key.id x (name_at mid has.part)) (called-there key.id key.name d mid k (h.named some) g key_there)
    ∙ ap (λ x. map_name key.id key.name x) (called-there id name d mid has.part (h.made.part some) g has.place)) in
    record { each = λ d h f. follows d h (first.each d h.keys f) }

pub map_refuses : (key : TypeRow) (id name : Text) {old : List Row} {e : TypesError} → RefusesAs (IsIn key) old e
    → RefusesAs (IsMapOf key id name) old e
unfolding IsMapOf
map_refuses key id name h = record { each = λ d is f. h.each d is.keys f }

-- ---- numbers

pub placed_number : (id : Text) {rows : List Row} {n : ℕ} → place_of id rows ≡ Some n → IsNumber rows n
placed_number id {rows = rows} {n = n} there = record { below = place_of-below id rows n there }

pub row_number : {id name made_id : Text} {made_name : Text → Text} {make : ℕ → Entry} {old new : List Row} {n : ℕ}
    → HasRowOf id name made_id made_name make old new n → IsNumber new n
row_number {made_id = made_id} has = placed_number made_id has.has.number

pub numbers_memory : (rows : List Row) (ns : List ℕ) (e : TypesError) → e ≡ OutOfMemory → RefusesNumbers rows ns e
numbers_memory rows ns e is = record { cause = inl is }

-- the first number is no row's
pub numbers_unknown : (rows : List Row) (n : ℕ) (ns : List ℕ) (e : TypesError) → e ≡ UnknownType n → length rows ≤ n
    → RefusesNumbers rows (n ∷ ns) e
numbers_unknown rows n ns e is above =
    let past : nat_le (length rows) n ≡ true = grind (arith, nat_tests) in
    record { cause = inr (rw past (ap Some (sym is))) }

-- numbers of rows are not refused
pub part_numbers : {t : TypeRow} {old rows : List Row} {ns : List ℕ} {e : TypesError} → RefusesNumbers rows ns e
    → find (λ m. nat_le (length rows) m) ns ≡ None → RefusesPart t old e
part_numbers {rows = rows} {ns = ns} {e = e} h known =
    record { each = λ d in_d f. record { cause = by d h.cause } }
  where
    by : (d : Dictionary) → (e ≡ OutOfMemory) ⊎ (option_map UnknownType (find (λ m. nat_le (length rows) m) ns) ≡ Some e)
        → (e ≡ OutOfMemory) ⊎ (d.refuses e ≡ true)
    by d (inl memory) = inl memory
    by d (inr unknown) = let never : None ≡ Some e = ap (option_map UnknownType) (sym known) ∙ unknown in cc

-- the number of a row that was there before other calls
pub part_placed : {t : TypeRow} {old before rows : List Row} (id : Text) {n : ℕ} {e : TypesError} → RefusesNumbers rows (n ∷ []) e
    → place_of id before ≡ Some n → KeepsRows before rows → RefusesPart t old e
part_placed {rows = rows} id {n = n} h there kept = part_numbers h (known-alone id rows n (place_of-kept id n (kept.keeps tt) there))

pub number-known : (rows : List Row) (n : ℕ) → IsNumber rows n → find (λ m. nat_le (length rows) m) (n ∷ []) ≡ None
number-known rows n h = rw (nat_le-above (length rows) n h.below) refl

-- A table keeps its rows over several calls.
pub record KeepsThrough (old new : List Row) : Type 0 where
  pub keeps : Unit {0} → Keeps old new

pub through_none : {rows : List Row} → KeepsThrough rows rows
through_none {rows = rows} = record { keeps = λ u. keeps-same rows rows refl }

pub through_then : {a b c : List Row} → Keeps a b → KeepsThrough b c → KeepsThrough a c
through_then h rest = record { keeps = λ u. keeps-trans h (rest.keeps tt) }

-- a number that was that of a row before other calls
pub part_number : {t : TypeRow} {old before rows : List Row} {n : ℕ} {e : TypesError} → RefusesNumbers rows (n ∷ []) e → IsNumber before n
    → KeepsThrough before rows → RefusesPart t old e
part_number {before = before} {rows = rows} {n = n} h there kept =
    let is : IsNumber rows n = record { below = omega (arith, there.below, length-kept before rows (kept.keeps tt).rows) } in
    part_numbers h (number-known rows n is)
