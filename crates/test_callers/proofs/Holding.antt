-- What an empty table holds once a type was registered in it.
use Rattle.std.proofs.Common.{◌≡◌, ℕ, List, [], ◌∷◌, length, Bool, true, false, Some, refl, sym, ◌∙◌, subst, if◌then◌else◌}
use Rattle.test_callers.proofs.Words.{slice_get, bytes_eq, bytes_eq-Decides, Text, Entry, Row, place_of, place_of-below, Unsaid, IsMade, Told, Dictionary, Defined, Pending, TypeRow, told_of, IsFree, IsIn, staged, IsRegistered, HoldsOne, HoldsTwo, HoldsThree, HoldsChain}
use Rattle.test_callers.proofs.Counting.{count_one, count_two, count_three}
use Rattle.test_callers.proofs.Telling.{told_or, listing, listing_followed, FollowsEach, row_of, row_told, apart_places, only_one, only_two, only_three}

nothing : Told
nothing = record { name = []; inline = true; making = Unsaid }

-- ---- what the dictionary tells

itself : (id : Text) → bytes_eq id id ≡ true
itself id = (bytes_eq-Decides id id).1 refl

chosen : {A : Type 0} (b : Bool) (x y : A) → b ≡ true → (if b then x else y) ≡ x
chosen b x y is = rw is refl

pub passed : {A : Type 0} (b : Bool) (x y : A) → b ≡ false → (if b then x else y) ≡ y
passed b x y is = rw is refl

first_told : (other a : Told) (id : Text) (rest : List (Text × Told)) → told_or other ((id, a) ∷ rest) id ≡ a
first_told other a id rest = chosen (bytes_eq id id) a (told_or other rest id) (itself id)

later_told : (other a b : Told) (id x : Text) (rest : List (Text × Told)) → bytes_eq id x ≡ false → told_or other rest id ≡ b
    → told_or other ((x, a) ∷ rest) id ≡ b
later_told other a b id x rest apart told = passed (bytes_eq id x) a (told_or other rest id) apart ∙ told

-- a type that is told is in the dictionary if its parts are
type_in : (t : TypeRow) (entries : List (Text × Told)) (other : Told) → told_or other entries t.id ≡ told_of t
    → t.parts (staged t.id Pending (listing entries other)) → IsIn t (listing entries other)
unfolding IsIn
type_in t entries other told parts = record { told = told; free = tt; parts = parts }

-- the same of a part while the type is being described
part_in : (part : TypeRow) (id : Text) (entries : List (Text × Told)) (other : Told) → bytes_eq part.id id ≡ false
    → told_or other entries part.id ≡ told_of part → ((d : Dictionary) → part.parts d)
    → IsIn part (staged id Pending (listing entries other))
unfolding IsIn
part_in part id entries other apart told leaf = record {
  told = told;
  free = subst IsFree (sym (passed (bytes_eq part.id id) Pending Defined apart)) tt;
  parts = leaf (staged part.id Pending (staged id Pending (listing entries other)));
}

follows_each : (t : TypeRow) (rows : List Row) (n : ℕ) (entries : List (Text × Told)) → IsRegistered t rows n
    → ((other : Told) → IsIn t (listing entries other)) → FollowsEach entries rows
follows_each t rows n entries r inside other = r.follows.each (listing entries other) (inside other) (listing_followed entries other)

-- the same row, with its entry as it is made
made_so : (t : TypeRow) (rows : List Row) (n : ℕ) (g e : Entry) → slice_get rows n ≡ Some (row_of t g) → g ≡ e
    → slice_get rows n ≡ Some (row_of t e)
made_so t rows n g e is made = subst (λ (x : Entry). slice_get rows n ≡ Some (row_of t x)) made is

-- ---- types without parts, of one part, and of two

pub holds_one : (t : TypeRow) (e : Entry) (rows : List Row) (n : ℕ) → IsRegistered t rows n → ((d : Dictionary) → t.parts d)
    → ((g : Entry) → IsMade t.making rows g → g ≡ e) → HoldsOne (row_of t e) rows n
holds_one t e rows n r leaf made =
    let entries : List (Text × Told) = (t.id, told_of t) ∷ [] in
    let told : (other : Told) → told_or other entries t.id ≡ told_of t = λ other. first_told other (told_of t) t.id [] in
    let follows : FollowsEach entries rows = follows_each t rows n entries r (λ other. type_in t entries other (told other) (leaf _)) in
    let x = row_told entries nothing t rows n (told nothing) (follows nothing) r.number in
    record {
      whole_is = made_so t rows n x.0 e x.2 (made x.0 x.1);
      count = count_one (length rows) n (place_of-below t.id rows n r.number)
          (λ k below. only_one rows r.distinct k below t.id (told_of t) n follows r.number);
    }

pub holds_two : (t part : TypeRow) (make : ℕ → Entry) (e : Entry) (rows : List Row) (n : ℕ) → IsRegistered t rows n
    → bytes_eq part.id t.id ≡ false → ((d : Dictionary) → IsIn part d → t.parts d) → ((d : Dictionary) → part.parts d)
    → ((g : Entry) → IsMade t.making rows g → (m : ℕ) × (place_of part.id rows ≡ Some m) × (g ≡ make m))
    → ((g : Entry) → IsMade part.making rows g → g ≡ e) → HoldsTwo (λ m. row_of t (make m)) (row_of part e) rows n
holds_two t part make e rows n r apart parts leaf made made_part =
    let entries : List (Text × Told) = (t.id, told_of t) ∷ (part.id, told_of part) ∷ [] in
    let told : (other : Told) → told_or other entries t.id ≡ told_of t =
    λ other. first_told other (told_of t) t.id ((part.id, told_of part) ∷ []) in
    let told_part : (other : Told) → told_or other entries part.id ≡ told_of part =
    λ other. later_told other (told_of t) (told_of part) part.id t.id ((part.id, told_of part) ∷ []) apart
    (first_told other (told_of part) part.id []) in
    let follows : FollowsEach entries rows =
    follows_each t rows n entries r
    (λ other. type_in t entries other (told other) (parts _ (part_in part t.id entries other apart (told_part other) leaf))) in
    let x = row_told entries nothing t rows n (told nothing) (follows nothing) r.number in
    let p = made x.0 x.1 in
    let y = row_told entries nothing part rows p.0 (told_part nothing) (follows nothing) p.1 in
    record {
      m = p.0;
      whole_is = made_so t rows n x.0 (make p.0) x.2 p.2;
      part_is = made_so part rows p.0 y.0 e y.2 (made_part y.0 y.1);
      count = count_two (length rows) n p.0 (place_of-below t.id rows n r.number) (place_of-below part.id rows p.0 p.1)
          (apart_places t.id part.id rows n p.0 apart r.number p.1)
          (λ k below. only_two rows r.distinct k below t.id part.id (told_of t) (told_of part) n p.0 follows r.number p.1);
    }

pub holds_three : (t a b : TypeRow) (make : ℕ → ℕ → Entry) (e f : Entry) (rows : List Row) (n : ℕ) → IsRegistered t rows n
    → bytes_eq a.id t.id ≡ false → bytes_eq b.id t.id ≡ false → bytes_eq b.id a.id ≡ false
    → ((d : Dictionary) → IsIn a d → IsIn b d → t.parts d) → ((d : Dictionary) → a.parts d) → ((d : Dictionary) → b.parts d)
    → ((g : Entry) → IsMade t.making rows g
    → (i j : ℕ) × (place_of a.id rows ≡ Some i) × (place_of b.id rows ≡ Some j) × (g ≡ make i j))
    → ((g : Entry) → IsMade a.making rows g → g ≡ e) → ((g : Entry) → IsMade b.making rows g → g ≡ f)
    → HoldsThree (λ i j. row_of t (make i j)) (row_of a e) (row_of b f) rows n
holds_three t a b make e f rows n r at bt ba parts leaf_a leaf_b made made_a made_b =
    let entries : List (Text × Told) = (t.id, told_of t) ∷ (a.id, told_of a) ∷ (b.id, told_of b) ∷ [] in
    let told : (other : Told) → told_or other entries t.id ≡ told_of t =
    λ other. first_told other (told_of t) t.id ((a.id, told_of a) ∷ (b.id, told_of b) ∷ []) in
    let told_a : (other : Told) → told_or other entries a.id ≡ told_of a =
    λ other. later_told other (told_of t) (told_of a) a.id t.id ((a.id, told_of a) ∷ (b.id, told_of b) ∷ []) at
    (first_told other (told_of a) a.id ((b.id, told_of b) ∷ [])) in
    let told_b : (other : Told) → told_or other entries b.id ≡ told_of b =
    λ other. later_told other (told_of t) (told_of b) b.id t.id ((a.id, told_of a) ∷ (b.id, told_of b) ∷ []) bt
    (later_told other (told_of a) (told_of b) b.id a.id ((b.id, told_of b) ∷ []) ba (first_told other (told_of b) b.id [])) in
    let follows : FollowsEach entries rows =
    follows_each t rows n entries r
    (λ other. type_in t entries other (told other)
    (parts _ (part_in a t.id entries other at (told_a other) leaf_a) (part_in b t.id entries other bt (told_b other) leaf_b))) in
    let x = row_told entries nothing t rows n (told nothing) (follows nothing) r.number in
    let p = made x.0 x.1 in
    let y = row_told entries nothing a rows p.0 (told_a nothing) (follows nothing) p.2 in
    let z = row_told entries nothing b rows p.1 (told_b nothing) (follows nothing) p.3 in
    record {
      a = p.0;
      b = p.1;
      whole_is = made_so t rows n x.0 (make p.0 p.1) x.2 p.4;
      first_is = made_so a rows p.0 y.0 e y.2 (made_a y.0 y.1);
      second_is = made_so b rows p.1 z.0 f z.2 (made_b z.0 z.1);
      count = count_three (length rows) n p.0 p.1 (place_of-below t.id rows n r.number) (place_of-below a.id rows p.0 p.2)
          (place_of-below b.id rows p.1 p.3) (apart_places t.id a.id rows n p.0 at r.number p.2)
          (apart_places t.id b.id rows n p.1 bt r.number p.3) (apart_places a.id b.id rows p.0 p.1 ba p.2 p.3)
          (λ k below. only_three rows r.distinct k below t.id a.id b.id (told_of t) (told_of a) (told_of b) n p.0 p.1 follows
          r.number p.2 p.3);
    }

-- ---- types of one part, which has one part

-- the innermost part while the other two are being described
innermost_in : (t mid part : TypeRow) (entries : List (Text × Told)) (other : Told) → bytes_eq part.id t.id ≡ false
    → bytes_eq part.id mid.id ≡ false → told_or other entries part.id ≡ told_of part → ((d : Dictionary) → part.parts d)
    → IsIn part (staged mid.id Pending (staged t.id Pending (listing entries other)))
unfolding IsIn
innermost_in t mid part entries other pt pm told leaf = record {
  told = told;
  free = subst IsFree (sym (passed (bytes_eq part.id mid.id) Pending (if bytes_eq part.id t.id then Pending else Defined) pm
      ∙ passed (bytes_eq part.id t.id) Pending Defined pt)) tt;
  parts = leaf _;
}

-- the part between them while the type is being described
middle_in : (t mid : TypeRow) (entries : List (Text × Told)) (other : Told) → bytes_eq mid.id t.id ≡ false
    → told_or other entries mid.id ≡ told_of mid → mid.parts (staged mid.id Pending (staged t.id Pending (listing entries other)))
    → IsIn mid (staged t.id Pending (listing entries other))
unfolding IsIn
middle_in t mid entries other mt told parts =
    record { told = told; free = subst IsFree (sym (passed (bytes_eq mid.id t.id) Pending Defined mt)) tt; parts = parts }

pub holds_chain : (t mid part : TypeRow) (make make_mid : ℕ → Entry) (e : Entry) (rows : List Row) (n : ℕ) → IsRegistered t rows n
    → bytes_eq mid.id t.id ≡ false → bytes_eq part.id t.id ≡ false → bytes_eq part.id mid.id ≡ false
    → ((d : Dictionary) → IsIn mid d → t.parts d) → ((d : Dictionary) → IsIn part d → mid.parts d) → ((d : Dictionary) → part.parts d)
    → ((g : Entry) → IsMade t.making rows g → (m : ℕ) × (place_of mid.id rows ≡ Some m) × (g ≡ make m))
    → ((g : Entry) → IsMade mid.making rows g → (m : ℕ) × (place_of part.id rows ≡ Some m) × (g ≡ make_mid m))
    → ((g : Entry) → IsMade part.making rows g → g ≡ e)
    → HoldsChain (λ m. row_of t (make m)) (λ m. row_of mid (make_mid m)) (row_of part e) rows n
holds_chain t mid part make make_mid e rows n r mt pt pm parts parts_mid leaf made made_mid made_part =
    let entries : List (Text × Told) = (t.id, told_of t) ∷ (mid.id, told_of mid) ∷ (part.id, told_of part) ∷ [] in
    let told : (other : Told) → told_or other entries t.id ≡ told_of t =
    λ other. first_told other (told_of t) t.id ((mid.id, told_of mid) ∷ (part.id, told_of part) ∷ []) in
    let told_mid : (other : Told) → told_or other entries mid.id ≡ told_of mid =
    λ other. later_told other (told_of t) (told_of mid) mid.id t.id ((mid.id, told_of mid) ∷ (part.id, told_of part) ∷ []) mt
    (first_told other (told_of mid) mid.id ((part.id, told_of part) ∷ [])) in
    let told_part : (other : Told) → told_or other entries part.id ≡ told_of part =
    λ other. later_told other (told_of t) (told_of part) part.id t.id ((mid.id, told_of mid) ∷ (part.id, told_of part) ∷ []) pt
    (later_told other (told_of mid) (told_of part) part.id mid.id ((part.id, told_of part) ∷ []) pm
    (first_told other (told_of part) part.id [])) in
    let follows : FollowsEach entries rows =
    follows_each t rows n entries r
    (λ other. type_in t entries other (told other) (parts _ (middle_in t mid entries other mt (told_mid other)
    (parts_mid _ (innermost_in t mid part entries other pt pm (told_part other) leaf))))) in
    let x = row_told entries nothing t rows n (told nothing) (follows nothing) r.number in
    let p = made x.0 x.1 in
    let y = row_told entries nothing mid rows p.0 (told_mid nothing) (follows nothing) p.1 in
    let q = made_mid y.0 y.1 in
    let z = row_told entries nothing part rows q.0 (told_part nothing) (follows nothing) q.1 in
    record {
      m = p.0;
      k = q.0;
      whole_is = made_so t rows n x.0 (make p.0) x.2 p.2;
      middle_is = made_so mid rows p.0 y.0 (make_mid q.0) y.2 q.2;
      part_is = made_so part rows q.0 z.0 e z.2 (made_part z.0 z.1);
      count = count_three (length rows) n p.0 q.0 (place_of-below t.id rows n r.number) (place_of-below mid.id rows p.0 p.1)
          (place_of-below part.id rows q.0 q.1) (apart_places t.id mid.id rows n p.0 mt r.number p.1)
          (apart_places t.id part.id rows n q.0 pt r.number q.1) (apart_places mid.id part.id rows p.0 q.0 pm p.1 q.1)
          (λ k below. only_three rows r.distinct k below t.id mid.id part.id (told_of t) (told_of mid) (told_of part) n p.0 q.0 follows
          r.number p.1 q.1);
    }
