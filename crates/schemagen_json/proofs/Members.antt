-- The members of a borrowed value, of which the last one of a name counts.
use Rattle.std.proofs.Common.{◌≡◌, ◌⊎◌, ℕ, List, [], ◌∷◌, ◌++◌, map, Bool, true, false, ◌&&◌, Some, None, is_some, ◌+◌, ◌<◌, zero, suc, length, take, get_or, arith, take_all, Bor, Ordering, Less, Equal, Greater, bytes_eq, nat_cmp, refl, sym, ap, ◌∙◌, rules, true≢false, is_eq, inl, inr}
use Rattle.schemagen_json.proofs.Words.{nat_list_cmp_total, tied_itself, is_eq-slice_cmp, and_parts, take_more, list_all-append, differ, bytes_eq-Decides, slice_cmp, match_ordering, Data, array, object, Members, no_members, member, put, get_member, get_member-put, get_member-put_other, list_all, Text, is_listed, are_listed, lone_in, put_each, data_of, items_data, members_data}
use Rattle.schemagen_json.specs.declared.borrowed_value.BorrowedValue.{BorrowedValue, Array, Object, the_lemmas}

abbrev pub Member : Type 0
Member = Bor (List ℕ) × BorrowedValue

equal_texts : (k l : Text) → slice_cmp nat_cmp k l ≡ Equal → k ≡ l
equal_texts k l is = (bytes_eq-Decides k l).0 (sym (is_eq-slice_cmp k l) ∙ ap is_eq is)

put_each-push : (ms : List (Bor (List ℕ) × Data)) (m : Bor (List ℕ) × Data) (found : Members)
    → put_each (ms ++ m ∷ []) found ≡ put m.0.now m.1 (put_each ms found)
put_each-push [] m found = refl
put_each-push (l ∷ ms) m found = put_each-push ms m (put l.0.now l.1 found)

pub map-push : {A B : Type 0} (f : A → B) (xs : List A) (x : A) → map f (xs ++ x ∷ []) ≡ map f xs ++ f x ∷ []
map-push f [] x = refl
map-push f (y ∷ xs) x = ap (λ ys. f y ∷ ys) (map-push f xs x)

-- one more member
pub members_data-push : (ms : List Member) (m : Member) → members_data (ms ++ m ∷ []) ≡ put m.0.now (data_of m.1) (members_data ms)
members_data-push ms m =
    ap (λ ds. put_each ds no_members) (map-push (λ (l : Member). (l.0, data_of l.1)) ms m)
    ∙ put_each-push (map (λ (l : Member). (l.0, data_of l.1)) ms) (m.0, data_of m.1) no_members

pub data_of-Array : (v : _) → data_of (Array v) ≡ array (items_data v.items)
data_of-Array v = search (rules, the_lemmas)

pub data_of-Object : (v : _) → data_of (Object v) ≡ object (members_data v.items)
data_of-Object v = search (rules, the_lemmas)

-- ---- look-ups

pub last_of_name : (name : List ℕ) (ms : List Member) (m : Member) → bytes_eq m.0.now name ≡ true
    → get_member name (members_data (ms ++ m ∷ [])) ≡ Some (data_of m.1)
last_of_name name ms m same =
    let is : m.0.now ≡ name = (bytes_eq-Decides m.0.now name).0 same in
    ap (get_member name) (members_data-push ms m)
    ∙ ap (λ k. get_member k (put m.0.now (data_of m.1) (members_data ms))) (sym is)
    ∙ get_member-put m.0.now (data_of m.1) (members_data ms)

pub not_of_name : (name : List ℕ) (ms : List Member) (m : Member) → bytes_eq m.0.now name ≡ false
    → get_member name (members_data (ms ++ m ∷ [])) ≡ get_member name (members_data ms)
not_of_name name ms m other =
    ap (get_member name) (members_data-push ms m)
    ∙ get_member-put_other name m.0.now (data_of m.1) (members_data ms) (λ is. true≢false (sym ((bytes_eq-Decides m.0.now name).1 (sym is)) ∙ other))

-- ---- names that are listed

and_again : (b r : Bool) → b && r ≡ b && (b && r)
and_again true r = refl
and_again false r = refl

and_true : (b : Bool) → b && true ≡ b
and_true true = refl
and_true false = refl

and_nested : (a b r : Bool) → (a && b) && r ≡ a && (b && r)
and_nested true b r = refl
and_nested false b r = refl

and_later : (a b r : Bool) → a && (b && r) ≡ b && (a && r)
and_later true b r = refl
and_later false true r = refl
and_later false false r = refl

module _ (names : List Text) where
  pub are_listed-put : (k : Text) (d : Data) (ms : Members) → are_listed names (put k d ms) ≡ is_listed k names && are_listed names ms
  are_listed-put k d no_members = refl
  are_listed-put k d (member l e ms) = by (slice_cmp nat_cmp k l) refl (are_listed-put k d ms)
    where
      by : (o : Ordering) → slice_cmp nat_cmp k l ≡ o → are_listed names (put k d ms) ≡ is_listed k names && are_listed names ms
          → are_listed names (match_ordering o (member k d (member l e ms)) (member l d ms) (member l e (put k d ms)))
          ≡ is_listed k names && (is_listed l names && are_listed names ms)
      by Less is later = refl
      by Equal is later =
          and_again (is_listed l names) (are_listed names ms)
          ∙ ap (λ t. is_listed t names && (is_listed l names && are_listed names ms)) (sym (equal_texts k l is))
      by Greater is later = rw later (and_later (is_listed l names) (is_listed k names) (are_listed names ms))

  are_listed-put_each : (ds : List (Bor (List ℕ) × Data)) (found : Members)
      → are_listed names (put_each ds found) ≡ list_all (λ (m : Bor (List ℕ) × Data). is_listed m.0.now names) ds && are_listed names found
  are_listed-put_each [] found = refl
  are_listed-put_each (m ∷ ds) found =
      are_listed-put_each ds (put m.0.now m.1 found)
      ∙ ap (λ b. list_all (λ (l : Bor (List ℕ) × Data). is_listed l.0.now names) ds && b) (are_listed-put m.0.now m.1 found)
      ∙ and_later (list_all (λ (l : Bor (List ℕ) × Data). is_listed l.0.now names) ds) (is_listed m.0.now names) (are_listed names found)
      ∙ sym (and_nested (is_listed m.0.now names) (list_all (λ (l : Bor (List ℕ) × Data). is_listed l.0.now names) ds) (are_listed names found))

  all_mapped : (ms : List Member)
      → list_all (λ (m : Bor (List ℕ) × Data). is_listed m.0.now names) (map (λ (l : Member). (l.0, data_of l.1)) ms)
      ≡ list_all (λ (m : Member). is_listed m.0.now names) ms
  all_mapped [] = refl
  all_mapped (m ∷ ms) = ap (λ b. is_listed m.0.now names && b) (all_mapped ms)

  -- the names of an object are those of its members
  pub are_listed-members : (ms : List Member) → are_listed names (members_data ms) ≡ list_all (λ (m : Member). is_listed m.0.now names) ms
  are_listed-members ms =
      are_listed-put_each (map (λ (l : Member). (l.0, data_of l.1)) ms) no_members ∙ and_true _ ∙ all_mapped ms

-- ---- one name alone

abbrev HasOnly : Text → Members → Type 0
HasOnly name ms = (ms ≡ no_members) ⊎ ((d : Data) × (ms ≡ member name d no_members))

put_alone : (name k : Text) (d : Data) (found : Members) → k ≡ name → HasOnly name found → put k d found ≡ member name d no_members
put_alone name k d found is (inl none) = ap (put k d) none ∙ ap (λ t. member t d no_members) is
put_alone name k d found is (inr one) =
    ap (put k d) one.1 ∙ ap (λ t. put t d (member name one.0 no_members)) is ∙ rw (tied_itself nat_list_cmp_total name)

has_only_stays : (name : Text) (ms : List Member) (found : Members) → HasOnly name found
    → list_all (λ (m : Member). bytes_eq m.0.now name) ms ≡ true
    → HasOnly name (put_each (map (λ (l : Member). (l.0, data_of l.1)) ms) found)
has_only_stays name [] found h all = h
has_only_stays name (m ∷ ms) found h all =
    let parts = and_parts (bytes_eq m.0.now name) (list_all (λ (l : Member). bytes_eq l.0.now name) ms) all in
    let is : m.0.now ≡ name = (bytes_eq-Decides m.0.now name).0 parts.0 in
    has_only_stays name ms (put m.0.now (data_of m.1) found) (inr (data_of m.1, put_alone name m.0.now (data_of m.1) found is h)) parts.1

-- all members have the name of the last one
pub lone_named : (ms : List Member) (i : ℕ) (m : Member) → length ms ≡ i + 1 → m ≡ get_or ms i m
    → list_all (λ (l : Member). bytes_eq l.0.now m.0.now) ms ≡ true → lone_in (members_data ms) ≡ Some (m.0.now, data_of m.1)
lone_named ms i m many is all =
    let split : ms ≡ take i ms ++ m ∷ [] =
    sym (take_all (i + 1) ms (omega (arith, many))) ∙ take_more ms i m (omega (arith, many))
    ∙ ap (λ (y : Member). take i ms ++ y ∷ []) (sym is) in
    let named = λ (l : Member). bytes_eq l.0.now m.0.now in
    let parts = and_parts (list_all named (take i ms)) (list_all named (m ∷ []))
    (sym (list_all-append named (take i ms) (m ∷ [])) ∙ ap (list_all named) (sym split) ∙ all) in
    ap lone_in (ap members_data split ∙ members_data-push (take i ms) m
    ∙ put_alone m.0.now m.0.now (data_of m.1) (members_data (take i ms)) refl (has_only_stays m.0.now (take i ms) no_members (inl refl) parts.0))

found_stays : (k : Text) (ds : List (Bor (List ℕ) × Data)) (found : Members) → is_some (get_member k found) ≡ true
    → is_some (get_member k (put_each ds found)) ≡ true
found_stays k [] found h = h
found_stays k (m ∷ ds) found h = found_stays k ds (put m.0.now m.1 found) (by (bytes_eq k m.0.now) refl)
  where
    by : (b : Bool) → bytes_eq k m.0.now ≡ b → is_some (get_member k (put m.0.now m.1 found)) ≡ true
    by true same =
        let is : k ≡ m.0.now = (bytes_eq-Decides k m.0.now).0 same in
        ap is_some (ap (λ t. get_member t (put m.0.now m.1 found)) is ∙ get_member-put m.0.now m.1 found)
    by false other = ap is_some (get_member-put_other k m.0.now m.1 found (differ k m.0.now other)) ∙ h

found_from : (ms : List Member) (found : Members) (i : ℕ) (x : Member) → i < length ms → x ≡ get_or ms i x
    → is_some (get_member x.0.now (put_each (map (λ (l : Member). (l.0, data_of l.1)) ms) found)) ≡ true
found_from [] found i x within is = absurd (omega arith)
found_from (m ∷ ms) found zero x within is =
    found_stays x.0.now (map (λ (l : Member). (l.0, data_of l.1)) ms) (put m.0.now (data_of m.1) found)
    (ap (λ (y : Member). is_some (get_member y.0.now (put m.0.now (data_of m.1) found))) is
    ∙ ap is_some (get_member-put m.0.now (data_of m.1) found))
found_from (m ∷ ms) found (suc i) x within is = found_from ms (put m.0.now (data_of m.1) found) i x (omega arith) is

two_names : (ms : Members) (j k : Text) → bytes_eq j k ≡ false → is_some (get_member j ms) ≡ true → is_some (get_member k ms) ≡ true
    → lone_in ms ≡ None
two_names no_members j k apart a b = cc
two_names (member l d no_members) j k apart a b =
    let same : bytes_eq j k ≡ true = (bytes_eq-Decides j k).1 (alone j l d a ∙ sym (alone k l d b)) in
    absurd (true≢false (sym same ∙ apart))
  where
    alone : (q l : Text) (d : Data) → is_some (get_member q (member l d no_members)) ≡ true → q ≡ l
    alone q l d h = by (slice_cmp nat_cmp q l) refl h
      where
        by : (o : Ordering) → slice_cmp nat_cmp q l ≡ o → is_some (match_ordering o None (Some d) None) ≡ true → q ≡ l
        by Less is there = cc
        by Equal is there = equal_texts q l is
        by Greater is there = cc
two_names (member l d (member m e ms)) j k apart a b = refl

-- two members have different names
pub not_lone : (ms : List Member) (i j : ℕ) (x y : Member) → i < length ms → x ≡ get_or ms i x → j < length ms → y ≡ get_or ms j y
    → bytes_eq x.0.now y.0.now ≡ false → lone_in (members_data ms) ≡ None
not_lone ms i j x y i_within x_is j_within y_is apart =
    two_names (members_data ms) x.0.now y.0.now apart (found_from ms no_members i x i_within x_is) (found_from ms no_members j y j_within y_is)
