-- What is read from a text has whole numbers of 64 bits and finite floats, and keys in order, each once.
use Rattle.std.proofs.Common.{◌≡◌, ℕ, zero, suc, List, Bool, true, false, Option, Some, None, Ordering, Less, Equal, Greater, nat_cmp, refl, subst, arith}
use Rattle.schemagen_input.proofs.Words.{cond_both, leb-true, ltb-true, option_and_then_some, ◌^◌, ◌&&◌, ◌==◌, drop, slice_index, nat_lt, nat_le, option_map, option_and_then, if◌then◌else◌, ⊤, IfSome, match_ordering, slice_cmp, Parts, digits_of, minus, nearest, scan, with_sign, binary64, float_is_finite, tokens, Num, unsigned, negative, float, Data, number, object, array, item, Members, no_members, member, put, is_integer, float_of, number_from, number_of, of_json, of_items, of_members, max_depth, read, IsNumber, Text, IsSorted, sorted-put, IsAsRead, AreAsRead, AreMembersAsRead, if_mapped, if_next}
use Rattle.json.specs.Json as json

-- ---- numbers

float_read : (sign : Bool) (p : Parts) → IfSome (float_of sign p) IsNumber
float_read sign p =
    let x = nearest binary64 sign p in
    cond_both (float_is_finite x) (Some (float x)) None (λ o. IfSome o IsNumber) (λ h. h) (λ _. tt)

last_of : (a b : Bool) → (a && b) ≡ true → b ≡ true
last_of true b h = h
last_of false b h = cc

first_of : (a b : Bool) → (a && b) ≡ true → a ≡ true
first_of true b h = refl
first_of false b h = cc

below_zero : (n : ℕ) (b : Bool) (o : Option Num) → IfSome o IsNumber
    → IfSome (if (b && nat_lt 0 n) && nat_le n (2 ^ 63) then Some (negative (with_sign true n)) else o) IsNumber
below_zero n b o other =
    cond_both ((b && nat_lt 0 n) && nat_le n (2 ^ 63)) (Some (negative (with_sign true n))) o (λ q. IfSome q IsNumber)
    (λ h. small n (last_of b _ (first_of _ _ h)) (last_of (b && nat_lt 0 n) _ h)) (λ _. other)
  where
    small : (m : ℕ) → nat_lt 0 m ≡ true → nat_le m (2 ^ 63) ≡ true → IsNumber (negative (with_sign true m))
    small zero some most = cc
    small (suc m) some most = let bound = leb-true (suc m) (2 ^ 63) most in omega (arith, bound)

number_from_read : (sign : Bool) (p : Parts) → IfSome (number_from sign p) IsNumber
number_from_read false p =
    let n = digits_of p in
    cond_both (is_integer p && nat_lt n (2 ^ 64)) (Some (unsigned n)) (float_of false p) (λ o. IfSome o IsNumber)
    (λ h. ltb-true n (2 ^ 64) (last_of (is_integer p) _ h)) (λ _. float_read false p)
number_from_read true p = below_zero (digits_of p) (is_integer p) (float_of true p) (float_read true p)

number_read : (s : List ℕ) → IfSome (number_of s) IsNumber
unfolding number_of
number_read s =
    let negative_one = number_from true (scan (drop 1 s)) in
    let other = number_from false (scan s) in
    cond_both (slice_index s 0 == minus) negative_one other (λ o. IfSome o IsNumber) (λ _. number_from_read true (scan (drop 1 s)))
    (λ _. number_from_read false (scan s))

-- ---- members

abbrev Each : Members → Type 0
Each no_members = ⊤
Each (member k d ms) = IsAsRead d × Each ms

each-put : (k : Text) (d : Data) (ms : Members) → IsAsRead d → Each ms → Each (put k d ms)
each-put k d no_members new old = (new, tt)
each-put k d (member l e ms) new old = go (slice_cmp nat_cmp k l) (each-put k d ms new old.1)
  where
    go : (o : Ordering) → Each (put k d ms) → Each (match_ordering o (member k d (member l e ms)) (member l d ms) (member l e (put k d ms)))
    go Less later = (new, old)
    go Equal later = (new, old.1)
    go Greater later = (old.0, later)

are_read : (ms : Members) → IsSorted ms → Each ms → AreMembersAsRead ms
are_read no_members sorted each = tt
are_read (member k d ms) sorted each = (each.0, sorted.0, are_read ms sorted.1 each.1)

-- ---- values

mutual
  value_read : (j : json.Json) → IfSome (of_json j) IsAsRead
  value_read json.null = tt
  value_read (json.boolean b) = tt
  value_read (json.number s) = if_mapped IsNumber IsAsRead number (number_of s) (λ n h. h) (number_read s)
  value_read (json.string s) = tt
  value_read (json.array js) = if_mapped AreAsRead IsAsRead array (of_items js) (λ ds h. h) (items_read js)
  value_read (json.object ms) =
      if_mapped AreMembersAsRead IsAsRead object (of_members ms no_members) (λ ns h. h) (members_read ms no_members tt tt)

  items_read : (js : json.Items) → IfSome (of_items js) AreAsRead
  items_read json.no_items = tt
  items_read (json.item j js) = if_next IsAsRead AreAsRead (λ d. option_map (item d) (of_items js)) (of_json j)
      (λ d h. if_mapped AreAsRead AreAsRead (item d) (of_items js) (λ ds rest. (h, rest)) (items_read js)) (value_read j)

  members_read : (ms : json.Members) (found : Members) → IsSorted found → Each found → IfSome (of_members ms found) AreMembersAsRead
  members_read json.no_members found sorted each = are_read found sorted each
  members_read (json.member k j ms) found sorted each =
      if_next IsAsRead AreMembersAsRead (λ d. of_members ms (put k d found)) (of_json j)
      (λ d h. members_read ms (put k d found) (sorted-put k d found sorted) (each-put k d found h each)) (value_read j)

some_read : (o : Option Data) (d : Data) → o ≡ Some d → IfSome o IsAsRead → IsAsRead d
some_read None d is h = cc
some_read (Some e) d is h = let same : e ≡ d = cc in subst IsAsRead same h

pub is_as_read : (bytes : List ℕ) (d : Data) → read bytes ≡ Some d → IsAsRead d
is_as_read bytes d is =
    let parsed = option_and_then (λ p. json.if_last p.0 p.1) (json.value max_depth (tokens bytes)) in
    option_and_then_some of_json parsed d is (λ j _ made. some_read (of_json j) d made (value_read j))
