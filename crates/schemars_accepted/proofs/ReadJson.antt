-- What a text is read as is JSON.
use Rattle.std.proofs.Common.{◌≡◌, ℕ, zero, suc, List, Bool, true, false, Option, Some, None, Ordering, Less, Equal, Greater, nat_cmp, subst, arith}
use Rattle.schemars_accepted.proofs.Words.{and_parts, cond_both, leb-true, ltb-true, ◌^◌, ◌&&◌, ◌==◌, drop, slice_index, nat_lt, nat_le, option_map, option_and_then, ⊤, IfSome, match_ordering, slice_cmp, IsUtf8, Parts, digits_of, minus, nearest, scan, with_sign, binary64, float_is_finite, tokens, unsigned, negative, float, Data, number, object, array, Members, no_members, put, is_integer, float_of, number_from, number_of, of_json, of_items, of_members, max_depth, read, IsNumber, Text, IsJson, AreJson, AreJsonMembers, IsSorted, sorted-put}
use Rattle.json.specs.Json as json
use Rattle.serde_json.specs.Data.{item, member}
use Rattle.schemars_accepted.proofs.Lexed.{HasTexts, ItemsHaveTexts, MembersHaveTexts, tree_has_texts}

-- ---- numbers

float_read : (sign : Bool) (p : Parts) → IfSome (float_of sign p) IsNumber
float_read sign p =
    let x = nearest binary64 sign p in
    cond_both (float_is_finite x) (Some (float x)) None (λ o. IfSome o IsNumber) (λ h. h) (λ _. tt)

below_zero : (n : ℕ) → nat_lt 0 n ≡ true → nat_le n (2 ^ 63) ≡ true → IsNumber (negative (with_sign true n))
below_zero zero some most = cc
below_zero (suc n) some most = let bound = leb-true (suc n) (2 ^ 63) most in omega arith

number_from_read : (sign : Bool) (p : Parts) → IfSome (number_from sign p) IsNumber
number_from_read false p =
    let n = digits_of p in
    cond_both (is_integer p && nat_lt n (2 ^ 64)) (Some (unsigned n)) (float_of false p) (λ o. IfSome o IsNumber)
    (λ h. ltb-true n (2 ^ 64) (and_parts (is_integer p) _ h).1) (λ _. float_read false p)
number_from_read true p =
    let n = digits_of p in
    cond_both (is_integer p && nat_lt 0 n && nat_le n (2 ^ 63)) (Some (negative (with_sign true n))) (float_of true p)
    (λ o. IfSome o IsNumber) (λ h. let parts = and_parts (is_integer p && nat_lt 0 n) (nat_le n (2 ^ 63)) h in
    below_zero n (and_parts (is_integer p) (nat_lt 0 n) parts.0).1 parts.1) (λ _. float_read true p)

number_read : (s : List ℕ) → IfSome (number_of s) IsNumber
unfolding number_of
number_read s =
    cond_both (slice_index s 0 == minus) (number_from true (scan (drop 1 s))) (number_from false (scan s)) (λ o. IfSome o IsNumber)
    (λ _. number_from_read true (scan (drop 1 s))) (λ _. number_from_read false (scan s))

-- ---- members

abbrev Each : Members → Type 0
Each no_members = ⊤
Each (member k d ms) = IsUtf8 k × IsJson d × Each ms

each-put : (k : Text) (d : Data) (ms : Members) → IsUtf8 k → IsJson d → Each ms → Each (put k d ms)
each-put k d no_members u new old = (u, new, tt)
each-put k d (member l e ms) u new old = go (slice_cmp nat_cmp k l) (each-put k d ms u new old.2)
  where
    go : (o : Ordering) → Each (put k d ms) → Each (match_ordering o (member k d (member l e ms)) (member l d ms) (member l e (put k d ms)))
    go Less later = (u, new, old)
    go Equal later = (old.0, new, old.2)
    go Greater later = (old.0, old.1, later)

in_order : (ms : Members) → IsSorted ms → Each ms → AreJsonMembers ms
in_order no_members sorted each = tt
in_order (member k d ms) sorted each = (each.0, each.1, sorted.0, in_order ms sorted.1 each.2)

-- ---- values

module _ {A B : Type 0} (P : A → Type 0) (Q : B → Type 0) where
  mapped : (f : A → B) (o : Option A) → ((a : A) → P a → Q (f a)) → IfSome o P → IfSome (option_map f o) Q
  mapped f None keeps h = tt
  mapped f (Some a) keeps h = keeps a h

  next : (f : A → Option B) (o : Option A) → ((a : A) → P a → IfSome (f a) Q) → IfSome o P → IfSome (option_and_then f o) Q
  next f None keeps h = tt
  next f (Some a) keeps h = keeps a h

mutual
  value_read : (j : json.Json) → HasTexts j → IfSome (of_json j) IsJson
  value_read json.null u = tt
  value_read (json.boolean b) u = tt
  value_read (json.number s) u = mapped IsNumber IsJson number (number_of s) (λ n h. h) (number_read s)
  value_read (json.string s) u = u
  value_read (json.array js) u = mapped AreJson IsJson array (of_items js) (λ ds h. h) (items_read js u)
  value_read (json.object ms) u =
      mapped AreJsonMembers IsJson object (of_members ms no_members) (λ ns h. h) (members_read ms no_members u tt tt)

  items_read : (js : json.Items) → ItemsHaveTexts js → IfSome (of_items js) AreJson
  items_read json.no_items u = tt
  items_read (json.item j js) u = next IsJson AreJson (λ d. option_map (item d) (of_items js)) (of_json j)
      (λ d h. mapped AreJson AreJson (item d) (of_items js) (λ ds rest. (h, rest)) (items_read js u.1)) (value_read j u.0)

  members_read : (ms : json.Members) (found : Members) → MembersHaveTexts ms → IsSorted found → Each found
      → IfSome (of_members ms found) AreJsonMembers
  members_read json.no_members found u sorted each = in_order found sorted each
  members_read (json.member k j ms) found u sorted each = next IsJson AreJsonMembers (λ d. of_members ms (put k d found)) (of_json j)
      (λ d h. members_read ms (put k d found) u.2 (sorted-put k d found sorted) (each-put k d found u.0 h each)) (value_read j u.1)

pub read_is_json : (text : List ℕ) (d : Data) → IsUtf8 text → read text ≡ Some d → IsJson d
read_is_json text d u is =
    let tree = option_and_then (λ p. json.if_last p.0 p.1) (json.value max_depth (tokens text)) in
    subst (λ o. IfSome o IsJson) is (next HasTexts IsJson of_json tree value_read (tree_has_texts max_depth text u))
