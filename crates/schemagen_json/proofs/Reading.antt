-- What the grammar reads, by the first token, under the conversion to data.
use Rattle.std.proofs.Common.{◌≡◌, ℕ, zero, suc, ◌-◌, ◌<◌, ◌≤◌, List, [], ◌∷◌, ◌++◌, Bool, Option, Some, None, option_map, option_and_then, length, refl, ap, ◌∙◌}
use Rattle.schemagen_json.proofs.Words.{Token, Parse, parse_map, after_end_array, read_key, items_step, value, items, members, value_is, value-begin_array, value-begin_object, items_end, items_more, members_end, members_more, members_no_key, Data, Num, null, boolean, number, string, array, object, Items, no_items, item, Members, no_members, put, of_json, of_items, of_members, converted, number_of, items_of}
use Rattle.json.specs.Json as json

-- ---- the conversion

abbrev unwrap_or : {A : Type 0} → A → Option A → A
unwrap_or a None = a
unwrap_or a (Some b) = b

-- what is converted was read
taken : {A B : Type 0} (f : A → Option B) (o : Option (A × List Token)) (b : B) (rest : List Token) → converted f o ≡ Some (b, rest)
    → (a : A) × (o ≡ Some (a, rest)) × (f a ≡ Some b)
taken f None b rest e = cc
taken {A = A} {B = B} f (Some p) b rest e = by (f p.0) refl e
  where
    by : (x : Option B) → f p.0 ≡ x → option_map {U = B × List Token} (λ y. (y, p.1)) x ≡ Some (b, rest)
        → (a : A) × (Some p ≡ Some (a, rest)) × (f a ≡ Some b)
    by None is h = cc
    by (Some y) is h =
        let same = ap (unwrap_or (b, rest)) h in
        (p.0, ap (λ q. Some (p.0, q.1)) same, is ∙ ap (λ q. Some q.0) same)

-- what was read is not converted
untaken : {A B : Type 0} (f : A → Option B) (p : A × List Token) → converted f (Some p) ≡ None → f p.0 ≡ None
untaken {B = B} f p e = by (f p.0) e
  where
    by : (x : Option B) → option_map {U = B × List Token} (λ y. (y, p.1)) x ≡ None → x ≡ None
    by None h = refl
    by (Some y) h = cc

inside : {A B : Type 0} (g : A → B) (rest : List Token) (x : Option A)
    → option_map (λ b. (b, rest)) (option_map g x) ≡ parse_map g (option_map (λ a. (a, rest)) x)
inside g rest None = refl
inside g rest (Some a) = refl

converted-array : (o : Option (json.Items × List Token))
    → converted of_json (parse_map json.array o) ≡ parse_map array (converted of_items o)
converted-array None = refl
converted-array (Some p) = inside array p.1 (of_items p.0)

converted-object : (o : Option (json.Members × List Token))
    → converted of_json (parse_map json.object o) ≡ parse_map object (converted (λ ms. of_members ms no_members) o)
converted-object None = refl
converted-object (Some p) = inside object p.1 (of_members p.0 no_members)

-- ---- one value

-- what is read from these tokens, nested at most so deep
abbrev pub read_at : ℕ → List Token → Option (Data × List Token)
read_at depth ts = converted of_json (value depth ts)

abbrev pub items_at : ℕ → List Token → Option (Items × List Token)
items_at depth ts = converted of_items (items (value depth) (length ts) ts)

abbrev pub members_at : ℕ → List Token → Option (Members × List Token)
members_at depth ts = converted (λ ms. of_members ms no_members) (members (value depth) (length ts) ts)

module _ (depth : ℕ) (ts rest : List Token) where
  pub nothing_read : ts ≡ [] → read_at depth ts ≡ None
  nothing_read is = ap (read_at depth) is ∙ ap (converted of_json) (value_is depth [])

  pub string_read : (s : List ℕ) → ts ≡ Token.string s ∷ rest → read_at depth ts ≡ Some (string s, rest)
  string_read s is = ap (read_at depth) is ∙ ap (converted of_json) (value_is depth _)

  pub boolean_read : (b : Bool) → ts ≡ Token.boolean b ∷ rest → read_at depth ts ≡ Some (boolean b, rest)
  boolean_read b is = ap (read_at depth) is ∙ ap (converted of_json) (value_is depth _)

  pub null_read : ts ≡ Token.null ∷ rest → read_at depth ts ≡ Some (null, rest)
  null_read is = ap (read_at depth) is ∙ ap (converted of_json) (value_is depth _)

  pub number_read : (s : List ℕ) (n : Num) → ts ≡ Token.number s ∷ rest → number_of s ≡ Some n → read_at depth ts ≡ Some (number n, rest)
  number_read s n is e = ap (read_at depth) is ∙ ap (converted of_json) (value_is depth _) ∙ rw e

  pub number_refused : (s : List ℕ) → ts ≡ Token.number s ∷ rest → number_of s ≡ None → read_at depth ts ≡ None
  number_refused s is e = ap (read_at depth) is ∙ ap (converted of_json) (value_is depth _) ∙ rw e

  pub array_opened : 0 < depth → ts ≡ Token.begin_array ∷ rest → read_at depth ts ≡ parse_map array (items_at (depth - 1) rest)
  array_opened deep is = ap (read_at depth) is ∙ ap (converted of_json) (value-begin_array depth rest deep)
      ∙ converted-array (items (value (depth - 1)) (length rest) rest)

  pub object_opened : 0 < depth → ts ≡ Token.begin_object ∷ rest → read_at depth ts ≡ parse_map object (members_at (depth - 1) rest)
  object_opened deep is = ap (read_at depth) is ∙ ap (converted of_json) (value-begin_object depth rest deep)
      ∙ converted-object (members (value (depth - 1)) (length rest) rest)

pub array_too_deep : (ts rest : List Token) → ts ≡ Token.begin_array ∷ rest → read_at 0 ts ≡ None
unfolding value
array_too_deep ts rest is = ap (read_at 0) is

pub object_too_deep : (ts rest : List Token) → ts ≡ Token.begin_object ∷ rest → read_at 0 ts ≡ None
unfolding value
object_too_deep ts rest is = ap (read_at 0) is

-- ---- lists

-- these items, and then the rest
abbrev pub items_before : List Data → Items → Items
items_before [] rest = rest
items_before (d ∷ ds) rest = item d (items_before ds rest)

pub items_before-none : (ds : List Data) → items_before ds no_items ≡ items_of ds
items_before-none [] = refl
items_before-none (d ∷ ds) = ap (item d) (items_before-none ds)

items_before-push : (ds : List Data) (d : Data) (rest : Items) → items_before ds (item d rest) ≡ items_before (ds ++ d ∷ []) rest
items_before-push [] d rest = refl
items_before-push (e ∷ ds) d rest = ap (item e) (items_before-push ds d rest)

pub one_more_item : (ds : List Data) (d : Data) (r : Option (Items × List Token))
    → parse_map (items_before ds) (parse_map (item d) r) ≡ parse_map (items_before (ds ++ d ∷ [])) r
one_more_item ds d None = refl
one_more_item ds d (Some p) = ap (λ es. Some (es, p.1)) (items_before-push ds d p.0)

pub none_before : (r : Option (Items × List Token)) → parse_map (items_before []) r ≡ r
none_before None = refl
none_before (Some p) = refl

with_item : (j : json.Json) (d : Data) → of_json j ≡ Some d → (o : Option (json.Items × List Token))
    → converted of_items (parse_map (json.item j) o) ≡ parse_map (item d) (converted of_items o)
with_item j d e None = refl
with_item j d e (Some p) = rw e (inside (item d) p.1 (of_items p.0))

without_item : (j : json.Json) → of_json j ≡ None → (o : Option (json.Items × List Token))
    → converted of_items (parse_map (json.item j) o) ≡ None
without_item j e None = refl
without_item j e (Some p) = rw e

with_member : (k : List ℕ) (j : json.Json) (d : Data) (found : Members) → of_json j ≡ Some d → (o : Option (json.Members × List Token))
    → converted (λ ms. of_members ms found) (parse_map (json.member k j) o) ≡ converted (λ ms. of_members ms (put k d found)) o
with_member k j d found e None = refl
with_member k j d found e (Some p) = rw e

without_member : (k : List ℕ) (j : json.Json) (found : Members) → of_json j ≡ None → (o : Option (json.Members × List Token))
    → converted (λ ms. of_members ms found) (parse_map (json.member k j) o) ≡ None
without_member k j found e None = refl
without_member k j found e (Some p) = rw e

-- a turn of each loop, for values that are read so
module _ (read : Parse json.Json) where
  pub item_read : (n : ℕ) (ts rest : List Token) (d : Data) → 0 < n → after_end_array ts ≡ None
      → converted of_json (read ts) ≡ Some (d, rest)
      → converted of_items (items read n ts) ≡ parse_map (item d) (converted of_items (items read (n - 1) rest))
  item_read n ts rest d turns going e =
      let found = taken of_json (read ts) d rest e in
      ap (converted of_items) (items_more read n ts rest found.0 turns going found.1) ∙ with_item found.0 d found.2 _

  none_of_items : (more : Parse json.Items) (o : Option (json.Json × List Token)) → converted of_json o ≡ None
      → converted of_items (option_and_then (λ p. parse_map (json.item p.0) (more p.1)) o) ≡ None
  none_of_items more None e = refl
  none_of_items more (Some p) e = without_item p.0 (untaken of_json p e) (more p.1)

  pub item_refused : (n : ℕ) (ts : List Token) → after_end_array ts ≡ None → converted of_json (read ts) ≡ None
      → converted of_items (items read n ts) ≡ None
  unfolding items
  item_refused zero ts going e = refl
  item_refused (suc n) ts going e = ap (λ o. converted of_items (items_step read (items read n) ts o)) going
      ∙ none_of_items (items read n) (read ts) e

  pub items_closed : (n : ℕ) (ts rest : List Token) → length ts ≤ n → after_end_array ts ≡ Some rest
      → converted of_items (items read n ts) ≡ Some (no_items, rest)
  items_closed n ts rest turns e = ap (converted of_items) (items_end read n ts rest turns e)

  module _ (found : Members) where
    pub member_read : (n : ℕ) (k : List ℕ) (ts behind rest : List Token) (d : Data) → 0 < n → read_key ts ≡ Some (Some k, behind)
        → converted of_json (read behind) ≡ Some (d, rest)
        → converted (λ ms. of_members ms found) (members read n ts)
        ≡ converted (λ ms. of_members ms (put k d found)) (members read (n - 1) rest)
    member_read n k ts behind rest d turns named e =
        let one = taken of_json (read behind) d rest e in
        ap (converted (λ ms. of_members ms found)) (members_more read n k ts behind rest one.0 turns named one.1)
        ∙ with_member k one.0 d found one.2 _

    none_of_members : (k : List ℕ) (more : Parse json.Members) (o : Option (json.Json × List Token)) → converted of_json o ≡ None
        → converted (λ ms. of_members ms found) (option_and_then (λ p. parse_map (json.member k p.0) (more p.1)) o) ≡ None
    none_of_members k more None e = refl
    none_of_members k more (Some p) e = without_member k p.0 found (untaken of_json p e) (more p.1)

    pub member_refused : (n : ℕ) (k : List ℕ) (ts behind : List Token) → read_key ts ≡ Some (Some k, behind)
        → converted of_json (read behind) ≡ None → converted (λ ms. of_members ms found) (members read n ts) ≡ None
    unfolding members
    member_refused zero k ts behind named e = refl
    member_refused (suc n) k ts behind named e = rw named (none_of_members k (members read n) (read behind) e)

    pub name_refused : (n : ℕ) (ts : List Token) → read_key ts ≡ None → converted (λ ms. of_members ms found) (members read n ts) ≡ None
    name_refused n ts e = ap (converted (λ ms. of_members ms found)) (members_no_key read n ts e)

    pub members_closed : (n : ℕ) (ts rest : List Token) → length ts ≤ n → read_key ts ≡ Some (None, rest)
        → converted (λ ms. of_members ms found) (members read n ts) ≡ Some (found, rest)
    members_closed n ts rest turns e = ap (converted (λ ms. of_members ms found)) (members_end read n ts rest turns e)
