-- A list under `items` in place of `prefixItems`, for readers that judge by position under `items`.
use Rattle.std.proofs.Common.{◌≡◌, ◌≢◌, ℕ, inl, List, [], ◌∷◌, Option, Some, None, Bool, true, false, codes, option_map, refl, sym, ap, ◌∙◌, subst}
use Rattle.schemars_laws.proofs.Words.{or-false, bytes_eq, nat_lt, length, ◌||◌, Data, null, boolean, number, string, array, object, Items, no_items, item, Members, put, get_member, as_array, get_member-put, get_member-put_other, Text, IsSchema, without, Verdict, Dialect, Context, Judge, judge, keywords, truth_value, read_items, read_members, reading_at, items_say, judged_by_items, has_schema, schema-judge, prefix_as_items, prefix_moved, old_items_moved, IsOnce, AreSchemas, IsSchemaList, IsNoList, HasPlainItems, by_items, by_prefix_items, both-yes, silent, differ, read_data}
use Rattle.schemars_laws.proofs.Looked.{without-other, walked, none-walked, once-walked, list-walked, no_list-walked, Change}
use Rattle.schemars_laws.proofs.Apart.{four_of, four_by, placed_of, placed_in, look_up, says-moved, outside}

-- ---- what the keywords for items say

pub some-list : (c : Context) (ds : Items) → AreSchemas ds → (ss : List Judge) × (read_items c ds ≡ Some ss)
unfolding read_data
some-list c no_items are = ([], refl)
some-list c (item d ds) are =
    let rest = some-list c ds are.1 in
    (judge c d ∷ rest.0, rw (schema-judge c d are.0, rest.1) refl)

no-list : (c : Context) (d : Data) → IsNoList (Some d) → (read_data c d).listed ≡ None
unfolding read_data
no-list c (array ds) is = absurd is
no-list c _ is = refl

abbrev items_by : Context → Bool → Option Data → Option Data → Option Data → Data → Verdict
items_by c b p i a v = items_say b (option_map (read_data c) p) (option_map (read_data c) i) (option_map (read_data c) a) v

-- without `prefixItems`
items-alone : (c : Context) (i : Option Data) (v : Data) → IsNoList i → items_by c false None i None v ≡ items_by c true None i None v
items-alone c None v is = refl
items-alone c (Some d) v is = rw (no-list c d is, silent (as_array v)) (both-yes _)

-- a list alone
list-alone : (c : Context) (ds : Items) (v : Data) → AreSchemas ds
    → items_by c false None (Some (array ds)) None v ≡ items_by c true (Some (array ds)) None None v
unfolding read_data
list-alone c ds v are = let list = some-list c ds are in rw (list.1, silent (as_array v)) refl

-- a list, and what stands behind it
list-before : (c : Context) (ds : Items) (d v : Data) → AreSchemas ds
    → items_by c false None (Some (array ds)) (Some d) v ≡ items_by c true (Some (array ds)) (Some d) None v
unfolding read_data
list-before c ds d v are = let list = some-list c ds are in rw (list.1, silent (as_array v)) refl

-- ---- which items they judge

abbrev places_by : Context → Bool → Option Data → Option Data → Option Data → ℕ → Bool
places_by c b p i a n = judged_by_items b (option_map (read_data c) p) (option_map (read_data c) i) (option_map (read_data c) a) n

items-places : (c : Context) (i : Option Data) (n : ℕ) → IsNoList i → places_by c false None i None n ≡ places_by c true None i None n
items-places c None n is = refl
items-places c (Some d) n is = rw (no-list c d is) (or-false (has_schema (Some (read_data c d))))

-- a list, and what stands behind it
list-places : (c : Context) (ds : Items) (i : Option Data) (n : ℕ) → AreSchemas ds
    → places_by c false None (Some (array ds)) i n ≡ places_by c true (Some (array ds)) i None n
unfolding read_data
list-places c ds i n are =
    let list = some-list c ds are in
    rw list.1 (ap (λ b. b || has_schema (option_map (read_data c) i)) (sym (or-false (nat_lt n (length list.0)))))

-- ---- the members of one schema

abbrev moved_behind : Option Data → Members → Members
moved_behind None ms = ms
moved_behind (Some i) ms = put (codes "additionalItems") i ms

abbrev moved_members : Option Data → Option Data → Members → Members
moved_members None i ms = without (codes "prefixItems") ms
moved_members (Some p) i ms = moved_behind i (put (codes "items") p (without (codes "prefixItems") ms))

behind : (o : Option Data) (ms : Members) → old_items_moved o (object ms) ≡ object (moved_behind o ms)
behind None ms = refl
behind (Some i) ms = refl

changed : (ms : Members)
    → prefix_as_items (object ms) ≡ object (moved_members (get_member (codes "prefixItems") ms) (get_member (codes "items") ms) ms)
changed ms = go (get_member (codes "prefixItems") ms)
  where
    items : get_member (codes "items") (without (codes "prefixItems") ms) ≡ get_member (codes "items") ms
    items = without-other (codes "prefixItems") (codes "items") ms (differ (codes "items") (codes "prefixItems") refl)

    go : (o : Option Data)
        → prefix_moved o (object (without (codes "prefixItems") ms)) ≡ object (moved_members o (get_member (codes "items") ms) ms)
    go None = refl
    go (Some p) =
        ap (λ i. old_items_moved i (object (put (codes "items") p (without (codes "prefixItems") ms)))) items
        ∙ behind (get_member (codes "items") ms) (put (codes "items") p (without (codes "prefixItems") ms))

get-behind : (o : Option Data) (k : Text) (ms : Members) → k ≢ codes "additionalItems" → get_member k (moved_behind o ms) ≡ get_member k ms
get-behind None k ms other = refl
get-behind (Some i) k ms other = get_member-put_other k (codes "additionalItems") i ms other

get-other : (p i : Option Data) (k : Text) (ms : Members) → k ≢ codes "prefixItems" → k ≢ codes "items" → k ≢ codes "additionalItems"
    → get_member k (moved_members p i ms) ≡ get_member k ms
get-other None i k ms prefix items additional = without-other (codes "prefixItems") k ms prefix
get-other (Some p) i k ms prefix items additional =
    get-behind i k (put (codes "items") p (without (codes "prefixItems") ms)) additional
    ∙ (get_member-put_other k (codes "items") p (without (codes "prefixItems") ms) items ∙ without-other (codes "prefixItems") k ms prefix)

abbrev items_of : Option Data → Option Data → Option Data
items_of None i = i
items_of (Some p) i = Some p

abbrev additional_of : Option Data → Option Data → Option Data
additional_of None i = None
additional_of (Some p) i = i

module _ (ms : Members) (once : IsOnce (codes "prefixItems") ms) (none : get_member (codes "additionalItems") ms ≡ None) where
  prefix-gone : (p i : Option Data) → get_member (codes "prefixItems") (moved_members p i ms) ≡ None
  prefix-gone None i = once
  prefix-gone (Some p) i =
      get-behind i (codes "prefixItems") (put (codes "items") p (without (codes "prefixItems") ms))
      (differ (codes "prefixItems") (codes "additionalItems") refl)
      ∙ (get_member-put_other (codes "prefixItems") (codes "items") p (without (codes "prefixItems") ms)
      (differ (codes "prefixItems") (codes "items") refl)
      ∙ once)

  items-moved : (p : Option Data)
      → get_member (codes "items") (moved_members p (get_member (codes "items") ms) ms) ≡ items_of p (get_member (codes "items") ms)
  items-moved None = without-other (codes "prefixItems") (codes "items") ms (differ (codes "items") (codes "prefixItems") refl)
  items-moved (Some p) =
      get-behind (get_member (codes "items") ms) (codes "items") (put (codes "items") p (without (codes "prefixItems") ms))
      (differ (codes "items") (codes "additionalItems") refl)
      ∙ get_member-put (codes "items") p (without (codes "prefixItems") ms)

  additional-behind : (i : Option Data) (ns : Members) → get_member (codes "additionalItems") ns ≡ None
      → get_member (codes "additionalItems") (moved_behind i ns) ≡ i
  additional-behind None ns is = is
  additional-behind (Some d) ns is = get_member-put (codes "additionalItems") d ns

  additional-moved : (p i : Option Data) → get_member (codes "additionalItems") (moved_members p i ms) ≡ additional_of p i
  additional-moved None i =
      without-other (codes "prefixItems") (codes "additionalItems") ms (differ (codes "additionalItems") (codes "prefixItems") refl) ∙ none
  additional-moved (Some p) i =
      additional-behind i (put (codes "items") p (without (codes "prefixItems") ms))
      (get_member-put_other (codes "additionalItems") (codes "items") p (without (codes "prefixItems") ms)
      (differ (codes "additionalItems") (codes "items") refl)
      ∙ (without-other (codes "prefixItems") (codes "additionalItems") ms (differ (codes "additionalItems") (codes "prefixItems") refl)
      ∙ none))

items-same : (c : Context) (p i : Option Data) (v : Data) → IsSchemaList p → IsNoList i
    → items_by c false None (items_of p i) (additional_of p i) v ≡ items_by c true p i None v
items-same c None i v list plain = items-alone c i v plain
items-same c (Some (array ds)) None v list plain = list-alone c ds v list
items-same c (Some (array ds)) (Some d) v list plain = list-before c ds d v list
items-same c (Some null) i v list plain = absurd list
items-same c (Some (boolean b)) i v list plain = absurd list
items-same c (Some (number n)) i v list plain = absurd list
items-same c (Some (string s)) i v list plain = absurd list
items-same c (Some (object ms)) i v list plain = absurd list

places-same : (c : Context) (p i : Option Data) (n : ℕ) → IsSchemaList p → IsNoList i
    → places_by c false None (items_of p i) (additional_of p i) n ≡ places_by c true p i None n
places-same c None i n list plain = items-places c i n plain
places-same c (Some (array ds)) i n list plain = list-places c ds i n list
places-same c (Some null) i n list plain = absurd list
places-same c (Some (boolean b)) i n list plain = absurd list
places-same c (Some (number x)) i n list plain = absurd list
places-same c (Some (string s)) i n list plain = absurd list
places-same c (Some (object ms)) i n list plain = absurd list

placed-same : (c : Context) (d : Dialect) (p i : Option Data) (v : Data) (n : ℕ) → IsSchemaList p → IsNoList i
    → placed_of c (by_items d) None (items_of p i) (additional_of p i) None v n ≡ placed_of c (by_prefix_items d) p i None None v n
unfolding placed_of
placed-same c d p i v n list plain = rw (places-same c p i n list plain) refl

four-same : (c : Context) (d : Dialect) (p i e k t n : Option Data) (v : Data) (x : Verdict) → IsSchemaList p → IsNoList i
    → four_of c (by_items d) None (items_of p i) (additional_of p i) e k t n v x ≡ four_of c (by_prefix_items d) p i None e k t n v x
unfolding four_of
four-same c d p i e k t n v x list plain = rw (items-same c p i v list plain) refl

judge-prefix : (c : Context) (d : Dialect) (ms : Members) → c.dialect ≡ by_items d → HasPlainItems ms
    → judge c (prefix_as_items (object ms))
    ≡ keywords (record c { dialect = by_prefix_items d }) (look_up ms) (reading_at (read_members c ms))
judge-prefix c d ms is plain =
    let p = get_member (codes "prefixItems") ms in
    let i = get_member (codes "items") ms in
    let new : Members = moved_members p i ms in
    ap (judge c) (changed ms)
    ∙ says-moved c (by_prefix_items d) (by_items d) ms new is refl refl (inl refl)
    (λ k out. get-other p i k ms (outside k (codes "prefixItems") out refl) (outside k (codes "items") out refl)
    (outside k (codes "additionalItems") out refl))
    same place
  where
    other : (k : Text) → bytes_eq k (codes "prefixItems") ≡ false → bytes_eq k (codes "items") ≡ false
        → bytes_eq k (codes "additionalItems") ≡ false
        → get_member k (moved_members (get_member (codes "prefixItems") ms) (get_member (codes "items") ms) ms) ≡ get_member k ms
    other k prefix items additional =
        get-other (get_member (codes "prefixItems") ms) (get_member (codes "items") ms) k ms (differ k (codes "prefixItems") prefix)
        (differ k (codes "items") items) (differ k (codes "additionalItems") additional)

    same : (v : Data) (x : Verdict)
        → four_by c (by_items d) (look_up (moved_members (get_member (codes "prefixItems") ms) (get_member (codes "items") ms) ms)) v x
        ≡ four_by c (by_prefix_items d) (look_up ms) v x
    same v x =
        rw (
          prefix-gone ms plain.0 plain.3 (get_member (codes "prefixItems") ms) (get_member (codes "items") ms),
          items-moved ms plain.0 plain.3 (get_member (codes "prefixItems") ms),
          additional-moved ms plain.0 plain.3 (get_member (codes "prefixItems") ms) (get_member (codes "items") ms),
          other (codes "enum") refl refl refl,
          other (codes "const") refl refl refl,
          other (codes "type") refl refl refl,
          other (codes "nullable") refl refl refl,
          plain.3,
        )
        (four-same c d (get_member (codes "prefixItems") ms) (get_member (codes "items") ms) (get_member (codes "enum") ms)
        (get_member (codes "const") ms) (get_member (codes "type") ms) (get_member (codes "nullable") ms) v x plain.1 plain.2)

    place : (v : Data) (n : ℕ)
        → placed_in c (by_items d) (look_up (moved_members (get_member (codes "prefixItems") ms) (get_member (codes "items") ms) ms)) v n
        ≡ placed_in c (by_prefix_items d) (look_up ms) v n
    place v n =
        rw (
          prefix-gone ms plain.0 plain.3 (get_member (codes "prefixItems") ms) (get_member (codes "items") ms),
          items-moved ms plain.0 plain.3 (get_member (codes "prefixItems") ms),
          additional-moved ms plain.0 plain.3 (get_member (codes "prefixItems") ms) (get_member (codes "items") ms),
          other (codes "contains") refl refl refl,
          plain.3,
          plain.4,
        )
        (placed-same c d (get_member (codes "prefixItems") ms) (get_member (codes "items") ms) v n plain.1 plain.2)

-- ---- with the subschemas done

schema-prefix : (s : Data) → IsSchema s → IsSchema (prefix_as_items s)
schema-prefix (boolean b) is = tt
schema-prefix (object ms) is = subst IsSchema (sym (changed ms)) tt
schema-prefix _ is = absurd is

truth-prefix : (c : Context) (b : Bool) → judge c (prefix_as_items (boolean b)) ≡ truth_value b
unfolding read_data
truth-prefix c b = refl

plain-walked : (ms : Members) → HasPlainItems ms → HasPlainItems (walked prefix_as_items ms)
plain-walked ms plain = (
  once-walked prefix_as_items (codes "prefixItems") ms plain.0,
  list-walked prefix_as_items schema-prefix (codes "prefixItems") ms refl plain.1,
  no_list-walked prefix_as_items schema-prefix (codes "items") ms refl plain.2,
  none-walked prefix_as_items (codes "additionalItems") ms plain.3,
  none-walked prefix_as_items (codes "contains") ms plain.4,
)

pub prefix_items : (key : Text) (d : Dialect) → key ≢ codes "prefixItems" → key ≢ codes "items" → key ≢ codes "additionalItems"
    → Change prefix_as_items key (by_prefix_items d) (by_items d) HasPlainItems
prefix_items key d prefix items additional = record {
  schema = schema-prefix;
  of_truth = λ c b is. truth-prefix c b;
  of_object = λ c ms is plain. judge-prefix c d (walked prefix_as_items ms) is (plain-walked ms plain);
  definitions = λ ms. (
    moved_members (get_member (codes "prefixItems") ms) (get_member (codes "items") ms) ms,
    changed ms,
    get-other (get_member (codes "prefixItems") ms) (get_member (codes "items") ms) key ms prefix items additional,
  );
}
