-- The work that is left: references, and then the depth of the schema.
use Rattle.std.proofs.Common.{◌≡◌, ℕ, zero, suc, ◌+◌, ◌-◌, ◌*◌, ◌<◌, ◌≤◌, max, [], ◌∷◌, ◌++◌, Bool, true, false, Option, Some, None, refl, arith}
use Rattle.schemars_validate.proofs.Words.{◌==◌, is_some, option_and_then, if◌then◌else◌, bytes_eq, codes, Data, null, boolean, number, string, array, object, Items, no_items, item, Members, no_members, member, depth, items_depth, members_depth, get_member, as_object, get_item, step, walk, pointer, index_of, unescape, get_member-member, Text, is_schema, lookup, percent_decoded, resolved, when, are_schemas, are_named_schemas, schema_at, schemas_in, schemas_by_name, schema_where_read, schemas_where_read, members_where_read, schema_of_rest, first_schemas, other_schema, items_or_none}

abbrev pub depth_at : Option Data → ℕ
depth_at None = 0
depth_at (Some d) = depth d

abbrev pub items_depth_at : Option Items → ℕ
items_depth_at None = 0
items_depth_at (Some ds) = items_depth ds

abbrev pub members_depth_at : Option Members → ℕ
members_depth_at None = 0
members_depth_at (Some ms) = members_depth ms

-- with so many references left, each of which leads into a document of this depth
abbrev pub work : ℕ → Data → ℕ → ℕ → ℕ
work left document d rank = left * (16 * depth document + 16) + (16 * d + rank)

-- ---- what stands under a keyword is no deeper than the keywords

pub member_shallow : (k : Text) (ms : Members) → depth_at (get_member k ms) ≤ members_depth ms
member_shallow k no_members = omega arith
member_shallow k (member l d ms) = rw (get_member-member k l d ms) (go (bytes_eq k l) (member_shallow k ms))
  where
    go : (b : Bool) → depth_at (get_member k ms) ≤ members_depth ms
        → depth_at (if b then Some d else get_member k ms) ≤ max (depth d) (members_depth ms)
    go true later = omega arith
    go false later = omega arith

schema_shallow : (x : Option Data) (n : ℕ) → depth_at x ≤ n → depth_at (schema_at x) ≤ n
schema_shallow None n h = h
schema_shallow (Some d) n h = go (is_schema d)
  where
    go : (b : Bool) → depth_at (if b then Some d else None) ≤ n
    go true = h
    go false = omega arith

list_shallow : (x : Option Data) (n : ℕ) → depth_at x ≤ n → items_depth_at (schemas_in x) ≤ n
list_shallow None n h = h
list_shallow (Some (array ds)) n h = go (are_schemas ds)
  where
    go : (b : Bool) → items_depth_at (when b ds) ≤ n
    go true = omega arith
    go false = omega arith
list_shallow (Some _) n h = omega arith

map_shallow : (x : Option Data) (n : ℕ) → depth_at x ≤ n → members_depth_at (schemas_by_name x) ≤ n
map_shallow None n h = h
map_shallow (Some (object ms)) n h = go (are_named_schemas ms)
  where
    go : (b : Bool) → members_depth_at (when b ms) ≤ n
    go true = omega arith
    go false = omega arith
map_shallow (Some _) n h = omega arith

none_shallow : (x : Option Items) → items_depth (items_or_none x) ≡ items_depth_at x
none_shallow None = refl
none_shallow (Some ds) = refl

pub schema_under : (k : Text) (ms : Members) → depth_at (schema_at (get_member k ms)) ≤ members_depth ms
schema_under k ms = schema_shallow (get_member k ms) (members_depth ms) (member_shallow k ms)

pub list_under : (k : Text) (ms : Members) → items_depth_at (schemas_in (get_member k ms)) ≤ members_depth ms
list_under k ms = list_shallow (get_member k ms) (members_depth ms) (member_shallow k ms)

pub map_under : (k : Text) (ms : Members) → members_depth_at (schemas_by_name (get_member k ms)) ≤ members_depth ms
map_under k ms = map_shallow (get_member k ms) (members_depth ms) (member_shallow k ms)

pub first_under : (r : Bool) (ms : Members) → items_depth (first_schemas r (λ k. get_member k ms)) ≤ members_depth ms
first_under true ms = rw (none_shallow (schemas_in (get_member (codes "prefixItems") ms))) (list_under (codes "prefixItems") ms)
first_under false ms = rw (none_shallow (schemas_in (get_member (codes "items") ms))) (list_under (codes "items") ms)

pub other_under : (r : Bool) (ms : Members) → depth_at (other_schema r (λ k. get_member k ms)) ≤ members_depth ms
other_under true ms = schema_under (codes "items") ms
other_under false ms = go (is_some (schemas_in (get_member (codes "items") ms)))
  where
    go : (b : Bool) → depth_at (schema_at (if b then get_member (codes "additionalItems") ms else get_member (codes "items") ms)) ≤ members_depth ms
    go true = schema_under (codes "additionalItems") ms
    go false = schema_under (codes "items") ms

pub read_under : (r : Bool) (k : Text) (ms : Members) → depth_at (schema_where_read r (get_member k ms)) ≤ members_depth ms
read_under true k ms = schema_under k ms
read_under false k ms = omega arith

pub read_map_under : (r : Bool) (k : Text) (ms : Members) → members_depth_at (schemas_where_read r (get_member k ms)) ≤ members_depth ms
read_map_under true k ms = map_under k ms
read_map_under false k ms = omega arith

pub rest_under : (r : Bool) (ms : Members) (v : Data) → depth_at (schema_of_rest r (λ k. get_member k ms) v) ≤ members_depth ms
rest_under r ms null = omega arith
rest_under r ms (boolean b) = omega arith
rest_under r ms (number n) = omega arith
rest_under r ms (string s) = omega arith
rest_under r ms (array ds) = read_under r (codes "unevaluatedItems") ms
rest_under r ms (object ns) = read_under r (codes "unevaluatedProperties") ms

pub among_under : (r : Bool) (k : Text) (ms : Members) → members_depth_at (members_where_read r (get_member k ms)) ≤ members_depth ms
among_under true k ms = go (get_member k ms) (member_shallow k ms)
  where
    go : (x : Option Data) → depth_at x ≤ members_depth ms → members_depth_at (option_and_then as_object x) ≤ members_depth ms
    go None h = h
    go (Some (object ns)) h = omega arith
    go (Some _) h = omega arith
among_under false k ms = omega arith

-- ---- what a reference leads to is no deeper than the document

item_shallow : (i : ℕ) (ds : Items) → depth_at (get_item i ds) ≤ items_depth ds
item_shallow zero no_items = omega arith
item_shallow (suc i) no_items = omega arith
item_shallow zero (item d ds) = omega arith
item_shallow (suc i) (item d ds) = let later = item_shallow i ds in omega arith

then_shallow : {A : Type 0} (x : Option A) (f : A → Option Data) (n : ℕ) → ((a : A) → depth_at (f a) ≤ n) → depth_at (option_and_then f x) ≤ n
then_shallow None f n h = omega arith
then_shallow (Some a) f n h = h a

deeper : (m n : ℕ) → m ≤ n → m ≤ suc n
deeper m n h = omega arith

step_shallow : (part : Text) (d : Data) → depth_at (step part d) ≤ depth d
step_shallow part null = omega arith
step_shallow part (boolean b) = omega arith
step_shallow part (number n) = omega arith
step_shallow part (string s) = omega arith
step_shallow part (array ds) =
    deeper _ (items_depth ds) (then_shallow (index_of part) (λ i. get_item i ds) (items_depth ds) (λ i. item_shallow i ds))
step_shallow part (object ms) = deeper _ (members_depth ms) (member_shallow (unescape part) ms)

walked : (x : Option Data) (f : Data → Option Data) (n : ℕ) → depth_at x ≤ n → ((d : Data) → depth_at (f d) ≤ depth d)
    → depth_at (option_and_then f x) ≤ n
walked None f n h k = h
walked (Some d) f n h k = let at = k d in omega arith

walk_shallow : (part rest : Text) (d : Data) → depth_at (walk part rest d) ≤ depth d
unfolding walk
walk_shallow part [] d = step_shallow part d
walk_shallow part (x ∷ rest) d = go (x == 47) (λ e. walk_shallow [] rest e) (walk_shallow (part ++ x ∷ []) rest d)
  where
    go : (b : Bool) → ((e : Data) → depth_at (walk [] rest e) ≤ depth e) → depth_at (walk (part ++ x ∷ []) rest d) ≤ depth d
        → depth_at (if b then option_and_then (walk [] rest) (step part d) else walk (part ++ x ∷ []) rest d) ≤ depth d
    go true new same = walked (step part d) (walk [] rest) (depth d) (step_shallow part d) new
    go false new same = same

pointer_shallow : (path : Text) (d : Data) → depth_at (pointer path d) ≤ depth d
pointer_shallow [] d = omega arith
pointer_shallow (x ∷ rest) d = go (x == 47)
  where
    go : (b : Bool) → depth_at (if b then walk [] rest d else None) ≤ depth d
    go true = walk_shallow [] rest d
    go false = omega arith

lookup_shallow : (reference : Text) (d : Data) → depth_at (lookup reference d) ≤ depth d
lookup_shallow [] d = omega arith
lookup_shallow (x ∷ rest) d = go (x == 35)
  where
    go : (b : Bool) → depth_at (if b then option_and_then (λ p. pointer p d) (percent_decoded rest) else None) ≤ depth d
    go true = then_shallow (percent_decoded rest) (λ p. pointer p d) (depth d) (λ p. pointer_shallow p d)
    go false = omega arith

pub resolved_shallow : (document : Data) (reference : Text) → depth_at (resolved document reference) ≤ depth document
unfolding resolved
resolved_shallow document reference = schema_shallow (lookup reference document) (depth document) (lookup_shallow reference document)

-- ---- one step

less_times : (n w : ℕ) → 0 < n → (n - 1) * w + w ≡ n * w
less_times zero w h = absurd (omega arith)
less_times (suc n) w h = grind arith

-- a schema of a document, with one reference less
pub reference_less : (left : ℕ) (document : Data) (d : ℕ) → 0 < left → d ≤ depth document
    → work (left - 1) document d 2 < work left document 0 11
reference_less left document d some shallow =
    let step = less_times left (16 * depth document + 16) some in
    omega (arith, step)

-- fewer references are left
pub fewer_less : (rest left : ℕ) (document : Data) → 0 < left → rest ≤ left - 1 → work rest document 0 12 < work left document 0 10
fewer_less rest left document some few =
    let step = less_times left (16 * depth document + 16) some in
    let under = times_le rest (left - 1) (16 * depth document + 16) few in
    omega (arith, step, under)
  where
    times_le : (m n w : ℕ) → m ≤ n → m * w ≤ n * w
    times_le m n w h = grind arith
