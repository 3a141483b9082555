-- Why the headings and the entries that are read row by row give the table that the rows say.
use Rattle.std.proofs.Common.{◌≡◌, ◌+◌, ◌<◌, ℕ, zero, suc, nat_lt, nat_le, List, [], ◌∷◌, ◌++◌, length, slice_get, Bool, true, false, not, ◌||◌, ◌&&◌, Option, Some, None, option_map, option_and_then, is_some, cond, codes, refl, ap, ◌∙◌, sym, arith, append_assoc, append-nil}
use Rattle.schemagen_input.proofs.Words.{list_all, list_any, position_from, find, option_map_or, bytes_eq, list_all-append, nat_tests, bytes_eq-Decides, and_parts, not-true, and-false, or-true, Data, Items, no_items, item, as_str, items_of, Text, flipped, has_only, Entry, numbers_of, Row, place_of, with_entry, defined, reserved, unknown_in, holds_another, refusal_of, needed_member, read_each, unentered, row_names, heading_in, entry_in, row_in, rows_in, ids_differ, ids_of, refers_within, all_fit, is_complete, headings_in, AreListed, BeginsNoTable, IsNoTable, IsTableOf}
use Rattle.schemars_types.specs.declared.error.TypesError.{TypesError}
use Rattle.schemars_types.specs.declared.error.TypesError.TheVariants.{UnknownType, AlreadyDefined}

-- ---- options

map_some : {A B : Type 0} (f : A → B) (o : Option A) (b : B) → option_map f o ≡ Some b → (a : A) × (o ≡ Some a) × (f a ≡ b)
map_some f None b e = cc
map_some f (Some a) b e = (a, refl, cc)

then_some : {A B : Type 0} (f : A → Option B) (o : Option A) (b : B) → option_and_then f o ≡ Some b
    → (a : A) × (o ≡ Some a) × (f a ≡ Some b)
then_some f None b e = cc
then_some f (Some a) b e = (a, refl, e)

-- ---- ids

found_once : (b : Bool) (i : ℕ) (rest : Option ℕ) (more : Bool) → is_some rest ≡ more → is_some (cond b (Some i) rest) ≡ b || more
found_once true i rest more e = refl
found_once false i rest more e = e

is_some-position_from : (id : Text) (rows : List Row) (i : ℕ) → is_some (position_from (λ r. bytes_eq r.id id) i rows)
    ≡ list_any (λ u. bytes_eq u id) (ids_of rows)
is_some-position_from id [] i = refl
is_some-position_from id (r ∷ rows) i = found_once (bytes_eq r.id id) i _ _ (is_some-position_from id rows (i + 1))

any-middle : (t u : Text) (before after : List Text) → bytes_eq t u ≡ true → list_any (λ v. bytes_eq v t) (before ++ u ∷ after) ≡ true
any-middle t u [] after same = let e : u ≡ t = sym ((bytes_eq-Decides t u).0 same) in rw ((bytes_eq-Decides u t).1 e)
any-middle t u (v ∷ before) after same = rw (any-middle t u before after same) (or-true (bytes_eq v t))

-- a text that is there already
ids_differ-again : (before after : List Text) (t : Text) → list_any (λ u. bytes_eq u t) before ≡ true
    → ids_differ (before ++ t ∷ after) ≡ false
ids_differ-again [] after t there = cc
ids_differ-again (u ∷ before) after t there = by (bytes_eq u t) refl there (ids_differ-again before after t)
  where
    by : (b : Bool) → bytes_eq u t ≡ b → b || list_any (λ v. bytes_eq v t) before ≡ true
        → (list_any (λ v. bytes_eq v t) before ≡ true → ids_differ (before ++ t ∷ after) ≡ false)
        → ids_differ ((u ∷ before) ++ t ∷ after) ≡ false
    by true same h rest = rw (any-middle u t before after same)
    by false other h rest = rw (rest h) (and-false _)

any-append : (p : Text → Bool) (xs : List Text) (t : Text) → list_any p xs ≡ false → p t ≡ false → list_any p (xs ++ t ∷ []) ≡ false
any-append p [] t none e = rw e
any-append p (x ∷ xs) t none e = by (p x) none (λ h. any-append p xs t h e)
  where
    by : (b : Bool) → b || list_any p xs ≡ false → (list_any p xs ≡ false → list_any p (xs ++ t ∷ []) ≡ false)
        → b || list_any p (xs ++ t ∷ []) ≡ false
    by true h rest = cc
    by false h rest = rest h

-- a new text joins at the end
ids_differ-joined : (ts : List Text) (t : Text) → ids_differ ts ≡ true → list_any (λ u. bytes_eq u t) ts ≡ false
    → ids_differ (ts ++ t ∷ []) ≡ true
ids_differ-joined [] t differ none = refl
ids_differ-joined (u ∷ ts) t differ none =
    let parts = and_parts (not (list_any (λ v. bytes_eq v u) ts)) (ids_differ ts) differ in
    by (bytes_eq u t) refl none parts.0 (ids_differ-joined ts t parts.1)
  where
    by : (b : Bool) → bytes_eq u t ≡ b → b || list_any (λ v. bytes_eq v t) ts ≡ false → not (list_any (λ v. bytes_eq v u) ts) ≡ true
        → (list_any (λ v. bytes_eq v t) ts ≡ false → ids_differ (ts ++ t ∷ []) ≡ true) → ids_differ ((u ∷ ts) ++ t ∷ []) ≡ true
    by true same h apart rest = cc
    by false other h apart rest = rw (any-append (λ v. bytes_eq v u) ts t (not-true _ apart) (flipped u t other)) (rest h)

ids_of-append : (xs ys : List Row) → ids_of (xs ++ ys) ≡ ids_of xs ++ ids_of ys
ids_of-append [] ys = refl
ids_of-append (x ∷ xs) ys = ap (λ ts. x.id ∷ ts) (ids_of-append xs ys)

-- ---- numbers

above : (m len : ℕ) → m < len → nat_le len m ≡ false
above m len h = grind (arith, nat_tests)

all_known : (len : ℕ) (ms : List ℕ) → find (λ m. nat_le len m) ms ≡ None → list_all (λ m. nat_lt m len) ms ≡ true
all_known len [] none = refl
all_known len (m ∷ ms) none = by (nat_le len m) refl none (all_known len ms)
  where
    below : nat_le len m ≡ false → nat_lt m len ≡ true
    below e = grind (arith, nat_tests)

    by : (b : Bool) → nat_le len m ≡ b → cond b (Some m) (find (λ k. nat_le len k) ms) ≡ None
        → (find (λ k. nat_le len k) ms ≡ None → list_all (λ k. nat_lt k len) ms ≡ true)
        → list_all (λ k. nat_lt k len) (m ∷ ms) ≡ true
    by true e h rest = cc
    by false e h rest = rw (below e) (rest h)

some_unknown : (len : ℕ) (ms : List ℕ) (k : ℕ) → find (λ m. nat_le len m) ms ≡ Some k → list_all (λ m. nat_lt m len) ms ≡ false
some_unknown len [] k there = cc
some_unknown len (m ∷ ms) k there = by (nat_le len m) refl there (some_unknown len ms k)
  where
    not_below : nat_le len m ≡ true → nat_lt m len ≡ false
    not_below e = grind (arith, nat_tests)

    by : (b : Bool) → nat_le len m ≡ b → cond b (Some m) (find (λ k. nat_le len k) ms) ≡ Some k
        → (find (λ k. nat_le len k) ms ≡ Some k → list_all (λ k. nat_lt k len) ms ≡ false)
        → list_all (λ k. nat_lt k len) (m ∷ ms) ≡ false
    by true e h rest = rw (not_below e)
    by false e h rest = rw (rest h) (and-false (nat_lt m len))

-- what the table takes refers to its rows
taken_is_within : (rows : List Row) (n : ℕ) (e : Entry) → refusal_of rows n e ≡ None → refers_within (length rows) e ≡ true
taken_is_within rows n e none = by (nat_le (length rows) n) (unknown_in rows e.shape) refl none
  where
    by : (b : Bool) (o : Option ℕ) → unknown_in rows e.shape ≡ o
        → option_map_or (λ m. Some (UnknownType m)) (cond b (Some n) o) (cond (holds_another rows n e) (Some (AlreadyDefined n)) None)
        ≡ None → refers_within (length rows) e ≡ true
    by true o is h = cc
    by false None is h = all_known (length rows) (numbers_of e.shape) is
    by false (Some k) is h = cc

no_entry_at : (b : Bool) (id name : Option Text) (r : Row) → cond b (option_and_then (λ i. option_map (unentered i) name) id) None
    ≡ Some r → r.entry ≡ None
no_entry_at true (Some i) (Some m) r h = let same : unentered i m ≡ r = cc in sym (ap (λ (q : Row). q.entry) same)
no_entry_at true (Some i) None r h = cc
no_entry_at true None name r h = cc
no_entry_at false id name r h = cc

no_entry : (d : Data) (r : Row) → heading_in d ≡ Some r → r.entry ≡ None
no_entry d r h = no_entry_at (has_only row_names d) (needed_member as_str (codes "id") d) (needed_member as_str (codes "name") d) r h

-- ---- the rows of a list

-- the heading of the next row, and those after it
record Next (d : Data) (ds : Items) (after : List Row) : Type 0 where
  pub heading : Row
  pub later : List Row
  pub is : after ≡ heading ∷ later
  pub here : heading_in d ≡ Some heading
  pub there : headings_in ds ≡ Some later

next_heading : (d : Data) (ds : Items) (after : List Row) → headings_in (item d ds) ≡ Some after → Next d ds after
next_heading d ds after e =
    let first = then_some (λ r. option_map (λ rs. r ∷ rs) (headings_in ds)) (heading_in d) after e in
    let others = map_some (λ rs. first.0 ∷ rs) (headings_in ds) after first.2 in
    record { heading = first.0; later = others.0; is = sym others.2; here = first.1; there = others.1 }

same_ids : (ds : Items) (rs hs : List Row) → rows_in ds ≡ Some rs → headings_in ds ≡ Some hs → ids_of rs ≡ ids_of hs
same_ids no_items rs hs e f = cc
same_ids (item d ds) rs hs e f =
    let row = then_some (λ r. option_map (λ rs. r ∷ rs) (rows_in ds)) (row_in d) rs e in
    let rows = map_some (λ rs. row.0 ∷ rs) (rows_in ds) rs row.2 in
    let next = next_heading d ds hs f in
    ids_join row.0 next.heading rows.0 next.later rs hs rows.2 next.is (same_id d row.0 next.heading row.1 next.here)
    (same_ids ds rows.0 next.later rows.1 next.there)
  where
    ids_join : (r h : Row) (rs hs all headings : List Row) → r ∷ rs ≡ all → headings ≡ h ∷ hs → r.id ≡ h.id → ids_of rs ≡ ids_of hs
        → ids_of all ≡ ids_of headings
    ids_join r h rs hs all headings e f one more = sym (ap ids_of e) ∙ rw (one, more) (sym (ap ids_of f))

    some_same : (a b : Row) → Some a ≡ Some b → a ≡ b
    some_same a b e = cc

    same_id : (d : Data) (r h : Row) → row_in d ≡ Some r → heading_in d ≡ Some h → r.id ≡ h.id
    same_id d r h e f =
        let first = then_some (λ q. option_map (λ x. with_entry x q) (entry_in d)) (heading_in d) r e in
        let second = map_some (λ x. with_entry x first.0) (entry_in d) r first.2 in
        let same : first.0 ≡ h = some_same first.0 h (sym first.1 ∙ f) in
        sym (ap (λ (q : Row). q.id) second.2) ∙ ap (λ (q : Row). q.id) same

-- ---- one more row

-- what each says, and one more
said_more : {T : Type 0} (says : Data → Option T) (ds : List Data) (d : Data) (xs : List T) (x : T)
    → read_each says (items_of ds) ≡ Some xs → says d ≡ Some x → read_each says (items_of (ds ++ d ∷ [])) ≡ Some (xs ++ x ∷ [])
said_more says [] d xs x e f = let none : [] ≡ xs = cc in rw f (ap (λ ys. Some (ys ++ x ∷ [])) none)
said_more says (c ∷ ds) d xs x e f =
    let first = then_some (λ y. option_map (λ ys. y ∷ ys) (read_each says (items_of ds))) (says c) xs e in
    let others = map_some (λ ys. first.0 ∷ ys) (read_each says (items_of ds)) xs first.2 in
    rw (first.1, said_more says ds d others.0 x others.1 f) (ap (λ zs. Some (zs ++ x ∷ [])) others.2)

pub listed_more : (ds : List Data) (d : Data) (hs : List Row) (es : List Entry) (id name : Text) (e : Entry) (new : List Row)
    → AreListed ds hs es → heading_in d ≡ Some (unentered id name) → is_some (place_of id hs) ≡ false → entry_in d ≡ Some e
    → new ≡ reserved id name hs → AreListed (ds ++ d ∷ []) new (es ++ e ∷ [])
listed_more ds d hs es id name e new before heading absent entry grown =
    let joined : new ≡ hs ++ unentered id name ∷ [] = grown ∙ rw absent in
    let free : list_any (λ u. bytes_eq u id) (ids_of hs) ≡ false = sym (is_some-position_from id hs 0) ∙ absent in
    record {
      headed = said_more heading_in ds d hs (unentered id name) before.headed heading ∙ ap Some (sym joined);
      entered = said_more entry_in ds d es e before.entered entry;
      differ = ap (λ (rs : List Row). ids_differ (ids_of rs)) joined ∙ ap ids_differ (ids_of-append hs (unentered id name ∷ []))
          ∙ ids_differ-joined (ids_of hs) id before.differ free;
    }

-- the row that one of the values says, among those of all
record Split (ds : List Data) (d : Data) (rows : List Row) : Type 0 where
  pub before : List Row
  pub row : Row
  pub after : List Row
  pub is : rows ≡ before ++ row ∷ after
  pub first : rows_in (items_of ds) ≡ Some before
  pub here : row_in d ≡ Some row

rows_join : (d : Data) (ds : List Data) (r : Row) (rs : List Row) → row_in d ≡ Some r → rows_in (items_of ds) ≡ Some rs
    → rows_in (items_of (d ∷ ds)) ≡ Some (r ∷ rs)
rows_join d ds r rs e f = rw (e, f) refl

with_first : (r row : Row) (rs rows before after : List Row) → r ∷ rs ≡ rows → rs ≡ before ++ row ∷ after
    → rows ≡ (r ∷ before) ++ row ∷ after
with_first r row rs rows before after all rest = sym all ∙ ap (λ qs. r ∷ qs) rest

split : (ds : List Data) (d : Data) (more : List Data) (rows : List Row) → rows_in (items_of (ds ++ d ∷ more)) ≡ Some rows → Split ds d rows
split [] d more rows e =
    let first = then_some (λ r. option_map (λ rs. r ∷ rs) (rows_in (items_of more))) (row_in d) rows e in
    let others = map_some (λ rs. first.0 ∷ rs) (rows_in (items_of more)) rows first.2 in
    record { before = []; row = first.0; after = others.0; is = sym others.2; first = refl; here = first.1 }
split (c ∷ ds) d more rows e =
    let first = then_some (λ r. option_map (λ rs. r ∷ rs) (rows_in (items_of (ds ++ d ∷ more)))) (row_in c) rows e in
    let others = map_some (λ rs. first.0 ∷ rs) (rows_in (items_of (ds ++ d ∷ more))) rows first.2 in
    let rest = split ds d more others.0 others.1 in
    record {
      before = first.0 ∷ rest.before;
      row = rest.row;
      after = rest.after;
      is = with_first first.0 rest.row others.0 rows rest.before rest.after others.2 rest.is;
      first = rows_join c ds first.0 rest.before first.1 rest.first;
      here = rest.here;
    }

split_behind : (ds : List Data) (d : Data) (more : List Data) (rows : List Row) → rows_in (items_of ((ds ++ d ∷ []) ++ more)) ≡ Some rows
    → Split ds d rows
split_behind ds d more rows e = split ds d more rows (ap (λ cs. rows_in (items_of cs)) (sym (append_assoc ds (d ∷ []) more)) ∙ e)

-- the heading and the entry of a row
row_parts : (d : Data) (r : Row) → row_in d ≡ Some r
    → (h : Row) × (e : Entry) × (heading_in d ≡ Some h) × (entry_in d ≡ Some e) × (with_entry e h ≡ r)
row_parts d r is =
    let first = then_some (λ h. option_map (λ e. with_entry e h) (entry_in d)) (heading_in d) r is in
    let second = map_some (λ e. with_entry e first.0) (entry_in d) r first.2 in
    (first.0, second.0, first.1, second.1, second.2)

nothing_said : {T : Type 0} (o : Option T) (x : T) (b : Bool) → o ≡ None → o ≡ Some x → b ≡ false
nothing_said o x b none some = cc

pub without_row : (ds : List Data) (d : Data) → row_in d ≡ None → BeginsNoTable (ds ++ d ∷ [])
without_row ds d none more rows e = let s = split_behind ds d more rows e in nothing_said (row_in d) s.row (is_complete rows) none s.here

pub with_known_id : (ds : List Data) (d : Data) (hs : List Row) (es : List Entry) (id name : Text) → AreListed ds hs es
    → heading_in d ≡ Some (unentered id name) → is_some (place_of id hs) ≡ true → BeginsNoTable (ds ++ d ∷ [])
with_known_id ds d hs es id name before heading there more rows e =
    let s = split_behind ds d more rows e in
    let parts = row_parts d s.row s.here in
    let same : s.row.id ≡ id = sym (ap (λ (r : Row). r.id) parts.4) ∙ same_some parts.0 (unentered id name) (sym parts.2 ∙ heading) in
    let again : list_any (λ u. bytes_eq u id) (ids_of s.before) ≡ true =
    ap (list_any (λ u. bytes_eq u id)) (same_ids (items_of ds) s.before hs s.first before.headed)
    ∙ sym (is_some-position_from id hs 0) ∙ there in
    let ids : ids_of rows ≡ ids_of s.before ++ id ∷ ids_of s.after =
    ap ids_of s.is ∙ ids_of-append s.before (s.row ∷ s.after) ∙ ap (λ t. ids_of s.before ++ t ∷ ids_of s.after) same in
    ap (λ b. b && all_fit (length rows) rows) (ap ids_differ ids ∙ ids_differ-again (ids_of s.before) (ids_of s.after) id again)
  where
    same_some : (h k : Row) → Some h ≡ Some k → h.id ≡ k.id
    same_some h k e = cc

-- a list that is there already
pub ends_so : (ds : List Data) → BeginsNoTable ds → IsNoTable ds
ends_so ds none rows e = none [] rows (ap (λ cs. rows_in (items_of cs)) (append-nil ds) ∙ e)

-- ---- the rows with their entries

-- the rows with these entries, as far as there are some
abbrev pub with_entries : List Row → List Entry → List Row
with_entries rs [] = rs
with_entries [] (e ∷ es) = []
with_entries (r ∷ rs) (e ∷ es) = with_entry e r ∷ with_entries rs es

length-with_entries : (rs : List Row) (es : List Entry) → length (with_entries rs es) ≡ length rs
length-with_entries rs [] = refl
length-with_entries [] (e ∷ es) = refl
length-with_entries (r ∷ rs) (e ∷ es) = ap suc (length-with_entries rs es)

ids_of-with_entries : (rs : List Row) (es : List Entry) → ids_of (with_entries rs es) ≡ ids_of rs
ids_of-with_entries rs [] = refl
ids_of-with_entries [] (e ∷ es) = refl
ids_of-with_entries (r ∷ rs) (e ∷ es) = ap (λ ts. r.id ∷ ts) (ids_of-with_entries rs es)

defined-with_entries : (rs : List Row) (es : List Entry) (e : Entry) → length es < length rs
    → defined (length es) e (with_entries rs es) ≡ with_entries rs (es ++ e ∷ [])
defined-with_entries [] [] e within = refl
defined-with_entries [] (x ∷ es) e within = refl
defined-with_entries (r ∷ rs) [] e within = refl
defined-with_entries (r ∷ rs) (x ∷ es) e within = ap (λ qs. with_entry x r ∷ qs) (defined-with_entries rs es e (omega (arith, within)))

slice_get-with_entries : (rs : List Row) (es : List Entry) → slice_get (with_entries rs es) (length es) ≡ slice_get rs (length es)
slice_get-with_entries rs [] = refl
slice_get-with_entries [] (e ∷ es) = refl
slice_get-with_entries (r ∷ rs) (e ∷ es) = slice_get-with_entries rs es

fit-with_entries : (count : ℕ) (rs : List Row) (es : List Entry) → length rs ≡ length es
    → all_fit count (with_entries rs es) ≡ list_all (refers_within count) es
fit-with_entries count [] [] same = refl
fit-with_entries count [] (e ∷ es) same = cc
fit-with_entries count (r ∷ rs) [] same = cc
fit-with_entries count (r ∷ rs) (e ∷ es) same = ap (λ b. refers_within count e && b) (fit-with_entries count rs es (omega (arith, same)))

row_of : (d : Data) (h : Row) (e : Entry) → heading_in d ≡ Some h → entry_in d ≡ Some e → row_in d ≡ Some (with_entry e h)
row_of d h e heading entry = rw (heading, entry) refl

rows_are : (ds : List Data) (hs : List Row) (es : List Entry) → headings_in (items_of ds) ≡ Some hs
    → read_each entry_in (items_of ds) ≡ Some es → (rows_in (items_of ds) ≡ Some (with_entries hs es)) × (length hs ≡ length es)
rows_are [] hs es e f = none hs es (cc) (cc)
  where
    none : (hs : List Row) (es : List Entry) → [] ≡ hs → [] ≡ es → (Some [] ≡ Some (with_entries hs es)) × (length hs ≡ length es)
    none [] [] e f = (refl, refl)
    none [] (x ∷ es) e f = cc
    none (h ∷ hs) es e f = cc
rows_are (d ∷ ds) hs es e f =
    let h = next_heading d (items_of ds) hs e in
    let x = then_some (λ y. option_map (λ ys. y ∷ ys) (read_each entry_in (items_of ds))) (entry_in d) es f in
    let xs = map_some (λ ys. x.0 ∷ ys) (read_each entry_in (items_of ds)) es x.2 in
    let rest = rows_are ds h.later xs.0 h.there xs.1 in
    let whole : with_entries hs es ≡ with_entry x.0 h.heading ∷ with_entries h.later xs.0 =
    ap (λ qs. with_entries qs es) h.is ∙ ap (with_entries (h.heading ∷ h.later)) (sym xs.2) in (
      rows_join d ds (with_entry x.0 h.heading) (with_entries h.later xs.0) (row_of d h.heading x.0 h.here x.1) rest.0 ∙ ap Some (sym whole),
      ap length h.is ∙ ap suc rest.1 ∙ ap length xs.2,
    )

same_entry : (h r : Row) → Some h ≡ Some r → h.entry ≡ None → r.entry ≡ None
same_entry h r e f = cc

headings_are_empty : (ds : List Data) (hs : List Row) (n : ℕ) (r : Row) → headings_in (items_of ds) ≡ Some hs → slice_get hs n ≡ Some r
    → r.entry ≡ None
headings_are_empty [] hs n r e is = none hs n (cc) is
  where
    none : (hs : List Row) (n : ℕ) → [] ≡ hs → slice_get hs n ≡ Some r → r.entry ≡ None
    none [] zero e is = cc
    none [] (suc n) e is = cc
    none (h ∷ hs) n e is = cc
headings_are_empty (d ∷ ds) hs zero r e is =
    let h = next_heading d (items_of ds) hs e in
    same_entry h.heading r (ap (λ qs. slice_get qs 0) (sym h.is) ∙ is) (no_entry d h.heading h.here)
headings_are_empty (d ∷ ds) hs (suc n) r e is =
    let h = next_heading d (items_of ds) hs e in
    headings_are_empty ds h.later n r h.there (ap (λ qs. slice_get qs (suc n)) (sym h.is) ∙ is)

-- ---- the entries join the table

-- The first entries are in the table, and each refers to its rows.
pub record AreDefined (hs : List Row) (es : List Entry) (types : List Row) : Type 0 where
  pub is : types ≡ with_entries hs es
  pub fit : list_all (refers_within (length hs)) es ≡ true

within_rows : (rows : List Row) (n : ℕ) (e : Entry) → refusal_of rows n e ≡ None → n < length rows
within_rows rows n e none = by (nat_le (length rows) n) refl none
  where
    below : nat_le (length rows) n ≡ false → n < length rows
    below h = grind (arith, nat_tests)

    by : (b : Bool) → nat_le (length rows) n ≡ b → option_map_or (λ m. Some (UnknownType m)) (cond b (Some n) (unknown_in rows e.shape))
        (cond (holds_another rows n e) (Some (AlreadyDefined n)) None) ≡ None → n < length rows
    by true is h = cc
    by false is h = below is

pub one_more_defined : (hs : List Row) (es : List Entry) (types new : List Row) (n : ℕ) (e : Entry) → AreDefined hs es types → n ≡ length es
    → refusal_of types n e ≡ None → new ≡ defined n e types → AreDefined hs (es ++ e ∷ []) new
one_more_defined hs es types new n e before place taken grown =
    let many : length types ≡ length hs = ap length before.is ∙ length-with_entries hs es in
    let within : length es < length hs = omega (arith, within_rows types n e taken, place, many) in
    let refers : refers_within (length hs) e ≡ true = ap (λ (k : ℕ). refers_within k e) (sym many) ∙ taken_is_within types n e taken in
    record {
      is = grown ∙ ap (λ (k : ℕ). defined k e types) place ∙ ap (defined (length es) e) before.is ∙ defined-with_entries hs es e within;
      fit = list_all-append (refers_within (length hs)) es (e ∷ []) ∙ rw (before.fit, refers);
    }

pub all_defined : (ds : List Data) (hs : List Row) (es : List Entry) (types : List Row) → AreListed ds hs es → AreDefined hs es types
    → IsTableOf ds types
all_defined ds hs es types listed all =
    let rows = rows_are ds hs es listed.headed listed.entered in
    let many : length types ≡ length hs = ap length all.is ∙ length-with_entries hs es in
    let ids : ids_differ (ids_of types) ≡ true = ap (λ (qs : List Row). ids_differ (ids_of qs)) all.is
    ∙ ap ids_differ (ids_of-with_entries hs es) ∙ listed.differ in
    let fit : all_fit (length types) types ≡ true = ap (λ (k : ℕ). all_fit k types) many ∙ ap (all_fit (length hs)) all.is
    ∙ fit-with_entries (length hs) hs es rows.1 ∙ all.fit in
    (rows.0 ∙ ap Some (sym all.is), rw (ids, fit))

-- an entry that the table refuses refers to no row
refused_is_outside : (rows : List Row) (n : ℕ) (e : Entry) (x : TypesError) → n < length rows → holds_another rows n e ≡ false
    → refusal_of rows n e ≡ Some x → refers_within (length rows) e ≡ false
refused_is_outside rows n e x within free refused =
    by (nat_le (length rows) n) (holds_another rows n e) (unknown_in rows e.shape) (above n (length rows) within) free refl refused
  where
    by : (b held : Bool) (o : Option ℕ) → b ≡ false → held ≡ false → unknown_in rows e.shape ≡ o
        → option_map_or (λ m. Some (UnknownType m)) (cond b (Some n) o) (cond held (Some (AlreadyDefined n)) None) ≡ Some x
        → refers_within (length rows) e ≡ false
    by true held o past free is h = cc
    by false true o past free is h = cc
    by false false None past free is h = cc
    by false false (Some k) past free is h = some_unknown (length rows) (numbers_of e.shape) k is

holds_none : (rows : List Row) (n : ℕ) (e : Entry) (o : Option Row) → slice_get rows n ≡ o
    → ((r : Row) → o ≡ Some r → r.entry ≡ None) → holds_another rows n e ≡ false
holds_none rows n e None is empty = rw is refl
holds_none rows n e (Some r) is empty = rw (is, empty r refl) refl

pub not_defined : (ds : List Data) (hs : List Row) (es more : List Entry) (types : List Row) (n : ℕ) (e : Entry) (x : TypesError)
    → AreListed ds hs (es ++ e ∷ more) → AreDefined hs es types → n ≡ length es → refusal_of types n e ≡ Some x → IsNoTable ds
not_defined ds hs es more types n e x listed before place refused rows is =
    let all = rows_are ds hs (es ++ e ∷ more) listed.headed listed.entered in
    let many : length types ≡ length hs = ap length before.is ∙ length-with_entries hs es in
    let within : n < length types = omega (arith, place, many, all.1, length_middle es e more) in
    let at_place : slice_get types n ≡ slice_get hs n = ap (λ (k : ℕ). slice_get types k) place
    ∙ ap (λ (qs : List Row). slice_get qs (length es)) before.is ∙ slice_get-with_entries hs es
    ∙ ap (λ (k : ℕ). slice_get hs k) (sym place) in
    let free = holds_none types n e (slice_get hs n) at_place (λ r there. headings_are_empty ds hs n r listed.headed there) in
    let outside : refers_within (length hs) e ≡ false = ap (λ (k : ℕ). refers_within k e) (sym many) ∙ refused_is_outside types n e x within free refused in
    let unfit : list_all (refers_within (length hs)) (es ++ e ∷ more) ≡ false =
    list_all-append (refers_within (length hs)) es (e ∷ more) ∙ rw outside (and-false (list_all (refers_within (length hs)) es)) in
    let same : rows ≡ with_entries hs (es ++ e ∷ more) = same_some rows (with_entries hs (es ++ e ∷ more)) (sym is ∙ all.0) in
    let count : length rows ≡ length hs = ap length same ∙ length-with_entries hs (es ++ e ∷ more) in
    let bad : all_fit (length rows) rows ≡ false = ap (λ (k : ℕ). all_fit k rows) count ∙ ap (all_fit (length hs)) same
    ∙ fit-with_entries (length hs) hs (es ++ e ∷ more) all.1 ∙ unfit in
    ap (λ b. ids_differ (ids_of rows) && b) bad ∙ and-false (ids_differ (ids_of rows))
  where
    length_middle : (es : List Entry) (e : Entry) (more : List Entry) → length es < length (es ++ e ∷ more)
    length_middle [] e more = omega arith
    length_middle (x ∷ es) e more = let h = length_middle es e more in omega arith

    same_some : (xs ys : List Row) → Some xs ≡ Some ys → xs ≡ ys
    same_some xs ys e = cc
