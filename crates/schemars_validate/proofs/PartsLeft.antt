-- An object, whose keywords for the parts that are left are the last.
use Rattle.std.proofs.Common.{◌≡◌, ℕ, suc, List, Bool, true, false, Option, Some, None, refl, sym, ap, ◌∙◌}
use Rattle.std.proofs.Math.Bool.{or-false}
use Rattle.schemars_validate.proofs.Words.{◌&&◌, ◌||◌, not, is_some, option_map, if◌then◌else◌, codes, Data, null, boolean, number, string, array, object, Items, no_items, item, Members, no_members, member, get_member, as_array, as_object, Text, Verdict, Yes, both, all_of, Context, Judge, Part, key, position, Raw, where_some, each_member, Reading, each_item_left, unevaluated_properties_say, unevaluated_items_say, judged_beside, judges_rest, judge, all_keywords, reference_alone, is_reference, read_data, both-yes, both-assoc, says, judge-object, schema_at, schema_where_read, schema_of_rest, judge_at, keys_in, positions_in, parts_of, marked, unmarked, each_unmarked, each_unmarked_item, unmarked_by, besides, reads}
use Rattle.schemars_validate.proofs.Readings.{read_where_read, read_additional}
use Rattle.schemars_validate.proofs.MarkedAlike.{marked_same, Agree, parts_same}
use Rattle.schemars_validate.proofs.JudgedInside.{has_read}

abbrev pub raw_of : Members → Raw
raw_of ms k = get_member k ms

abbrev pub refers_alone : Context → Members → Bool
refers_alone c ms = not c.dialect.judges_siblings && is_reference (get_member (codes "$ref") ms)

pub object_alone : (c : Context) (ms : Members) → refers_alone c ms ≡ true → judge c (object ms) ≡ reference_alone c (raw_of ms)
unfolding says
object_alone c ms alone = judge-object c ms ∙ rw alone

pub object_whole : (c : Context) (ms : Members) → refers_alone c ms ≡ false
    → judge c (object ms) ≡ all_keywords c (raw_of ms) (reads c (raw_of ms))
unfolding says
object_whole c ms alone = judge-object c ms ∙ rw alone

-- of the members and the items that are left
abbrev rest_says : Context → Raw → Data → Verdict
rest_says c raw v =
    both (unevaluated_items_say c.dialect.reads_unevaluated (λ n. judged_beside c raw (reads c raw) v (position n))
    (reads c raw (codes "unevaluatedItems")) v)
    (unevaluated_properties_say c.dialect.reads_unevaluated (λ k. judged_beside c raw (reads c raw) v (key k))
    (reads c raw (codes "unevaluatedProperties")) v)

pub all_fits : (c : Context) (raw : Raw) (v : Data)
    → both (all_of (besides c raw v)) (rest_says c raw v) ≡ (all_keywords c raw (reads c raw)).fits v
unfolding all_keywords
all_fits c raw v = simp (both-assoc, both-yes)

pub all_judges : (c : Context) (raw : Raw) (v : Data) (p : Part) → (all_keywords c raw (reads c raw)).judges v p
    ≡ (judged_beside c raw (reads c raw) v p || (c.dialect.reads_unevaluated && judges_rest (reads c raw) p))
unfolding all_keywords
all_judges c raw v p = refl

members_left : (s : Judge) (f : Part → Bool) (ms : Members)
    → each_unmarked s ms (marked f (keys_in ms) (unmarked (keys_in ms))) ≡ each_member (λ k w. if f (key k) then Yes else s.fits w) ms
members_left s f no_members = refl
members_left s f (member k w ms) = ap (both (if f (key k) then Yes else s.fits w)) (members_left s f ms)

items_left : (s : Judge) (f : Part → Bool) (n : ℕ) (ds : Items)
    → each_unmarked_item s ds (marked f (positions_in n ds) (unmarked (positions_in n ds))) ≡ each_item_left (λ m. f (position m)) n s ds
items_left s f n no_items = refl
items_left s f n (item d ds) = ap (both (if f (position n) then Yes else s.fits d)) (items_left s f (suc n) ds)

nothing_said : (f : Text → Bool) (ms : Members) → each_member (λ k w. if f k then Yes else Yes) ms ≡ Yes
nothing_said f no_members = refl
nothing_said f (member k w ms) = ap (λ x. both x (each_member (λ k w. if f k then Yes else Yes) ms)) (pick (f k)) ∙ nothing_said f ms
  where
    pick : (b : Bool) → (if b then Yes else Yes) ≡ Yes
    pick true = refl
    pick false = refl

-- what the schema that stands there says of the members that are left
members_rest : (r : Bool) (f : Text → Bool) (c : Context) (x : Option Data) (ms : Members)
    → unevaluated_properties_say r f (option_map (read_data c) x) (object ms)
    ≡ where_some (judge_at c (schema_where_read r x)) (λ s. each_member (λ k w. if f k then Yes else s.fits w) ms)
members_rest true f c x ms =
    read_additional f c x (object ms) ∙ go (judge_at c (schema_at x))
  where
    go : (o : Option Judge) → each_member (λ k w. if f k then Yes else where_some o (λ s. s.fits w)) ms
        ≡ where_some o (λ s. each_member (λ k w. if f k then Yes else s.fits w) ms)
    go None = nothing_said f ms
    go (Some s) = refl
members_rest false f c x ms = refl

-- and of the items
items_rest : (r : Bool) (f : ℕ → Bool) (c : Context) (x : Option Data) (ds : Items)
    → unevaluated_items_say r f (option_map (read_data c) x) (array ds)
    ≡ where_some (judge_at c (schema_where_read r x)) (λ s. each_item_left f 0 s ds)
items_rest r f c x ds = sym (read_where_read r c x (Some ds) (λ s ds. each_item_left f 0 s ds))

-- a keyword says nothing of a value of another kind
no_members_rest : (r : Bool) (f : Text → Bool) (x : Option Reading) (v : Data) → as_object v ≡ None → unevaluated_properties_say r f x v ≡ Yes
no_members_rest true f None v none = refl
no_members_rest true f (Some y) v none =
    ap (λ o. where_some o (λ ms. where_some y.schema (λ s. each_member (λ k w. if f k then Yes else s.fits w) ms))) none
no_members_rest false f x v none = refl

no_items_rest : (r : Bool) (f : ℕ → Bool) (x : Option Reading) (v : Data) → as_array v ≡ None → unevaluated_items_say r f x v ≡ Yes
no_items_rest r f None v none = refl
no_items_rest true f (Some y) v none = ap (λ o. where_some o (λ vs. where_some y.schema (λ s. each_item_left f 0 s vs))) none
no_items_rest false f (Some y) v none = refl

no_parts_rest : (c : Context) (raw : Raw) (v : Data) → as_array v ≡ None → as_object v ≡ None → Yes ≡ rest_says c raw v
no_parts_rest c raw v list map =
    sym (ap (λ x. both x (unevaluated_properties_say c.dialect.reads_unevaluated (λ k. judged_beside c raw (reads c raw) v (key k))
    (reads c raw (codes "unevaluatedProperties")) v))
    (no_items_rest c.dialect.reads_unevaluated _ (reads c raw (codes "unevaluatedItems")) v list)
    ∙ no_members_rest c.dialect.reads_unevaluated _ (reads c raw (codes "unevaluatedProperties")) v map)

in_each : (o : Option Judge) (f g : Judge → Verdict) → ((s : Judge) → f s ≡ g s) → where_some o f ≡ where_some o g
in_each None f g h = refl
in_each (Some s) f g h = h s

-- what is left of the value, by the schema that stands there, if there is one
rest_by : (c : Context) (raw : Raw) (v : Data)
    → where_some (judge_at c (schema_of_rest c.dialect.reads_unevaluated raw v))
    (λ s. unmarked_by s v (marked (judged_beside c raw (reads c raw) v) (parts_of v) (unmarked (parts_of v))))
    ≡ rest_says c raw v
rest_by c raw (array ds) =
    let r = c.dialect.reads_unevaluated in
    let f : Part → Bool = judged_beside c raw (reads c raw) (array ds) in
    in_each (judge_at c (schema_where_read r (raw (codes "unevaluatedItems")))) _ _ (λ s. items_left s f 0 ds)
    ∙ (sym (items_rest r (λ n. f (position n)) c (raw (codes "unevaluatedItems")) ds)
    ∙ (sym (both-yes _)
    ∙ ap (both (unevaluated_items_say r (λ n. f (position n)) (reads c raw (codes "unevaluatedItems")) (array ds)))
    (sym (no_members_rest r (λ k. f (key k)) (reads c raw (codes "unevaluatedProperties")) (array ds) refl))))
rest_by c raw (object ms) =
    let r = c.dialect.reads_unevaluated in
    let f : Part → Bool = judged_beside c raw (reads c raw) (object ms) in
    in_each (judge_at c (schema_where_read r (raw (codes "unevaluatedProperties")))) _ _ (λ s. members_left s f ms)
    ∙ (sym (members_rest r (λ k. f (key k)) c (raw (codes "unevaluatedProperties")) ms)
    ∙ ap (λ x. both x (unevaluated_properties_say r (λ k. f (key k)) (reads c raw (codes "unevaluatedProperties")) (object ms)))
    (sym (no_items_rest r (λ n. f (position n)) (reads c raw (codes "unevaluatedItems")) (object ms) refl)))
rest_by c raw null = no_parts_rest c raw null refl refl
rest_by c raw (boolean b) = no_parts_rest c raw (boolean b) refl refl
rest_by c raw (number n) = no_parts_rest c raw (number n) refl refl
rest_by c raw (string s) = no_parts_rest c raw (string s) refl refl

-- with the keyword, and without it
pub object_with : (c : Context) (raw : Raw) (v d : Data) (says rest : Verdict) (marks : List Bool)
    → Some d ≡ schema_of_rest c.dialect.reads_unevaluated raw v → says ≡ all_of (besides c raw v)
    → marks ≡ marked (judged_beside c raw (reads c raw) v) (parts_of v) (unmarked (parts_of v))
    → rest ≡ unmarked_by (judge c d) v marks → both says rest ≡ (all_keywords c raw (reads c raw)).fits v
object_with c raw v d says rest marks is said judged left =
    ap (λ x. both x rest) said
    ∙ (ap (both (all_of (besides c raw v)))
    (left ∙ (ap (unmarked_by (judge c d) v) judged
    ∙ (ap (λ o. where_some (judge_at c o)
    (λ s. unmarked_by s v (marked (judged_beside c raw (reads c raw) v) (parts_of v) (unmarked (parts_of v))))) is
    ∙ rest_by c raw v)))
    ∙ all_fits c raw v)

pub object_without : (c : Context) (raw : Raw) (v : Data) → None ≡ schema_of_rest c.dialect.reads_unevaluated raw v
    → all_of (besides c raw v) ≡ (all_keywords c raw (reads c raw)).fits v
object_without c raw v is =
    sym (both-yes (all_of (besides c raw v)))
    ∙ (ap (both (all_of (besides c raw v)))
    (ap (λ o. where_some (judge_at c o)
    (λ s. unmarked_by s v (marked (judged_beside c raw (reads c raw) v) (parts_of v) (unmarked (parts_of v))))) is
    ∙ rest_by c raw v)
    ∙ all_fits c raw v)

or_true : (b : Bool) → true ≡ (b || true)
or_true true = refl
or_true false = refl

-- the tests of the parts that are judged beside, and then of all that are left
judged_with : (b : Bool) (c : Context) (raw : Raw) (v : Data) → b ≡ is_some (schema_of_rest c.dialect.reads_unevaluated raw v)
    → Agree v (λ p. judged_beside c raw (reads c raw) v p || b) (λ p. (all_keywords c raw (reads c raw)).judges v p)
judged_with b c raw (array ds) is = λ n.
    ap (λ y. judged_beside c raw (reads c raw) (array ds) (position n) || y)
    (is ∙ sym (has_read c.dialect.reads_unevaluated c (raw (codes "unevaluatedItems"))))
    ∙ sym (all_judges c raw (array ds) (position n))
judged_with b c raw (object ms) is = λ k.
    ap (λ y. judged_beside c raw (reads c raw) (object ms) (key k) || y)
    (is ∙ sym (has_read c.dialect.reads_unevaluated c (raw (codes "unevaluatedProperties"))))
    ∙ sym (all_judges c raw (object ms) (key k))
judged_with b c raw _ is = tt

pub object_with_marks : (c : Context) (raw : Raw) (v d : Data) (old : List Bool)
    → Some d ≡ schema_of_rest c.dialect.reads_unevaluated raw v
    → marked (λ p. true) (parts_of v) old ≡ marked ((all_keywords c raw (reads c raw)).judges v) (parts_of v) old
object_with_marks c raw v d old is =
    marked_same (λ p. true) (λ p. judged_beside c raw (reads c raw) v p || true) (λ p. or_true (judged_beside c raw (reads c raw) v p))
    (parts_of v) old
    ∙ parts_same _ _ v (judged_with true c raw v (ap is_some is)) old

pub object_without_marks : (c : Context) (raw : Raw) (v : Data) (old : List Bool)
    → None ≡ schema_of_rest c.dialect.reads_unevaluated raw v
    → marked (judged_beside c raw (reads c raw) v) (parts_of v) old ≡ marked ((all_keywords c raw (reads c raw)).judges v) (parts_of v) old
object_without_marks c raw v old is =
    marked_same (judged_beside c raw (reads c raw) v) (λ p. judged_beside c raw (reads c raw) v p || false)
    (λ p. sym (or-false (judged_beside c raw (reads c raw) v p))) (parts_of v) old
    ∙ parts_same _ _ v (judged_with false c raw v (ap is_some is)) old
