-- What is read of a keyword's value, by the schemas that stand there.
use Rattle.std.proofs.Common.{◌≡◌, ℕ, List, [], ◌∷◌, Bool, true, false, Option, Some, None, refl, sym, ap, ◌∙◌}
use Rattle.schemars_validate.proofs.Words.{◌&&◌, ◌||◌, is_some, option_map, option_and_then, if◌then◌else◌, bytes_eq, unwrap_or, length, map, codes, Data, null, boolean, number, string, array, object, Items, no_items, item, Members, no_members, member, get_member, as_array, as_object, as_bool, get_member-member, Text, is_schema, schema_only, Verdict, Yes, both, Context, Judge, Reading, Patterns, Raw, where_some, when, where_read, each_member, matches, dependent_required_says, by_position, each_past, items_say, positions_say, past_say, past_list_say, count_of_positions, each_says, schema_says, condition_says, chosen, contains_says, count_of_fitting, property_names_say, dependent_schemas_say, dependencies_say, schema_named, matches_some, by_patterns, named_in, properties_say, pattern_properties_say, additional_properties_say, is_covered, judge, read_data, read_items, read_members, all_named, both_some, truth_value, with_schema, some_named, both-yes, both-assoc, both-middle, are_schemas, are_named_schemas, schema_at, schemas_in, schemas_by_name, schema_where_read, schemas_where_read, members_where_read, judge_at, judges_of, named_judges, named_judges_in, judges_among, judges_among_in, is_named, matches_one, is_matched, each_item, items_by, items_or_none, first_schemas, other_schema, member_by, members_by, reads, names_by, dependents_by, counted_says}

-- ---- schemas

pub judge_other : (c : Context) (d : Data) → as_object d ≡ None → judge c d ≡ truth_value (unwrap_or (as_bool d) false)
unfolding read_data
judge_other c null h = refl
judge_other c (boolean b) h = refl
judge_other c (number n) h = refl
judge_other c (string s) h = refl
judge_other c (array ds) h = refl
judge_other c (object ms) h = cc

schema_read : (c : Context) (d : Data) → (read_data c d).schema ≡ (if is_schema d then Some (judge c d) else None)
unfolding read_data
schema_read c null = refl
schema_read c (boolean b) = refl
schema_read c (number n) = refl
schema_read c (string s) = refl
schema_read c (array ds) = refl
schema_read c (object ms) = refl

joined : {A : Type 0} (b e : Bool) (a : A) (x : List A) → both_some (λ s ss. s ∷ ss) (if b then Some a else None) (if e then Some x else None)
    ≡ (if b && e then Some (a ∷ x) else None)
joined true true a x = refl
joined true false a x = refl
joined false e a x = refl

items_read : (c : Context) (ds : Items) → read_items c ds ≡ (if are_schemas ds then Some (judges_of c ds) else None)
unfolding read_data
items_read c no_items = refl
items_read c (item d ds) =
    rw (schema_read c d, items_read c ds) (joined (is_schema d) (are_schemas ds) (judge c d) (judges_of c ds))

named_joined : (b e : Bool) (k : Text) (a : Judge) (x : List (Text × Judge))
    → both_some (λ s ss. (k, s) ∷ ss) (if b then Some a else None) (if e then Some x else None) ≡ (if b && e then Some ((k, a) ∷ x) else None)
named_joined true true k a x = refl
named_joined true false k a x = refl
named_joined false e k a x = refl

members_read : (c : Context) (ms : Members)
    → all_named (read_members c ms) ≡ (if are_named_schemas ms then Some (named_judges c ms) else None)
unfolding read_data
members_read c no_members = refl
members_read c (member k d ms) =
    rw (schema_read c d, members_read c ms) (named_joined (is_schema d) (are_named_schemas ms) k (judge c d) (named_judges c ms))

moved : {A B : Type 0} (f : A → B) (b : Bool) (a : A) → (if b then Some (f a) else None) ≡ option_map f (when b a)
moved f true a = refl
moved f false a = refl

moved_if : {A B : Type 0} (f : A → B) (b : Bool) (a : A) → (if b then Some (f a) else None) ≡ option_map f (if b then Some a else None)
moved_if f true a = refl
moved_if f false a = refl

pub read_schema : (c : Context) (x : Option Data) → option_and_then (λ r. r.schema) (option_map (read_data c) x) ≡ judge_at c (schema_at x)
read_schema c None = refl
read_schema c (Some d) = schema_read c d ∙ moved_if (judge c) (is_schema d) d

pub read_listed : (c : Context) (x : Option Data)
    → option_and_then (λ r. r.listed) (option_map (read_data c) x) ≡ option_map (judges_of c) (schemas_in x)
unfolding read_data
read_listed c None = refl
read_listed c (Some null) = refl
read_listed c (Some (boolean b)) = refl
read_listed c (Some (number n)) = refl
read_listed c (Some (string s)) = refl
read_listed c (Some (array ds)) = items_read c ds ∙ moved (judges_of c) (are_schemas ds) ds
read_listed c (Some (object ms)) = refl

pub read_named : (c : Context) (x : Option Data)
    → option_and_then (λ r. r.named) (option_map (read_data c) x) ≡ option_map (named_judges c) (schemas_by_name x)
unfolding read_data
read_named c None = refl
read_named c (Some null) = refl
read_named c (Some (boolean b)) = refl
read_named c (Some (number n)) = refl
read_named c (Some (string s)) = refl
read_named c (Some (array ds)) = refl
read_named c (Some (object ms)) = members_read c ms ∙ moved (named_judges c) (are_named_schemas ms) ms

-- ---- a keyword's value says nothing of a value of another kind

says_nothing : {A : Type 0} (x : Option A) → where_some x (λ a. Yes) ≡ Yes
says_nothing None = refl
says_nothing (Some a) = refl

pub kind_first : {A B : Type 0} (get : Reading → Option A) (of : Option B) (x : Option Reading) (f : A → B → Verdict)
    → where_some x (λ r. where_some of (λ b. where_some (get r) (λ a. f a b)))
    ≡ where_some of (λ b. where_some (option_and_then get x) (λ a. f a b))
kind_first get of None f = sym (says_nothing of)
kind_first get of (Some r) f = refl

-- ---- subschemas of the same value

pub read_each : (join : List Verdict → Verdict) (c : Context) (x : Option Data) (v : Data)
    → where_some (schemas_in x) (λ ds. join (map (λ s. s.fits v) (judges_of c ds))) ≡ each_says join (option_map (read_data c) x) v
read_each join c x v = sym (flat (option_map (read_data c) x) ∙ (ap (λ y. where_some y F) (read_listed c x) ∙ through (schemas_in x)))
  where
    F : List Judge → Verdict
    F ss = join (map (λ s. s.fits v) ss)

    flat : (y : Option Reading) → where_some y (λ r. where_some r.listed F) ≡ where_some (option_and_then (λ r. r.listed) y) F
    flat None = refl
    flat (Some r) = refl

    through : (y : Option Items) → where_some (option_map (judges_of c) y) F ≡ where_some y (λ ds. F (judges_of c ds))
    through None = refl
    through (Some ds) = refl

pub read_one : (f : Judge → Verdict) (c : Context) (x : Option Data)
    → where_some (judge_at c (schema_at x)) f ≡ where_some (option_map (read_data c) x) (λ r. where_some r.schema f)
read_one f c x = sym (flat (option_map (read_data c) x) ∙ ap (λ y. where_some y f) (read_schema c x))
  where
    flat : (y : Option Reading) → where_some y (λ r. where_some r.schema f) ≡ where_some (option_and_then (λ r. r.schema) y) f
    flat None = refl
    flat (Some r) = refl

-- ---- keywords that only some drafts read

swapped : {A B : Type 0} (of : Option B) (x : Option A) (f : A → B → Verdict)
    → where_some of (λ b. where_some x (λ a. f a b)) ≡ where_some x (λ a. where_some of (λ b. f a b))
swapped None None f = refl
swapped None (Some a) f = refl
swapped (Some b) None f = refl
swapped (Some b) (Some a) f = refl

pub read_where_read : {B : Type 0} (r : Bool) (c : Context) (x : Option Data) (of : Option B) (f : Judge → B → Verdict)
    → where_some (judge_at c (schema_where_read r x)) (λ s. where_some of (λ b. f s b))
    ≡ where_read r (option_map (read_data c) x) (λ y. where_some of (λ b. where_some y.schema (λ s. f s b)))
read_where_read true c None of f = refl
read_where_read true c (Some d) of f =
    sym (ap (λ o. where_some of (λ b. where_some o (λ s. f s b))) (read_schema c (Some d)) ∙ swapped of (judge_at c (schema_at (Some d))) f)
read_where_read false c None of f = refl
read_where_read false c (Some d) of f = refl

pub read_names : (r : Bool) (c : Context) (x : Option Data) (v : Data)
    → names_by (judge_at c (schema_where_read r x)) v ≡ property_names_say r (option_map (read_data c) x) v
read_names r c x v = read_where_read r c x (as_object v) (λ s ms. each_member (λ k w. s.fits (string k)) ms)

pub read_contains : (r counts : Bool) (c : Context) (x least most : Option Data) (v : Data)
    → where_some (judge_at c (schema_where_read r x)) (λ s. where_some (as_array v) (λ vs. counted_says counts least most (count_of_fitting s vs)))
    ≡ contains_says r counts (option_map (read_data c) x) least most v
read_contains r counts c x least most v = read_where_read r c x (as_array v) (λ s vs. counted_says counts least most (count_of_fitting s vs))

pub read_condition : (r : Bool) (c : Context) (x : Option Data) (accepted refused : Option Reading) (v : Data)
    → where_some (judge_at c (schema_where_read r x)) (λ s. chosen (s.fits v) (schema_says accepted v) (schema_says refused v))
    ≡ condition_says r (option_map (read_data c) x) accepted refused v
read_condition r c x accepted refused v =
    read_where_read r c x (Some v) (λ s w. chosen (s.fits v) (schema_says accepted v) (schema_says refused v))

-- of no schemas
no_dependents : (v : Data) → dependents_by [] v ≡ Yes
no_dependents v = says_nothing (as_object v)

-- where all members are schemas, none is left out
each_among : (c : Context) (ms : Members) → are_named_schemas ms ≡ true → judges_among c ms ≡ named_judges c ms
each_among c no_members all = refl
each_among c (member k d ms) all = go (is_schema d) (are_named_schemas ms) refl all (each_among c ms)
  where
    go : (b e : Bool) → is_schema d ≡ b → (b && e) ≡ true → (e ≡ true → judges_among c ms ≡ named_judges c ms)
        → with_schema k (judge_at c (schema_only d)) (judges_among c ms) ≡ (k, judge c d) ∷ named_judges c ms
    go true e here all later =
        ap (λ t. with_schema k (judge_at c (if t then Some d else None)) (judges_among c ms)) here
        ∙ ap (λ ss. (k, judge c d) ∷ ss) (later all)
    go false e here all later = cc

pub all_among : (r : Bool) (c : Context) (x : Option Data)
    → judges_among_in c (schemas_where_read r x) ≡ named_judges_in c (schemas_where_read r x)
all_among true c None = refl
all_among true c (Some d) = go (as_object d)
  where
    found : (b : Bool) (ms : Members) → are_named_schemas ms ≡ b → judges_among_in c (when b ms) ≡ named_judges_in c (when b ms)
    found true ms all = each_among c ms all
    found false ms all = refl

    go : (y : Option Members) → judges_among_in c (option_and_then (λ ms. when (are_named_schemas ms) ms) y)
        ≡ named_judges_in c (option_and_then (λ ms. when (are_named_schemas ms) ms) y)
    go None = refl
    go (Some ms) = found (are_named_schemas ms) ms refl
all_among false c x = refl

pub read_among : (r : Bool) (c : Context) (x : Option Data) (v : Data)
    → dependents_by (judges_among_in c (schemas_where_read r x)) v ≡ dependent_schemas_say r (option_map (read_data c) x) v
read_among r c x v = ap (λ ss. dependents_by ss v) (all_among r c x) ∙ read_dependents r c x v
  where
    read_dependents : (r : Bool) (c : Context) (x : Option Data) (v : Data)
        → dependents_by (named_judges_in c (schemas_where_read r x)) v ≡ dependent_schemas_say r (option_map (read_data c) x) v
    read_dependents true c None v = no_dependents v
    read_dependents true c (Some d) v =
        sym (ap (λ o. where_some o (λ ss. dependents_by ss v)) (read_named c (Some d)) ∙ through (schemas_by_name (Some d)))
      where
        through : (y : Option Members)
            → where_some (option_map (named_judges c) y) (λ ss. dependents_by ss v) ≡ dependents_by (named_judges_in c y) v
        through None = sym (no_dependents v)
        through (Some ms) = refl
    read_dependents false c None v = no_dependents v
    read_dependents false c (Some d) v = no_dependents v

-- those of an object's members that are schemas
among_read : (c : Context) (ms : Members) → some_named (read_members c ms) ≡ judges_among c ms
unfolding read_data
among_read c no_members = refl
among_read c (member k d ms) =
    ap (λ o. with_schema k o (some_named (read_members c ms))) (schema_read c d ∙ moved_if (judge c) (is_schema d) d)
    ∙ ap (with_schema k (judge_at c (schema_only d))) (among_read c ms)

pub read_dependencies : (r : Bool) (c : Context) (x : Option Data) (v : Data)
    → both (dependent_required_says r x v) (dependents_by (judges_among_in c (members_where_read r x)) v)
    ≡ dependencies_say r x (option_map (read_data c) x) v
unfolding read_data
read_dependencies r c x v = ap (both (dependent_required_says r x v)) (go r x)
  where
    of_kind : (d : Data) → dependents_by (judges_among_in c (as_object d)) v ≡ dependents_by (read_data c d).among v
    of_kind null = refl
    of_kind (boolean b) = refl
    of_kind (number n) = refl
    of_kind (string s) = refl
    of_kind (array ds) = refl
    of_kind (object ms) = ap (λ ss. dependents_by ss v) (sym (among_read c ms))

    go : (r : Bool) (x : Option Data) → dependents_by (judges_among_in c (members_where_read r x)) v
        ≡ where_read r (option_map (read_data c) x) (λ y. dependents_by y.among v)
    go true None = no_dependents v
    go true (Some d) = of_kind d
    go false None = no_dependents v
    go false (Some d) = no_dependents v

-- ---- lists

others_past : (others : Option Judge) (vs : Items) → each_item [] others vs ≡ where_some others (λ s. each_past 0 s vs)
others_past None no_items = refl
others_past None (item v vs) = others_past None vs
others_past (Some s) no_items = refl
others_past (Some s) (item v vs) = ap (both (s.fits v)) (others_past (Some s) vs)

first_past : (ss : List Judge) (others : Option Judge) (vs : Items)
    → each_item ss others vs ≡ both (by_position ss vs) (where_some others (λ s. each_past (length ss) s vs))
first_past [] others vs = others_past others vs
first_past (s ∷ ss) None no_items = refl
first_past (s ∷ ss) (Some o) no_items = refl
first_past (s ∷ ss) None (item v vs) = ap (both (s.fits v)) (first_past ss None vs) ∙ sym (both-assoc (s.fits v) (by_position ss vs) Yes)
first_past (s ∷ ss) (Some o) (item v vs) =
    ap (both (s.fits v)) (first_past ss (Some o) vs) ∙ sym (both-assoc (s.fits v) (by_position ss vs) (each_past (length ss) o vs))

-- the parts of `items_say`, by the schemas that stand there
abbrev placed : Option (List Judge) → Option Items → Verdict
placed ss vs = where_some vs (λ vs. where_some ss (λ ss. by_position ss vs))

abbrev beyond : ℕ → Option Judge → Option Items → Verdict
beyond n s vs = where_some vs (λ vs. where_some s (λ s. each_past n s vs))

pub read_positions : (c : Context) (x : Option Data) (v : Data)
    → positions_say (option_map (read_data c) x) v ≡ placed (option_map (judges_of c) (schemas_in x)) (as_array v)
read_positions c x v =
    kind_first (λ r. r.listed) (as_array v) (option_map (read_data c) x) by_position
    ∙ ap (λ ss. placed ss (as_array v)) (read_listed c x)

pub read_past : (n : ℕ) (c : Context) (x : Option Data) (v : Data)
    → past_say n (option_map (read_data c) x) v ≡ beyond n (judge_at c (schema_at x)) (as_array v)
read_past n c x v =
    kind_first (λ r. r.schema) (as_array v) (option_map (read_data c) x) (λ s vs. each_past n s vs)
    ∙ ap (λ s. beyond n s (as_array v)) (read_schema c x)

whole : (ss : Option Items) (c : Context) (others : Option Judge) (v : Option Items)
    → where_some v (λ vs. each_item (judges_of c (items_or_none ss)) others vs)
    ≡ both (placed (option_map (judges_of c) ss) v) (beyond (length (judges_of c (items_or_none ss))) others v)
whole ss c others None = refl
whole None c None (Some vs) = others_past None vs
whole None c (Some s) (Some vs) = others_past (Some s) vs
whole (Some ds) c None (Some vs) = first_past (judges_of c ds) None vs
whole (Some ds) c (Some s) (Some vs) = first_past (judges_of c ds) (Some s) vs

positions_count : (c : Context) (x : Option Data)
    → count_of_positions (option_map (read_data c) x) ≡ length (judges_of c (items_or_none (schemas_in x)))
positions_count c x = ap (λ o. elim o [ None ↦ 0 | Some ss ↦ length ss ]) (read_listed c x) ∙ counted (schemas_in x)
  where
    counted : (y : Option Items) → elim (option_map (judges_of c) y) [ None ↦ 0 | Some ss ↦ length ss ] ≡ length (judges_of c (items_or_none y))
    counted None = refl
    counted (Some ds) = refl

-- a list of schemas is no schema
pub list_no_schema : (x : Option Data) (ds : Items) → schemas_in x ≡ Some ds → schema_at x ≡ None
list_no_schema None ds h = refl
list_no_schema (Some null) ds h = refl
list_no_schema (Some (boolean b)) ds h = cc
list_no_schema (Some (number n)) ds h = refl
list_no_schema (Some (string s)) ds h = refl
list_no_schema (Some (array es)) ds h = refl
list_no_schema (Some (object ms)) ds h = cc

none_placed : (v : Option Items) → placed None v ≡ Yes
none_placed None = refl
none_placed (Some vs) = refl

none_beyond : (n : ℕ) (v : Option Items) → beyond n None v ≡ Yes
none_beyond n None = refl
none_beyond n (Some vs) = refl

pub read_items_say : (r : Bool) (c : Context) (raw : Raw) (v : Data)
    → items_by (judges_of c (first_schemas r raw)) (judge_at c (other_schema r raw)) v
    ≡ items_say r (reads c raw (codes "prefixItems")) (reads c raw (codes "items")) (reads c raw (codes "additionalItems")) v
read_items_say true c raw v =
    let p = raw (codes "prefixItems") in
    let x = raw (codes "items") in
    whole (schemas_in p) c (judge_at c (schema_at x)) (as_array v)
    ∙ sym (ap (λ a. both a (past_say (count_of_positions (option_map (read_data c) p)) (option_map (read_data c) x) v)) (read_positions c p v)
    ∙ ap (both (placed (option_map (judges_of c) (schemas_in p)) (as_array v)))
    (read_past (count_of_positions (option_map (read_data c) p)) c x v
    ∙ ap (λ n. beyond n (judge_at c (schema_at x)) (as_array v)) (positions_count c p)))
read_items_say false c raw v = go (schemas_in x) refl
  where
    x : Option Data
    x = raw (codes "items")

    a : Option Data
    a = raw (codes "additionalItems")

    read : Option Data → Option Reading
    read y = option_map (read_data c) y

    past_list : (y : Option (List Judge)) → option_and_then (λ r. r.listed) (read x) ≡ y
        → past_list_say (read x) (read a) v ≡ where_some y (λ ss. past_say (length ss) (read a) v)
    past_list y is = ap (λ z. where_some z (λ ss. past_say (length ss) (read a) v)) is

    go : (ss : Option Items) → schemas_in x ≡ ss
        → where_some (as_array v) (λ vs. each_item (judges_of c (items_or_none ss))
        (judge_at c (schema_at (if is_some ss then a else x))) vs)
        ≡ both (past_say 0 (read x) v) (both (positions_say (read x) v) (past_list_say (read x) (read a) v))
    go None is =
        let listed : option_and_then (λ r. r.listed) (read x) ≡ None = read_listed c x ∙ ap (option_map (judges_of c)) is in
        whole None c (judge_at c (schema_at x)) (as_array v)
        ∙ (ap (λ y. both y (beyond 0 (judge_at c (schema_at x)) (as_array v))) (none_placed (as_array v))
        ∙ sym (ap (both (past_say 0 (read x) v)) (ap (λ y. both y (past_list_say (read x) (read a) v))
        (read_positions c x v ∙ (ap (λ y. placed (option_map (judges_of c) y) (as_array v)) is ∙ none_placed (as_array v)))
        ∙ past_list None listed)
        ∙ (both-yes (past_say 0 (read x) v) ∙ read_past 0 c x v)))
    go (Some ds) is =
        let listed : option_and_then (λ r. r.listed) (read x) ≡ Some (judges_of c ds) = read_listed c x ∙ ap (option_map (judges_of c)) is in
        whole (Some ds) c (judge_at c (schema_at a)) (as_array v)
        ∙ sym (ap (λ y. both y (both (positions_say (read x) v) (past_list_say (read x) (read a) v)))
        (read_past 0 c x v ∙ (ap (λ y. beyond 0 (judge_at c y) (as_array v)) (list_no_schema x ds is) ∙ none_beyond 0 (as_array v)))
        ∙ (ap (λ y. both y (past_list_say (read x) (read a) v))
        (read_positions c x v ∙ ap (λ y. placed (option_map (judges_of c) y) (as_array v)) is)
        ∙ ap (both (placed (Some (judges_of c ds)) (as_array v)))
        (past_list (Some (judges_of c ds)) listed ∙ read_past (length (judges_of c ds)) c a v)))

-- ---- objects

pub schema_named-judges : (c : Context) (k : Text) (ms : Members) → schema_named k (named_judges c ms) ≡ judge_at c (get_member k ms)
schema_named-judges c k no_members = refl
schema_named-judges c k (member l d ms) = go (bytes_eq k l) (schema_named-judges c k ms) ∙ ap (judge_at c) (sym (get_member-member k l d ms))
  where
    go : (b : Bool) → schema_named k (named_judges c ms) ≡ judge_at c (get_member k ms)
        → (if b then Some (judge c d) else schema_named k (named_judges c ms)) ≡ judge_at c (if b then Some d else get_member k ms)
    go true later = refl
    go false later = later

pub matches_some-judges : (patterns : Patterns) (c : Context) (k : Text) (ms : Members)
    → matches_some patterns (named_judges c ms) k ≡ matches_one patterns ms k
matches_some-judges patterns c k no_members = refl
matches_some-judges patterns c k (member p d ms) = ap (λ b. matches patterns p k || b) (matches_some-judges patterns c k ms)

is_some-judge : (c : Context) (x : Option Data) → is_some (judge_at c x) ≡ is_some x
is_some-judge c None = refl
is_some-judge c (Some d) = refl

pub named-judges : (c : Context) (k : Text) (ms : Option Members) → is_some (schema_named k (named_judges_in c ms)) ≡ is_named ms k
named-judges c k None = refl
named-judges c k (Some ms) = ap is_some (schema_named-judges c k ms) ∙ is_some-judge c (get_member k ms)

pub matched-judges : (patterns : Patterns) (c : Context) (k : Text) (ms : Option Members)
    → matches_some patterns (named_judges_in c ms) k ≡ is_matched patterns ms k
matched-judges patterns c k None = refl
matched-judges patterns c k (Some ms) = matches_some-judges patterns c k ms

pub named_in-read : (c : Context) (x : Option Data) → named_in (option_map (read_data c) x) ≡ named_judges_in c (schemas_by_name x)
named_in-read c x = ap (λ o. elim o [ None ↦ [] | Some ss ↦ ss ]) (read_named c x) ∙ found (schemas_by_name x)
  where
    found : (y : Option Members) → elim (option_map (named_judges c) y) [ None ↦ [] | Some ss ↦ ss ] ≡ named_judges_in c y
    found None = refl
    found (Some ms) = refl

-- each member of three parts
each_split : (f g : Text → Data → Verdict) (ms : Members)
    → each_member (λ k w. both (f k w) (g k w)) ms ≡ both (each_member f ms) (each_member g ms)
each_split f g no_members = refl
each_split f g (member k w ms) =
    ap (both (both (f k w) (g k w))) (each_split f g ms) ∙ both-middle (f k w) (g k w) (each_member f ms) (each_member g ms)

each_nothing : (ms : Members) → each_member (λ k w. Yes) ms ≡ Yes
each_nothing no_members = refl
each_nothing (member k w ms) = each_nothing ms

each_same : (f g : Text → Data → Verdict) → ((k : Text) (w : Data) → f k w ≡ g k w) → (ms : Members) → each_member f ms ≡ each_member g ms
each_same f g h no_members = refl
each_same f g h (member k w ms) = ap (λ x. both x (each_member f ms)) (h k w) ∙ ap (both (g k w)) (each_same f g h ms)

abbrev of_name : List (Text × Judge) → Text → Data → Verdict
of_name ss k w = where_some (schema_named k ss) (λ s. s.fits w)

abbrev of_others : (Text → Bool) → Option Judge → Text → Data → Verdict
of_others taken others k w = if taken k then Yes else where_some others (λ s. s.fits w)

-- no schemas say nothing
named_parts : (c : Context) (x : Option Members) (ms : Members)
    → where_some (option_map (named_judges c) x) (λ ss. each_member (of_name ss) ms) ≡ each_member (of_name (named_judges_in c x)) ms
named_parts c None ms = sym (each_nothing ms)
named_parts c (Some ns) ms = refl

pattern_parts : (patterns : Patterns) (c : Context) (x : Option Members) (ms : Members)
    → where_some (option_map (named_judges c) x) (λ ss. each_member (by_patterns patterns ss) ms)
    ≡ each_member (by_patterns patterns (named_judges_in c x)) ms
pattern_parts patterns c None ms = sym (each_nothing ms)
pattern_parts patterns c (Some ns) ms = refl

either_way : (b : Bool) → (if b then Yes else Yes) ≡ Yes
either_way true = refl
either_way false = refl

other_parts : (taken : Text → Bool) (others : Option Judge) (ms : Members)
    → where_some others (λ s. each_member (λ k w. if taken k then Yes else s.fits w) ms) ≡ each_member (of_others taken others) ms
other_parts taken None ms = sym (each_same (of_others taken None) (λ k w. Yes) (λ k w. either_way (taken k)) ms ∙ each_nothing ms)
other_parts taken (Some s) ms = refl

in_kind : {A : Type 0} (x : Option A) (f g : A → Verdict) → ((a : A) → f a ≡ g a) → where_some x f ≡ where_some x g
in_kind None f g h = refl
in_kind (Some a) f g h = h a

kinds_joined : {A : Type 0} (x : Option A) (f g h : A → Verdict)
    → where_some x (λ a. both (f a) (both (g a) (h a))) ≡ both (where_some x f) (both (where_some x g) (where_some x h))
kinds_joined None f g h = refl
kinds_joined (Some a) f g h = refl

pub read_additional : (taken : Text → Bool) (c : Context) (x : Option Data) (v : Data)
    → additional_properties_say taken (option_map (read_data c) x) v
    ≡ where_some (as_object v) (λ ms. each_member (of_others taken (judge_at c (schema_at x))) ms)
read_additional taken c x v =
    kind_first (λ r. r.schema) (as_object v) (option_map (read_data c) x) (λ s ms. each_member (λ k w. if taken k then Yes else s.fits w) ms)
    ∙ (ap (λ o. where_some (as_object v) (λ ms. where_some o (λ s. each_member (λ k w. if taken k then Yes else s.fits w) ms))) (read_schema c x)
    ∙ in_kind (as_object v) _ _ (λ ms. other_parts taken (judge_at c (schema_at x)) ms))

pub read_members_say : (patterns : Patterns) (c : Context) (x y z : Option Data) (v : Data)
    → members_by patterns (named_judges_in c (schemas_by_name x)) (named_judges_in c (schemas_by_name y)) (judge_at c (schema_at z)) v
    ≡ both (properties_say (option_map (read_data c) x) v) (both (pattern_properties_say patterns (option_map (read_data c) y) v)
    (additional_properties_say (is_covered patterns (option_map (read_data c) x) (option_map (read_data c) y)) (option_map (read_data c) z) v))
read_members_say patterns c x y z v =
    in_kind (as_object v) _ _ (λ ms. split ms)
    ∙ (kinds_joined (as_object v) (each_member (of_name named)) (each_member (by_patterns patterns matched)) (each_member (of_others taken others))
    ∙ sym (ap (λ a. both a (both (pattern_properties_say patterns (option_map (read_data c) y) v) additional)) first
    ∙ (ap (λ a. both (where_some (as_object v) (each_member (of_name named))) (both a additional)) second
    ∙ ap (λ a. both (where_some (as_object v) (each_member (of_name named))) (both (where_some (as_object v) (each_member (by_patterns patterns matched))) a)) third)))
  where
    named : List (Text × Judge)
    named = named_judges_in c (schemas_by_name x)

    matched : List (Text × Judge)
    matched = named_judges_in c (schemas_by_name y)

    others : Option Judge
    others = judge_at c (schema_at z)

    taken : Text → Bool
    taken k = is_some (schema_named k named) || matches_some patterns matched k

    additional : Verdict
    additional = additional_properties_say (is_covered patterns (option_map (read_data c) x) (option_map (read_data c) y))
        (option_map (read_data c) z) v

    split : (ms : Members) → each_member (member_by patterns named matched others) ms
        ≡ both (each_member (of_name named) ms) (both (each_member (by_patterns patterns matched) ms) (each_member (of_others taken others) ms))
    split ms =
        each_split (of_name named) (λ k w. both (by_patterns patterns matched k w) (of_others taken others k w)) ms
        ∙ ap (both (each_member (of_name named) ms)) (each_split (by_patterns patterns matched) (of_others taken others) ms)

    first : properties_say (option_map (read_data c) x) v ≡ where_some (as_object v) (each_member (of_name named))
    first =
        kind_first (λ r. r.named) (as_object v) (option_map (read_data c) x) (λ ss ms. each_member (of_name ss) ms)
        ∙ (ap (λ o. where_some (as_object v) (λ ms. where_some o (λ ss. each_member (of_name ss) ms))) (read_named c x)
        ∙ in_kind (as_object v) _ _ (λ ms. named_parts c (schemas_by_name x) ms))

    second : pattern_properties_say patterns (option_map (read_data c) y) v ≡ where_some (as_object v) (each_member (by_patterns patterns matched))
    second =
        kind_first (λ r. r.named) (as_object v) (option_map (read_data c) y) (λ ss ms. each_member (by_patterns patterns ss) ms)
        ∙ (ap (λ o. where_some (as_object v) (λ ms. where_some o (λ ss. each_member (by_patterns patterns ss) ms))) (read_named c y)
        ∙ in_kind (as_object v) _ _ (λ ms. pattern_parts patterns c (schemas_by_name y) ms))

    covers : (k : Text) → is_covered patterns (option_map (read_data c) x) (option_map (read_data c) y) k ≡ taken k
    covers k =
        ap (λ ss. is_some (schema_named k ss) || matches_some patterns (named_in (option_map (read_data c) y)) k) (named_in-read c x)
        ∙ ap (λ ss. is_some (schema_named k named) || matches_some patterns ss k) (named_in-read c y)

    third : additional ≡ where_some (as_object v) (each_member (of_others taken others))
    third =
        read_additional (is_covered patterns (option_map (read_data c) x) (option_map (read_data c) y)) c z v
        ∙ in_kind (as_object v) _ _ (λ ms. each_same _ _ (λ k w. ap (λ b. if b then Yes else where_some others (λ s. s.fits w)) (covers k)) ms)
