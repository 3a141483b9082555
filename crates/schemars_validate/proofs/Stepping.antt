-- One turn of a loop over schemas, items or members.
use Rattle.std.proofs.Common.{◌≡◌, ℕ, zero, suc, ◌+◌, ◌<◌, ◌≤◌, List, [], ◌∷◌, Bool, true, false, Option, Some, None, length, get_or, refl, sym, ap, ◌∙◌, arith, Bor, Iter}
use Rattle.std.proofs.lemmas.List.{nil_from_length}
use Rattle.schemars_validate.proofs.Words.{◌||◌, if◌then◌else◌, is_some, option_map, option_and_then, max, map, Data, Items, no_items, item, Members, member, depth, items_depth, members_depth, view, items_view, members_view, get_member, Entry, iter_rest, iter_steps, Text, is_schema, schema_only, Verdict, Yes, No, Open, both, all_of, Context, Judge, Patterns, where_some, Part, by_patterns, matches_some, schema_named, beside_members, one_more, judged_by_some, judge, with_schema, both-assoc, marked, each_unmarked, each_unmarked_item, is_marked, judged_by_one, first_of, judge_at, judges_of, named_judges_in, each_item, member_by}
use Rattle.serde_json.specs.declared.value.Value.{Value}
use Rattle.schemars_validate.proofs.Measures.{depth_at, members_depth_at, member_shallow}
use Rattle.schemars_validate.proofs.MarkedAlike.{marked_none}
use Rattle.schemars_validate.proofs.OneSchema.{next_marks}
use Rattle.schemars_validate.proofs.Readings.{schema_named-judges, named-judges}

-- what is said so far, with what one more says, and then what the others say
pub one_more_said : (says one new rest all : Verdict) → new ≡ both says one → both says (both one rest) ≡ all → both new rest ≡ all
one_more_said says one new rest all is before = ap (λ y. both y rest) is ∙ (both-assoc says one rest ∙ before)

pub item_under : (xs : List Value) (i : ℕ) (x : Value) → i < length xs → x ≡ get_or xs i x → depth (view x) ≤ items_depth (items_view xs)
item_under [] i x h is = absurd (omega arith)
item_under (y ∷ xs) zero x h is = let same = ap (λ (z : Value). depth (view z)) is in omega (arith, same)
item_under (y ∷ xs) (suc i) x h is = let later = item_under xs i x (omega arith) is in omega (arith, later)

pub first_deep : (x : Value) (xs ys : List Value) → xs ≡ x ∷ ys
    → (depth (view x) ≤ items_depth (items_view xs)) × (items_depth (items_view ys) ≤ items_depth (items_view xs))
first_deep x xs ys is = let same = ap (λ (zs : List Value). items_depth (items_view zs)) is in (omega (arith, same), omega (arith, same))

pub entry_deep : (e : Entry) (xs ys : List Entry) → xs ≡ e ∷ ys
    → (depth (view e.1) ≤ members_depth (members_view xs)) × (members_depth (members_view ys) ≤ members_depth (members_view xs))
entry_deep e xs ys is = let same = ap (λ (zs : List Entry). members_depth (members_view zs)) is in (omega (arith, same), omega (arith, same))

-- ---- the items of a list, each with the next schema or that of all others

pub item_says : (c : Context) (r : Option (Bor Value)) (s t : Iter Value) (others : Option Data) (v : Data) (vs : Items) → iter_steps s r t
    → each_item (judges_of c (items_view (iter_rest s))) (judge_at c others) (item v vs)
    ≡ both (where_some (judge_at c (first_of (option_map (λ x. view x.now) r) others)) (λ j. j.fits v))
    (each_item (judges_of c (items_view (iter_rest t))) (judge_at c others) vs)
item_says c (Some x) s t others v vs step = ap (λ (xs : List Value). each_item (judges_of c (items_view xs)) (judge_at c others) (item v vs)) step
item_says c None s t others v vs step =
    let none = nil_from_length (iter_rest s) step.0 in
    ap (λ (xs : List Value). each_item (judges_of c (items_view xs)) (judge_at c others) (item v vs)) none
    ∙ ap (λ (xs : List Value). both (where_some (judge_at c others) (λ j. j.fits v)) (each_item (judges_of c (items_view xs)) (judge_at c others) vs))
    (sym none ∙ ap iter_rest (sym step.1))

pub next_deep : (r : Option (Bor Value)) (s t : Iter Value) (others : Option Data) (n : ℕ) → iter_steps s r t
    → items_depth (items_view (iter_rest s)) ≤ n
    → (items_depth (items_view (iter_rest t)) ≤ n) × (depth_at (first_of (option_map (λ x. view x.now) r) others) ≤ max n (depth_at others))
next_deep (Some x) s t others n step h =
    let deep = first_deep x.now (iter_rest s) (iter_rest t) step in (omega (arith, deep.1), omega (arith, deep.0))
next_deep None s t others n step h =
    let same = ap (λ (i : Iter Value). items_depth (items_view (iter_rest i))) step.1 in (omega (arith, same), omega arith)

-- ---- the members and the items without a mark

-- where a mark is not set
unmarked_says : (c : Context) (d w : Data) (b : Bool) → (if b then Yes else (judge c d).fits w)
    ≡ where_some (judge_at c (if b then None else Some d)) (λ j. j.fits w)
unmarked_says c d w true = refl
unmarked_says c d w false = refl

pub unmarked_member_says : (c : Context) (d : Data) (r : Option (Bor Bool)) (s t : Iter Bool) (k : Text) (w : Data) (ms : Members) → iter_steps s r t
    → each_unmarked (judge c d) (member k w ms) (iter_rest s)
    ≡ both (where_some (judge_at c (if is_marked (option_map (λ b. b.now) r) then None else Some d)) (λ j. j.fits w))
    (each_unmarked (judge c d) ms (iter_rest t))
unmarked_member_says c d (Some x) s t k w ms step =
    ap (each_unmarked (judge c d) (member k w ms)) step
    ∙ ap (λ (y : Verdict). both y (each_unmarked (judge c d) ms (iter_rest t))) (unmarked_says c d w x.now)
unmarked_member_says c d None s t k w ms step =
    let none = nil_from_length (iter_rest s) step.0 in
    ap (each_unmarked (judge c d) (member k w ms)) none
    ∙ ap (λ (bs : List Bool). both ((judge c d).fits w) (each_unmarked (judge c d) ms bs)) (sym none ∙ ap iter_rest (sym step.1))

pub unmarked_item_says : (c : Context) (d : Data) (r : Option (Bor Bool)) (s t : Iter Bool) (w : Data) (ws : Items) → iter_steps s r t
    → each_unmarked_item (judge c d) (item w ws) (iter_rest s)
    ≡ both (where_some (judge_at c (if is_marked (option_map (λ b. b.now) r) then None else Some d)) (λ j. j.fits w))
    (each_unmarked_item (judge c d) ws (iter_rest t))
unmarked_item_says c d (Some x) s t w ws step =
    ap (each_unmarked_item (judge c d) (item w ws)) step
    ∙ ap (λ (y : Verdict). both y (each_unmarked_item (judge c d) ws (iter_rest t))) (unmarked_says c d w x.now)
unmarked_item_says c d None s t w ws step =
    let none = nil_from_length (iter_rest s) step.0 in
    ap (each_unmarked_item (judge c d) (item w ws)) none
    ∙ ap (λ (bs : List Bool). both ((judge c d).fits w) (each_unmarked_item (judge c d) ws bs)) (sym none ∙ ap iter_rest (sym step.1))

pub asked_deep : (b : Bool) (d : Data) → depth_at (if b then None else Some d) ≤ depth d
asked_deep true d = omega arith
asked_deep false d = omega arith

-- ---- one member

pub named_deep : (k : Text) (ms : Option Members) → depth_at (option_and_then (get_member k) ms) ≤ members_depth_at ms
named_deep k None = omega arith
named_deep k (Some ms) = member_shallow k ms

pub others_deep : (b : Bool) (x : Option Data) → depth_at (if b then None else x) ≤ depth_at x
others_deep true x = omega arith
others_deep false x = omega arith

named_says : (c : Context) (k : Text) (ms : Option Members) (w : Data)
    → where_some (judge_at c (option_and_then (get_member k) ms)) (λ s. s.fits w)
    ≡ where_some (schema_named k (named_judges_in c ms)) (λ s. s.fits w)
named_says c k None w = refl
named_says c k (Some ms) w = ap (λ (o : Option Judge). where_some o (λ s. s.fits w)) (sym (schema_named-judges c k ms))

named_there : (c : Context) (k : Text) (ms : Option Members)
    → is_some (option_and_then (get_member k) ms) ≡ is_some (schema_named k (named_judges_in c ms))
named_there c k None = refl
named_there c k (Some ms) = sym (named-judges c k (Some ms))

rest_says : (c : Context) (b : Bool) (x : Option Data) (w : Data)
    → where_some (judge_at c (if b then None else x)) (λ s. s.fits w) ≡ (if b then Yes else where_some (judge_at c x) (λ s. s.fits w))
rest_says c true x w = refl
rest_says c false x w = refl

pub member_parts : (patterns : Patterns) (c : Context) (named by_pattern : Option Members) (others : Option Data) (k : Text) (w : Data)
    (there some : Bool) (a b o : Verdict)
    → a ≡ where_some (judge_at c (option_and_then (get_member k) named)) (λ s. s.fits w)
    → b ≡ by_patterns patterns (named_judges_in c by_pattern) k w
    → there ≡ is_some (option_and_then (get_member k) named)
    → some ≡ matches_some patterns (named_judges_in c by_pattern) k
    → o ≡ where_some (judge_at c (if there || some then None else others)) (λ s. s.fits w)
    → both a (both b o) ≡ member_by patterns (named_judges_in c named) (named_judges_in c by_pattern) (judge_at c others) k w
member_parts patterns c named by_pattern others k w there some a b o ea eb et es eo =
    let fa = ea ∙ named_says c k named w in
    let ft = et ∙ named_there c k named in
    let fo = eo ∙ rest_says c (there || some) others w in
    λ i. both (fa i) (both (eb i) ((fo ∙ (λ j. if ft j || es j then Yes else where_some (judge_at c others) (λ s. s.fits w))) i))

-- ---- matches

pub one_matches : (a m r all : Bool) → m ≡ true → (a || (m || r)) ≡ all → (true || r) ≡ all
one_matches a true r all is h = there a ∙ h
  where
    there : (a : Bool) → true ≡ (a || true)
    there true = refl
    there false = refl
one_matches a false r all is h = cc

pub none_matches : (a m r all : Bool) → m ≡ false → (a || (m || r)) ≡ all → (a || r) ≡ all
none_matches a true r all is h = cc
none_matches a false r all is h = h

pub or_no : (a : Bool) → (a || false) ≡ a
or_no true = refl
or_no false = refl

pub no_item_says : (ss : List Judge) (others : Option Judge) → each_item ss others no_items ≡ Yes
no_item_says [] others = refl
no_item_says (s ∷ ss) others = refl

-- ---- schemas beside members

-- a schema whose name is a key of the value's members
abbrev pub beside_at : Members → Text → Data → Option Data
beside_at ms k d = if is_some (get_member k ms) then schema_only d else None

pub beside_deep : (ms : Members) (k : Text) (d : Data) → depth_at (beside_at ms k d) ≤ depth d
beside_deep ms k d = go (is_some (get_member k ms)) (is_schema d)
  where
    go : (b e : Bool) → depth_at (if b then (if e then Some d else None) else None) ≤ depth d
    go true true = omega arith
    go true false = omega arith
    go false e = omega arith

pub with_schema_says : (c : Context) (ms : Members) (k : Text) (d v : Data) (ss : List (Text × Judge))
    → all_of (map (λ s. s.fits v) (beside_members (with_schema k (judge_at c (schema_only d)) ss) ms))
    ≡ both (where_some (judge_at c (beside_at ms k d)) (λ s. s.fits v)) (all_of (map (λ s. s.fits v) (beside_members ss ms)))
with_schema_says c ms k d v ss = go (is_some (get_member k ms)) refl (schema_only d)
  where
    rest : Verdict
    rest = all_of (map (λ s. s.fits v) (beside_members ss ms))

    go : (b : Bool) → is_some (get_member k ms) ≡ b → (o : Option Data)
        → all_of (map (λ s. s.fits v) (beside_members (with_schema k (judge_at c o) ss) ms))
        ≡ both (where_some (judge_at c (if b then o else None)) (λ s. s.fits v)) rest
    go true there None = refl
    go false there None = refl
    go true there (Some e) =
        ap (λ t. all_of (map (λ s. s.fits v) (if t then judge c e ∷ beside_members ss ms else beside_members ss ms))) there
    go false there (Some e) =
        ap (λ t. all_of (map (λ s. s.fits v) (if t then judge c e ∷ beside_members ss ms else beside_members ss ms))) there

pub with_schema_judges : (c : Context) (ms : Members) (k : Text) (d v : Data) (ss : List (Text × Judge)) (ps : List Part) (bs cs : List Bool)
    → cs ≡ marked (judged_by_one (judge_at c (beside_at ms k d)) v) ps bs
    → marked (judged_by_some (beside_members ss ms) v) ps cs
    ≡ marked (judged_by_some (beside_members (with_schema k (judge_at c (schema_only d)) ss) ms) v) ps bs
with_schema_judges c ms k d v ss ps bs cs = go (is_some (get_member k ms)) refl (schema_only d)
  where
    go : (b : Bool) → is_some (get_member k ms) ≡ b → (o : Option Data)
        → cs ≡ marked (judged_by_one (judge_at c (if b then o else None)) v) ps bs
        → marked (judged_by_some (beside_members ss ms) v) ps cs
        ≡ marked (judged_by_some (beside_members (with_schema k (judge_at c o) ss) ms) v) ps bs
    go true there None e = ap (marked (judged_by_some (beside_members ss ms) v) ps) (e ∙ marked_none ps bs)
    go false there None e = ap (marked (judged_by_some (beside_members ss ms) v) ps) (e ∙ marked_none ps bs)
    go true there (Some x) e =
        next_marks (judge c x) (beside_members ss ms) v ps bs cs e
        ∙ ap (λ t. marked (judged_by_some (if t then judge c x ∷ beside_members ss ms else beside_members ss ms) v) ps bs) (sym there)
    go false there (Some x) e =
        ap (marked (judged_by_some (beside_members ss ms) v) ps) (e ∙ marked_none ps bs)
        ∙ ap (λ t. marked (judged_by_some (if t then judge c x ∷ beside_members ss ms else beside_members ss ms) v) ps bs) (sym there)

-- ---- the count of items that fit

-- so many more
abbrev pub added : Option ℕ → Option ℕ → Option ℕ
added None count = None
added (Some n) count = option_map (λ m. n + m) count

pub added_one : (x : Verdict) (n count : Option ℕ) → added (one_more x n) count ≡ added n (one_more x count)
added_one Yes None count = refl
added_one Yes (Some n) None = refl
added_one Yes (Some n) (Some m) = let moved : suc n + m ≡ n + suc m = omega arith in ap Some moved
added_one No n count = refl
added_one Open None count = refl
added_one Open (Some n) count = refl

-- no more than so many
abbrev pub IsFew : Option ℕ → ℕ → Type 0
IsFew None i = Unit {0}
IsFew (Some n) i = n ≤ i

pub one_few : (x : Verdict) (n : Option ℕ) (i : ℕ) → IsFew n i → IsFew (one_more x n) (i + 1)
one_few Yes None i few = tt
one_few Yes (Some n) i few = omega arith
one_few No None i few = tt
one_few No (Some n) i few = omega arith
one_few Open n i few = tt
