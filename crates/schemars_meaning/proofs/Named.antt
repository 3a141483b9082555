-- Schemas under names, and the judges that they make.
use Rattle.std.proofs.Common.{◌≡◌, List, [], ◌∷◌, Option, Some, Bool, Ordering, Less, Equal, Greater, nat_cmp, is_eq, refl, ◌∙◌, option_map}
use Rattle.schemars_meaning.proofs.Words.{bytes_eq, if◌then◌else◌, match_ordering, slice_cmp, Data, object, Members, no_members, member, put, get_member, Yes, Text, IsSchema, put_all, Judge, Context, judge, schema_named, each_member, schema-judge, Keyword, is_eq-slice_cmp, read_data, read_members, all_named}

-- ---- the judges under names

unfoldable pub judges_in : Context → Members → List (Text × Judge)
judges_in c no_members = []
judges_in c (member k d ms) = (k, judge c d) ∷ judges_in c ms

abbrev pub AreSchemas : Members → Type 0
AreSchemas no_members = Unit {0}
AreSchemas (member k d ms) = IsSchema d × AreSchemas ms

pub all_named-schemas : (c : Context) (ms : Members) → AreSchemas ms → all_named (read_members c ms) ≡ Some (judges_in c ms)
unfolding read_data judges_in
all_named-schemas c no_members h = refl
all_named-schemas c (member k d ms) h = rw (schema-judge c d h.0, all_named-schemas c ms h.1)

judge_found : (o : Ordering) (b : Bool) (p : Judge) (rest : Option Judge) → is_eq o ≡ b
    → (if b then Some p else rest) ≡ match_ordering o rest (Some p) rest
judge_found Less b p rest is = rw (← is)
judge_found Equal b p rest is = rw (← is)
judge_found Greater b p rest is = rw (← is)

mapped : (o : Ordering) (f : Data → Judge) (a b c : Option Data) → match_ordering o (option_map f a) (option_map f b) (option_map f c)
    ≡ option_map f (match_ordering o a b c)
mapped Less f a b c = refl
mapped Equal f a b c = refl
mapped Greater f a b c = refl

pub schema_named-judges_in : (c : Context) (ms : Members) (k : Text)
    → schema_named k (judges_in c ms) ≡ option_map (judge c) (get_member k ms)
unfolding judges_in
schema_named-judges_in c no_members k = refl
schema_named-judges_in c (member l d ms) k =
    judge_found (slice_cmp nat_cmp k l) (bytes_eq k l) (judge c d) _ (is_eq-slice_cmp k l)
    ∙ rw (schema_named-judges_in c ms k) (mapped (slice_cmp nat_cmp k l) (judge c) (get_member k ms) (Some d) (get_member k ms))

AreSchemas-match : (o : Ordering) (a b c : Members) → AreSchemas a → AreSchemas b → AreSchemas c → AreSchemas (match_ordering o a b c)
AreSchemas-match Less a b c x y z = x
AreSchemas-match Equal a b c x y z = y
AreSchemas-match Greater a b c x y z = z

AreSchemas-put : (k : Text) (d : Data) (ms : Members) → IsSchema d → AreSchemas ms → AreSchemas (put k d ms)
AreSchemas-put k d no_members i h = (i, tt)
AreSchemas-put k d (member l e ms) i h = AreSchemas-match (slice_cmp nat_cmp k l) _ _ _ (i, h) (i, h.1) (h.0, AreSchemas-put k d ms i h.1)

-- schemas under names
abbrev pub AreEntries : List Keyword → Type 0
AreEntries [] = Unit {0}
AreEntries (e ∷ es) = IsSchema e.1 × AreEntries es

pub AreSchemas-put_all : (es : List Keyword) (ms : Members) → AreEntries es → AreSchemas ms → AreSchemas (put_all es ms)
AreSchemas-put_all [] ms h i = i
AreSchemas-put_all (e ∷ es) ms h i = AreSchemas-put_all es (put e.0 e.1 ms) h.1 (AreSchemas-put e.0 e.1 ms h.0 i)

-- ---- texts

pub each_yes : (ms : Members) → each_member (λ k w. Yes) ms ≡ Yes
each_yes no_members = refl
each_yes (member k w ms) = each_yes ms

-- ---- what it says

abbrev pub IsNoMap : Data → Type 0
IsNoMap (object ms) = ⊥
IsNoMap _ = Unit {0}
