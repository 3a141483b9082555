-- What keywords of two objects say together.
use Rattle.std.proofs.Common.{◌≡◌, List, [], ◌∷◌, ◌++◌, Option, Some, None, Bool, true, false, Ordering, Less, Equal, Greater, refl, sym, ap, ◌∙◌, is_eq, true≢false, nat_cmp, option_map}
use Rattle.schemars_flatten.proofs.Words.{is_eq-slice_cmp, bytes_eq-Decides, and_parts, ◌&&◌, bytes_eq, codes, if◌then◌else◌, is_some, option_and_then, match_ordering, slice_cmp, Data, null, boolean, string, array, object, Items, no_items, item, Members, no_members, member, put, get_member, as_object, as_str, Text, IsSchema, is_schema, put_members, Verdict, Yes, No, Open, both, verdict, Context, Judge, where_some, each_member, texts_in, have_all, type_says, required_says, schema_named, properties_say, judge, read_data, read_members, all_named, both-yes, both-verdict, both-middle, each_agree, schema-judge, is_text, appended, has_keys_once, are_schemas, are_schemas_by_name, are_texts, are_apart}
use Rattle.schemars_flatten.proofs.Lookups.{united_option, either_option, properties_at, apart_at}

-- ---- verdicts

both-same : (x : Verdict) → x ≡ both x x
both-same Yes = refl
both-same No = refl
both-same Open = refl

-- ---- the type

object_text : (d : Data) → is_text (codes "object") (as_str d) ≡ true → d ≡ string (codes "object")
object_text (string t) h = ap string ((bytes_eq-Decides t (codes "object")).0 h)
object_text _ h = absurd (true≢false (sym h))

-- what stands there has this form
abbrev pub Holds : (Data → Bool) → Option Data → Type 0
Holds form None = Unit {0}
Holds form (Some d) = form d ≡ true

pub type_both : (a b : Option Data) → Holds (λ d. is_text (codes "object") (as_str d)) a
    → Holds (λ d. is_text (codes "object") (as_str d)) b → (n : Bool) (v : Data)
    → type_says n (united_option (codes "type") a b) None v ≡ both (type_says n a None v) (type_says n b None v)
type_both None b first second n v = refl
type_both (Some d) None first second n v = sym (both-yes (type_says n (Some d) None v))
type_both (Some d) (Some e) first second n v =
    both-same (type_says n (Some d) None v)
    ∙ ap (λ x. both (type_says n (Some d) None v) (type_says n (Some x) None v))
    (object_text d first ∙ sym (object_text e second))

-- ---- required names

texts_appended : (ds es : Items) (ks ls : List Text) → texts_in ds ≡ Some ks → texts_in es ≡ Some ls
    → texts_in (appended ds es) ≡ Some (ks ++ ls)
texts_appended no_items es [] ls h i = i
texts_appended no_items es (k ∷ ks) ls h i = cc
texts_appended (item d ds) es ks ls h i = go (as_str d) (texts_in ds) refl h (λ js is. texts_appended ds es js ls is i)
  where
    go : (o : Option Text) (p : Option (List Text)) → texts_in ds ≡ p
        → option_and_then (λ t. option_map (λ ts. t ∷ ts) p) o ≡ Some ks
        → ((js : List Text) → texts_in ds ≡ Some js → texts_in (appended ds es) ≡ Some (js ++ ls))
        → option_and_then (λ t. option_map (λ ts. t ∷ ts) (texts_in (appended ds es))) o ≡ Some (ks ++ ls)
    go None p is h later = cc
    go (Some t) None is h later = cc
    go (Some t) (Some js) is h later =
        let same : t ∷ js ≡ ks = cc in
        rw (later js is) (ap (λ xs. Some (xs ++ ls)) same)

have_all_appended : (ks ls : List Text) (ms : Members) → have_all (ks ++ ls) ms ≡ have_all ks ms && have_all ls ms
have_all_appended [] ls ms = refl
have_all_appended (k ∷ ks) ls ms = go (is_some (get_member k ms)) (have_all_appended ks ls ms)
  where
    go : (b : Bool) → have_all (ks ++ ls) ms ≡ have_all ks ms && have_all ls ms
        → b && have_all (ks ++ ls) ms ≡ (b && have_all ks ms) && have_all ls ms
    go true later = later
    go false later = refl

listed_texts : (d : Data) → are_texts d ≡ true
    → (ds : Items) × (ks : List Text) × (d ≡ array ds) × (texts_in ds ≡ Some ks)
listed_texts (array ds) h = go (texts_in ds) refl h
  where
    go : (o : Option (List Text)) → texts_in ds ≡ o → is_some o ≡ true
        → (es : Items) × (ks : List Text) × (array ds ≡ array es) × (texts_in es ≡ Some ks)
    go None is h = absurd (true≢false (sym h))
    go (Some ks) is h = (ds, ks, refl, is)
listed_texts _ h = absurd (true≢false (sym h))

names_say : (ds : Items) (ks : List Text) → texts_in ds ≡ Some ks → (v : Data)
    → required_says (Some (array ds)) v ≡ where_some (as_object v) (λ ms. verdict (have_all ks ms))
names_say ds ks is v = rw is refl

where_both : (o : Option Members) (f g h : Members → Verdict) → ((ms : Members) → f ms ≡ both (g ms) (h ms))
    → where_some o f ≡ both (where_some o g) (where_some o h)
where_both None f g h same = refl
where_both (Some ms) f g h same = same ms

pub required_both : (a b : Option Data) → Holds are_texts a → Holds are_texts b → (v : Data)
    → required_says (united_option (codes "required") a b) v ≡ both (required_says a v) (required_says b v)
required_both None b first second v = refl
required_both (Some d) None first second v = sym (both-yes (required_says (Some d) v))
required_both (Some d) (Some e) first second v =
    let left = listed_texts d first in
    let right = listed_texts e second in
    rw (left.2, right.2) (
    names_say (appended left.0 right.0) (left.1 ++ right.1)
    (texts_appended left.0 right.0 left.1 right.1 left.3 right.3) v
    ∙ (where_both (as_object v) (λ ms. verdict (have_all (left.1 ++ right.1) ms)) (λ ms. verdict (have_all left.1 ms))
    (λ ms. verdict (have_all right.1 ms))
    (λ ms. ap verdict (have_all_appended left.1 right.1 ms)
    ∙ sym (both-verdict (have_all left.1 ms) (have_all right.1 ms)))
    ∙ sym (λ i. both (names_say left.0 left.1 left.3 v i) (names_say right.0 right.1 right.3 v i)))
    )

-- ---- properties

schema_is : (d : Data) → is_schema d ≡ true → IsSchema d
schema_is (boolean b) h = tt
schema_is (object ms) h = tt
schema_is _ h = absurd (true≢false (sym h))

schemas_put : (k : Text) (d : Data) (ms : Members) → is_schema d ≡ true → are_schemas ms ≡ true
    → are_schemas (put k d ms) ≡ true
schemas_put k d no_members i h = rw i refl
schemas_put k d (member l e ms) i h =
    go (slice_cmp nat_cmp k l) (and_parts (is_schema e) (are_schemas ms) h) (schemas_put k d ms i)
  where
    go : (o : Ordering) → (is_schema e ≡ true) × (are_schemas ms ≡ true)
        → (are_schemas ms ≡ true → are_schemas (put k d ms) ≡ true)
        → are_schemas (match_ordering o (member k d (member l e ms)) (member l d ms) (member l e (put k d ms))) ≡ true
    go Less parts later = rw (i, parts.0, parts.1) refl
    go Equal parts later = rw (i, parts.1) refl
    go Greater parts later = rw (parts.0, later parts.1) refl

schemas_merged : (qs ps : Members) → are_schemas qs ≡ true → are_schemas ps ≡ true
    → are_schemas (put_members qs ps) ≡ true
schemas_merged no_members ps h i = i
schemas_merged (member k d qs) ps h i =
    let parts = and_parts (is_schema d) (are_schemas qs) h in
    schemas_merged qs (put k d ps) parts.1 (schemas_put k d ps parts.0 i)

-- the schemas under names, as they judge
unfoldable judges_under : Context → Members → List (Text × Judge)
judges_under c no_members = []
judges_under c (member k d ms) = (k, judge c d) ∷ judges_under c ms

read_names : (c : Context) (ms : Members) → are_schemas ms ≡ true
    → all_named (read_members c ms) ≡ Some (judges_under c ms)
unfolding read_data judges_under
read_names c no_members h = refl
read_names c (member k d ms) h =
    let parts = and_parts (is_schema d) (are_schemas ms) h in
    rw (schema-judge c d (schema_is d parts.0), read_names c ms parts.1)

-- what the schema that stands there says
abbrev asked : Context → Option Data → Data → Verdict
asked c o w = where_some o (λ d. (judge c d).fits w)

asked_step : (c : Context) (o : Ordering) (b : Bool) (d : Data) (r : Option Judge) (q : Option Data) (w : Data)
    → is_eq o ≡ b
    → where_some r (λ s. s.fits w) ≡ asked c q w
    → where_some (if b then Some (judge c d) else r) (λ s. s.fits w) ≡ asked c (match_ordering o q (Some d) q) w
asked_step c Less true d r q w is rest = absurd (true≢false (sym is))
asked_step c Less false d r q w is rest = rest
asked_step c Equal true d r q w is rest = refl
asked_step c Equal false d r q w is rest = absurd (true≢false is)
asked_step c Greater true d r q w is rest = absurd (true≢false (sym is))
asked_step c Greater false d r q w is rest = rest

asked_under : (c : Context) (ms : Members) (k : Text) (w : Data)
    → where_some (schema_named k (judges_under c ms)) (λ s. s.fits w) ≡ asked c (get_member k ms) w
unfolding judges_under
asked_under c no_members k w = refl
asked_under c (member l d ms) k w =
    asked_step c (slice_cmp nat_cmp k l) (bytes_eq k l) d (schema_named k (judges_under c ms)) (get_member k ms) w
    (is_eq-slice_cmp k l)
    (asked_under c ms k w)

each_both : (f g h : Text → Data → Verdict) → ((k : Text) (w : Data) → f k w ≡ both (g k w) (h k w)) → (ms : Members)
    → each_member f ms ≡ both (each_member g ms) (each_member h ms)
each_both f g h same no_members = refl
each_both f g h same (member k w ms) =
    (λ i. both (same k w i) (each_both f g h same ms i))
    ∙ both-middle (g k w) (h k w) (each_member g ms) (each_member h ms)

where_same : (o : Option Members) (f g : Members → Verdict) → ((ms : Members) → f ms ≡ g ms)
    → where_some o f ≡ where_some o g
where_same None f g same = refl
where_same (Some ms) f g same = same ms

properties_ask : (c : Context) (ps : Members) → are_schemas ps ≡ true → (v : Data)
    → properties_say (Some (read_data c (object ps))) v
    ≡ where_some (as_object v) (λ ms. each_member (λ k w. asked c (get_member k ps) w) ms)
unfolding read_data
properties_ask c ps h v =
    rw (read_names c ps h) (where_same (as_object v) _ _ (λ ms. each_agree _ _ (λ k w. asked_under c ps k w) ms))

named_schemas : (d : Data) → are_schemas_by_name d ≡ true
    → (ms : Members) × (d ≡ object ms) × (are_schemas ms ≡ true) × (has_keys_once ms ≡ true)
named_schemas (object ms) h =
    let parts = and_parts (are_schemas ms) (has_keys_once ms) h in (ms, refl, parts.0, parts.1)
named_schemas null h = absurd (true≢false (sym h))
named_schemas _ h = absurd (true≢false (sym h))

asked_both : (c : Context) (ps qs : Members) → has_keys_once qs ≡ true → are_apart ps qs ≡ true → (k : Text) (w : Data)
    → asked c (get_member k (put_members qs ps)) w ≡ both (asked c (get_member k ps) w) (asked c (get_member k qs) w)
asked_both c ps qs once apart k w =
    ap (λ o. asked c o w) (properties_at k qs ps once) ∙ go (get_member k qs) refl
  where
    go : (o : Option Data) → get_member k qs ≡ o
        → asked c (either_option o (get_member k ps)) w ≡ both (asked c (get_member k ps) w) (asked c o w)
    go None is = sym (both-yes (asked c (get_member k ps) w))
    go (Some d) is = ap (λ o. both (asked c o w) ((judge c d).fits w)) (sym (apart_at k ps qs d apart is))

-- the members of an object, if one stands there
abbrev pub members_at : Option Data → Members
members_at o = elim (option_and_then as_object o) [ None ↦ no_members | Some ms ↦ ms ]

pub properties_both : (c : Context) (a b : Option Data) → Holds are_schemas_by_name a → Holds are_schemas_by_name b
    → are_apart (members_at a) (members_at b) ≡ true → (v : Data)
    → properties_say (option_map (read_data c) (united_option (codes "properties") a b)) v
    ≡ both (properties_say (option_map (read_data c) a) v) (properties_say (option_map (read_data c) b) v)
properties_both c None b first second apart v = refl
properties_both c (Some d) None first second apart v = sym (both-yes (properties_say (Some (read_data c d)) v))
properties_both c (Some d) (Some e) first second apart v =
    go d e (named_schemas d first) (named_schemas e second) apart
  where
    go : (x y : Data) → (ms : Members) × (x ≡ object ms) × (are_schemas ms ≡ true) × (has_keys_once ms ≡ true)
        → (ms : Members) × (y ≡ object ms) × (are_schemas ms ≡ true) × (has_keys_once ms ≡ true)
        → are_apart (members_at (Some x)) (members_at (Some y)) ≡ true
        → properties_say (option_map (read_data c) (united_option (codes "properties") (Some x) (Some y))) v
        ≡ both (properties_say (Some (read_data c x)) v) (properties_say (Some (read_data c y)) v)
    go x y left right free =
        let apart_too : are_apart left.0 right.0 ≡ true =
        (λ i. are_apart (members_at (Some (sym left.1 i))) (members_at (Some (sym right.1 i)))) ∙ free in
        rw (left.1, right.1) (
        properties_ask c (put_members right.0 left.0) (schemas_merged right.0 left.0 right.2 left.2) v
        ∙ (where_both (as_object v) _ _ _
        (λ ms. each_both _ _ _ (λ k w. asked_both c left.0 right.0 right.3 apart_too k w) ms)
        ∙ sym (λ i. both (properties_ask c left.0 left.2 v i) (properties_ask c right.0 right.2 v i)))
        )
