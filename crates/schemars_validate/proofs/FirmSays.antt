-- What each keyword says stays, unless it is open.
use Rattle.std.proofs.Common.{◌≡◌, ℕ, suc, List, [], ◌∷◌, Option, Some, None, Bool, true, false, refl, ap}
use Rattle.std.specs.Prelude.{◌&&◌, is_some, option_and_then, if◌then◌else◌, length, nat_le}
use Rattle.serde_json.specs.Data.{Data, string}
use Rattle.serde_json.specs.Find.{as_str, as_array, as_object}
use Rattle.schemars_schema.specs.Json.{Text}
use Rattle.schemars_schema.specs.Verdict.{Verdict, Yes}
use Rattle.schemars_schema.specs.Judges.{Patterns, Judge, Reading}
use Rattle.schemars_schema.specs.Applicators.{positions_say, past_say, past_list_say, count_of_positions, items_say, contains_says, or_one, is_up_to, contained_count, unevaluated_items_say, named_in, is_covered, property_names_say, properties_say, pattern_properties_say, additional_properties_say, unevaluated_properties_say, each_says, dependent_schemas_say, dependencies_say, not_says, schema_says, condition_says, reference_says}
use Rattle.schemars_validate.proofs.KeptVerdicts.{Kept, kept-same, kept-both, kept-opposite, AllKept, kept-all_of}
use Rattle.schemars_validate.proofs.FirmJudges.{Firm, FirmOption, FirmList, FirmLists, FirmNamed, FirmMap, FirmMaybe, kept-data, kept-judge, kept-judges, kept-map, kept-reading, kept-read, kept-fits, kept-by_position, kept-each_past, kept-count, kept-counted, kept-item_left, kept-each_member, firm-named, kept-by_patterns, same-matches, firm-beside, kept-chosen}

-- ---- the form is the same

pub same-length : (js ks : List Judge) → FirmList js ks → length ks ≡ length js
same-length [] [] h = refl
same-length [] (k ∷ ks) h = absurd h
same-length (j ∷ js) [] h = absurd h
same-length (j ∷ js) (k ∷ ks) h = ap suc (same-length js ks h.1)

pub same-is_some : (x y : Option Judge) → FirmOption x y → is_some y ≡ is_some x
same-is_some None None h = refl
same-is_some None (Some k) h = absurd h
same-is_some (Some j) None h = absurd h
same-is_some (Some j) (Some k) h = refl

pub firm-schema : (x y : Option Reading) → FirmMaybe x y → FirmOption (option_and_then (λ a. a.schema) x) (option_and_then (λ a. a.schema) y)
firm-schema None None h = tt
firm-schema None (Some k) h = absurd h
firm-schema (Some j) None h = absurd h
firm-schema (Some j) (Some k) h = h.schema

pub firm-listed : (x y : Option Reading) → FirmMaybe x y → FirmLists (option_and_then (λ a. a.listed) x) (option_and_then (λ a. a.listed) y)
firm-listed None None h = tt
firm-listed None (Some k) h = absurd h
firm-listed (Some j) None h = absurd h
firm-listed (Some j) (Some k) h = h.listed

pub firm-map : (x y : Option Reading) → FirmMaybe x y → FirmMap (option_and_then (λ a. a.named) x) (option_and_then (λ a. a.named) y)
firm-map None None h = tt
firm-map None (Some k) h = absurd h
firm-map (Some j) None h = absurd h
firm-map (Some j) (Some k) h = h.named

abbrev count_in : Option (List Judge) → ℕ
count_in o = elim o [ None ↦ 0 | Some ss ↦ length ss ]

pub same-count : (x y : Option Reading) → FirmMaybe x y → count_of_positions y ≡ count_of_positions x
same-count x y h = go (option_and_then (λ a. a.listed) x) (option_and_then (λ a. a.listed) y) (firm-listed x y h)
  where
    go : (a b : Option (List Judge)) → FirmLists a b
        → count_in b ≡ count_in a
    go None None is = refl
    go None (Some k) is = absurd is
    go (Some j) None is = absurd is
    go (Some j) (Some k) is = same-length j k is

pub firm-named_in : (x y : Option Reading) → FirmMaybe x y → FirmNamed (named_in x) (named_in y)
firm-named_in x y h = go (option_and_then (λ a. a.named) x) (option_and_then (λ a. a.named) y) (firm-map x y h)
  where
    go : (a b : Option (List (Text × Judge))) → FirmMap a b
        → FirmNamed (elim a [ None ↦ [] | Some ss ↦ ss ]) (elim b [ None ↦ [] | Some ss ↦ ss ])
    go None None is = tt
    go None (Some k) is = absurd is
    go (Some j) None is = absurd is
    go (Some j) (Some k) is = is

pub same-covered : (patterns : Patterns) (x y p q : Option Reading) → FirmMaybe x y → FirmMaybe p q → (k : Text)
    → is_covered patterns y q k ≡ is_covered patterns x p k
same-covered patterns x y p q h i k =
    rw (
      same-is_some _ _ (firm-named k (named_in x) (named_in y) (firm-named_in x y h)),
      same-matches patterns (named_in p) (named_in q) k (firm-named_in p q i),
    ) refl

-- ---- lists

pub kept-positions : (x y : Option Reading) → FirmMaybe x y → (v : Data) → Kept (positions_say x v) (positions_say y v)
kept-positions x y h v = kept-reading x y _ _ h (λ a b r. kept-data (as_array v) _ _
    (λ vs. kept-judges a.listed b.listed _ _ r.listed (λ js ks is. kept-by_position js ks vs is)))

pub kept-past : (n : ℕ) (x y : Option Reading) → FirmMaybe x y → (v : Data) → Kept (past_say n x v) (past_say n y v)
kept-past n x y h v = kept-reading x y _ _ h (λ a b r. kept-data (as_array v) _ _
    (λ vs. kept-judge a.schema b.schema _ _ r.schema (λ j k is. kept-each_past n j k vs is)))

pub kept-past_list : (x y a b : Option Reading) → FirmMaybe x y → FirmMaybe a b → (v : Data)
    → Kept (past_list_say x a v) (past_list_say y b v)
kept-past_list x y a b h i v = kept-judges _ _ _ _ (firm-listed x y h)
    (λ js ks is. rw (same-length js ks is) (kept-past (length js) a b i v))

pub kept-items : (reads : Bool) (p q x y a b : Option Reading) → FirmMaybe p q → FirmMaybe x y → FirmMaybe a b → (v : Data)
    → Kept (items_say reads p x a v) (items_say reads q y b v)
kept-items true p q x y a b h i l v =
    kept-both _ _ _ _ (kept-positions p q h v) (rw (same-count p q h) (kept-past (count_of_positions p) x y i v))
kept-items false p q x y a b h i l v =
    kept-both _ _ _ _ (kept-past 0 x y i v) (kept-both _ _ _ _ (kept-positions x y i v) (kept-past_list x y a b i l v))

pub kept-contains : (reads counts : Bool) (x y : Option Reading) (least most : Option Data) → FirmMaybe x y → (v : Data)
    → Kept (contains_says reads counts x least most v) (contains_says reads counts y least most v)
kept-contains reads counts x y least most h v = kept-read reads x y _ _ h (λ a b r. kept-data (as_array v) _ _
    (λ vs. kept-judge a.schema b.schema _ _ r.schema (λ j k is. kept-counted _ _
    (λ n. nat_le (or_one (contained_count counts least)) n && is_up_to (contained_count counts most) n) (kept-count j k vs is))))

pub kept-unevaluated_items : (reads : Bool) (judged again : ℕ → Bool) → ((n : ℕ) → again n ≡ judged n) → (x y : Option Reading)
    → FirmMaybe x y → (v : Data) → Kept (unevaluated_items_say reads judged x v) (unevaluated_items_say reads again y v)
kept-unevaluated_items reads judged again same x y h v = kept-read reads x y _ _ h (λ a b r. kept-data (as_array v) _ _
    (λ vs. kept-judge a.schema b.schema _ _ r.schema (λ j k is. kept-item_left judged again same 0 j k vs is)))

-- ---- maps

pub kept-names : (reads : Bool) (x y : Option Reading) → FirmMaybe x y → (v : Data)
    → Kept (property_names_say reads x v) (property_names_say reads y v)
kept-names reads x y h v = kept-read reads x y _ _ h (λ a b r. kept-data (as_object v) _ _
    (λ ms. kept-judge a.schema b.schema _ _ r.schema (λ j k is. kept-each_member _ _ ms (λ l w. (is (string l)).0))))

pub kept-properties : (x y : Option Reading) → FirmMaybe x y → (v : Data) → Kept (properties_say x v) (properties_say y v)
kept-properties x y h v = kept-reading x y _ _ h (λ a b r. kept-data (as_object v) _ _
    (λ ms. kept-map a.named b.named _ _ r.named (λ js ks is. kept-each_member _ _ ms
    (λ l w. kept-judge _ _ _ _ (firm-named l js ks is) (λ j k firm. (firm w).0)))))

pub kept-pattern_properties : (patterns : Patterns) (x y : Option Reading) → FirmMaybe x y → (v : Data)
    → Kept (pattern_properties_say patterns x v) (pattern_properties_say patterns y v)
kept-pattern_properties patterns x y h v = kept-reading x y _ _ h (λ a b r. kept-data (as_object v) _ _
    (λ ms. kept-map a.named b.named _ _ r.named (λ js ks is. kept-each_member _ _ ms
    (λ l w. kept-by_patterns patterns js ks l w is))))

unless : (b : Bool) (a x : Verdict) → Kept a x → Kept (if b then Yes else a) (if b then Yes else x)
unless true a x h = refl
unless false a x h = h

pub kept-additional : (covered again : Text → Bool) → ((k : Text) → again k ≡ covered k) → (x y : Option Reading) → FirmMaybe x y
    → (v : Data) → Kept (additional_properties_say covered x v) (additional_properties_say again y v)
kept-additional covered again same x y h v = kept-reading x y _ _ h (λ a b r. kept-data (as_object v) _ _
    (λ ms. kept-judge a.schema b.schema _ _ r.schema (λ j k is. kept-each_member _ _ ms
    (λ l w. rw (same l) (unless (covered l) _ _ (is w).0)))))

pub kept-unevaluated_properties : (reads : Bool) (judged again : Text → Bool) → ((k : Text) → again k ≡ judged k) → (x y : Option Reading)
    → FirmMaybe x y → (v : Data) → Kept (unevaluated_properties_say reads judged x v) (unevaluated_properties_say reads again y v)
kept-unevaluated_properties true judged again same x y h v = kept-additional judged again same x y h v
kept-unevaluated_properties false judged again same x y h v = refl

-- ---- schemas of the same value

pub kept-each : (join : List Verdict → Verdict) → ((xs ys : List Verdict) → AllKept xs ys → Kept (join xs) (join ys))
    → (x y : Option Reading) → FirmMaybe x y → (v : Data) → Kept (each_says join x v) (each_says join y v)
kept-each join law x y h v = kept-reading x y _ _ h (λ a b r. kept-judges a.listed b.listed _ _ r.listed
    (λ js ks is. law _ _ (kept-fits v js ks is)))

pub kept-not : (x y : Option Reading) → FirmMaybe x y → (v : Data) → Kept (not_says x v) (not_says y v)
kept-not x y h v = kept-reading x y _ _ h (λ a b r. kept-judge a.schema b.schema _ _ r.schema
    (λ j k is. kept-opposite _ _ (is v).0))

pub kept-schema : (x y : Option Reading) → FirmMaybe x y → (v : Data) → Kept (schema_says x v) (schema_says y v)
kept-schema x y h v = kept-reading x y _ _ h (λ a b r. kept-judge a.schema b.schema _ _ r.schema (λ j k is. (is v).0))

pub kept-condition : (reads : Bool) (x y a b c d : Option Reading) → FirmMaybe x y → FirmMaybe a b → FirmMaybe c d → (v : Data)
    → Kept (condition_says reads x a c v) (condition_says reads y b d v)
kept-condition reads x y a b c d h i l v = kept-read reads x y _ _ h (λ m n r. kept-judge m.schema n.schema _ _ r.schema
    (λ j k is. kept-chosen _ _ _ _ _ _ (is v).0 (kept-schema a b i v) (kept-schema c d l v)))

pub kept-dependents : (reads : Bool) (x y : Option Reading) → FirmMaybe x y → (v : Data)
    → Kept (dependent_schemas_say reads x v) (dependent_schemas_say reads y v)
kept-dependents reads x y h v = kept-read reads x y _ _ h (λ a b r. kept-map a.named b.named _ _ r.named
    (λ js ks is. kept-data (as_object v) _ _ (λ ms. kept-all_of _ _ (kept-fits v _ _ (firm-beside ms js ks is)))))

pub kept-dependencies : (reads : Bool) (names : Option Data) (x y : Option Reading) → FirmMaybe x y → (v : Data)
    → Kept (dependencies_say reads names x v) (dependencies_say reads names y v)
kept-dependencies reads names x y h v = kept-both _ _ _ _ (kept-same _) (kept-read reads x y _ _ h
    (λ a b r. kept-data (as_object v) _ _ (λ ms. kept-all_of _ _ (kept-fits v _ _ (firm-beside ms a.among b.among r.among)))))

pub kept-reference : (f g : Text → Judge) → ((name : Text) → Firm (f name) (g name)) → (reference : Option Data) (v : Data)
    → Kept (reference_says f reference v) (reference_says g reference v)
kept-reference f g h reference v = kept-data reference _ _ (λ x. kept-data (as_str x) _ _ (λ name. (h name v).0))
