-- The keywords that apply schemas to a value or to its parts (JSON Schema Core, sections 10 and 11).
-- This file is trusted: the theorem is stated in its words.
use Rattle.std.specs.Prelude.{ℕ, zero, suc, ◌&&◌, ◌||◌, List, [], ◌∷◌, map, Bool, true, false, nat_le, if◌then◌else◌, is_some, Option, Some, None, option_and_then, option_map, length, bytes_eq}
use Rattle.serde_json.specs.Data.{Data, string, Items, no_items, item, Members}
use Rattle.serde_json.specs.Find.{get_member, as_str, as_array, as_object}
use Rattle.schemars_schema.specs.Verdict.{Verdict, Yes, No, Open, verdict, both, opposite, all_of}
use Rattle.schemars_schema.specs.Json.{Text}
use Rattle.schemars_schema.specs.Judges.{Patterns, matches, Test, Judge, Reading, where_some, where_read, each_member}
use Rattle.schemars_schema.specs.Assertions.{count_of_number, dependent_required_says}

-- ---- keywords for lists

abbrev pub by_position : List Judge → Items → Verdict
by_position [] vs = Yes
by_position (s ∷ ss) no_items = Yes
by_position (s ∷ ss) (item v vs) = both (s.fits v) (by_position ss vs)

-- each item past the first n
abbrev pub each_past : ℕ → Judge → Items → Verdict
each_past n s no_items = Yes
each_past zero s (item v vs) = both (s.fits v) (each_past zero s vs)
each_past (suc n) s (item v vs) = each_past n s vs

abbrev pub positions_say : Option Reading → Test
positions_say list v = where_some list (λ x. where_some (as_array v) (λ vs. where_some x.listed (λ ss. by_position ss vs)))

abbrev pub count_of_positions : Option Reading → ℕ
count_of_positions list = elim (option_and_then (λ x. x.listed) list) [ None ↦ 0 | Some ss ↦ length ss ]

abbrev pub past_say : ℕ → Option Reading → Test
past_say n schema v = where_some schema (λ x. where_some (as_array v) (λ vs. where_some x.schema (λ s. each_past n s vs)))

-- `additionalItems` is read past a list alone
abbrev pub past_list_say : Option Reading → Option Reading → Test
past_list_say list additional v = where_some (option_and_then (λ x. x.listed) list) (λ ss. past_say (length ss) additional v)

abbrev pub items_say : Bool → Option Reading → Option Reading → Option Reading → Test
items_say true prefix items additional v = both (positions_say prefix v) (past_say (count_of_positions prefix) items v)
items_say false prefix items additional v = both (past_say 0 items v) (both (positions_say items v) (past_list_say items additional v))

-- how many items a schema accepts, unless it leaves one open
abbrev pub one_more : Verdict → Option ℕ → Option ℕ
one_more Yes count = option_map suc count
one_more No count = count
one_more Open count = None

abbrev pub count_of_fitting : Judge → Items → Option ℕ
count_of_fitting s no_items = Some 0
count_of_fitting s (item v vs) = one_more (s.fits v) (count_of_fitting s vs)

abbrev pub or_one : Option ℕ → ℕ
or_one None = 1
or_one (Some n) = n

abbrev pub is_up_to : Option ℕ → ℕ → Bool
is_up_to None n = true
is_up_to (Some most) n = nat_le n most

-- `minContains` and `maxContains`, where they are read
abbrev pub contained_count : Bool → Option Data → Option ℕ
contained_count reads count = option_and_then count_of_number (if reads then count else None)

-- at least one item that the schema accepts, or so many as are asked for
abbrev pub contains_says : Bool → Bool → Option Reading → Option Data → Option Data → Test
contains_says reads reads_counts contains least most v = where_read reads contains (λ x. where_some (as_array v)
    (λ vs. where_some x.schema (λ s. elim (count_of_fitting s vs) [
      | None ↦ Open
      | Some n ↦ verdict (nat_le (or_one (contained_count reads_counts least)) n && is_up_to (contained_count reads_counts most) n)
    ])))

-- each item that is not judged
abbrev pub each_item_left : (ℕ → Bool) → ℕ → Judge → Items → Verdict
each_item_left judged n s no_items = Yes
each_item_left judged n s (item v vs) = both (if judged n then Yes else s.fits v) (each_item_left judged (suc n) s vs)

abbrev pub unevaluated_items_say : Bool → (ℕ → Bool) → Option Reading → Test
unevaluated_items_say reads judged unevaluated v = where_read reads unevaluated (λ x. where_some (as_array v)
    (λ vs. where_some x.schema (λ s. each_item_left judged 0 s vs)))

-- ---- keywords for maps

abbrev pub named_in : Option Reading → List (Text × Judge)
named_in map = elim (option_and_then (λ x. x.named) map) [ None ↦ [] | Some ss ↦ ss ]

abbrev pub schema_named : Text → List (Text × Judge) → Option Judge
schema_named k [] = None
schema_named k (s ∷ ss) = if bytes_eq k s.0 then Some s.1 else schema_named k ss

-- the schemas whose pattern a key matches
abbrev pub by_patterns : Patterns → List (Text × Judge) → Text → Data → Verdict
by_patterns patterns [] k w = Yes
by_patterns patterns (s ∷ ss) k w = both (if matches patterns s.0 k then s.1.fits w else Yes) (by_patterns patterns ss k w)

abbrev pub matches_some : Patterns → List (Text × Judge) → Text → Bool
matches_some patterns [] k = false
matches_some patterns (s ∷ ss) k = matches patterns s.0 k || matches_some patterns ss k

-- `properties` and `patternProperties` judge these members
abbrev pub is_covered : Patterns → Option Reading → Option Reading → Text → Bool
is_covered patterns properties by_pattern k = is_some (schema_named k (named_in properties)) || matches_some patterns
    (named_in by_pattern) k

-- each key, as a text
abbrev pub property_names_say : Bool → Option Reading → Test
property_names_say reads names v = where_read reads names (λ x. where_some (as_object v)
    (λ ms. where_some x.schema (λ s. each_member (λ k w. s.fits (string k)) ms)))

abbrev pub properties_say : Option Reading → Test
properties_say properties v =
    where_some properties (λ x. where_some (as_object v) (λ ms. where_some x.named
    (λ ss. each_member (λ k w. where_some (schema_named k ss) (λ s. s.fits w)) ms)))

abbrev pub pattern_properties_say : Patterns → Option Reading → Test
pattern_properties_say patterns by_pattern v =
    where_some by_pattern (λ x. where_some (as_object v) (λ ms. where_some x.named (λ ss. each_member (by_patterns patterns ss) ms)))

-- the members that are not covered
abbrev pub additional_properties_say : (Text → Bool) → Option Reading → Test
additional_properties_say covered additional v =
    where_some additional (λ x. where_some (as_object v) (λ ms. where_some x.schema
    (λ s. each_member (λ k w. if covered k then Yes else s.fits w) ms)))

abbrev pub unevaluated_properties_say : Bool → (Text → Bool) → Option Reading → Test
unevaluated_properties_say false judged unevaluated v = Yes
unevaluated_properties_say true judged unevaluated v = additional_properties_say judged unevaluated v

-- ---- keywords over subschemas of the same value

abbrev pub each_says : (List Verdict → Verdict) → Option Reading → Test
each_says join list v = where_some list (λ x. where_some x.listed (λ ss. join (map (λ s. s.fits v) ss)))

-- of schemas by name, those whose names are keys of the value
abbrev pub beside_members : List (Text × Judge) → Members → List Judge
beside_members [] ms = []
beside_members (s ∷ ss) ms = if is_some (get_member s.0 ms) then s.1 ∷ beside_members ss ms else beside_members ss ms

abbrev pub dependent_schemas_say : Bool → Option Reading → Test
dependent_schemas_say reads dependent v = where_read reads dependent (λ x. where_some x.named
    (λ ss. where_some (as_object v) (λ ms. all_of (map (λ s. s.fits v) (beside_members ss ms)))))

-- names that are required beside a member or, in place of the names, a schema of the value
abbrev pub dependencies_say : Bool → Option Data → Option Reading → Test
dependencies_say reads names schemas v = both (dependent_required_says reads names v) (where_read reads schemas
    (λ x. where_some (as_object v) (λ ms. all_of (map (λ s. s.fits v) (beside_members x.among ms)))))

abbrev pub not_says : Option Reading → Test
not_says schema v = where_some schema (λ x. where_some x.schema (λ s. opposite (s.fits v)))

abbrev pub schema_says : Option Reading → Test
schema_says schema v = where_some schema (λ x. where_some x.schema (λ s. s.fits v))

-- `then` where `if` accepts the value, and `else` where it does not
abbrev pub chosen : Verdict → Verdict → Verdict → Verdict
chosen Yes accepted refused = accepted
chosen No accepted refused = refused
chosen Open accepted refused = Open

abbrev pub condition_says : Bool → Option Reading → Option Reading → Option Reading → Test
condition_says reads condition accepted refused v = where_read reads condition (λ x. where_some x.schema
    (λ s. chosen (s.fits v) (schema_says accepted v) (schema_says refused v)))

abbrev pub reference_says : (Text → Judge) → Option Data → Test
reference_says follow reference v = where_some reference (λ x. where_some (as_str x) (λ name. (follow name).fits v))
