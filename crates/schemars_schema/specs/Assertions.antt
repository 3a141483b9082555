-- The keywords that say something of a value by themselves (JSON Schema Validation, section 6).
-- This file is trusted: the theorem is stated in its words.
use Rattle.std.specs.Prelude.{ℕ, suc, ◌%◌, ◌==◌, ◌&&◌, ◌||◌, ℤ, pos, negsuc, List, [], ◌∷◌, Bool, true, false, not, nat_le, if◌then◌else◌, is_some, Option, Some, None, option_and_then, option_map, codes, bytes_eq}
use Rattle.serde_json.specs.Data.{Data, Num, unsigned, null, boolean, number, string, array, object, Items, no_items, item, Members}
use Rattle.serde_json.specs.Find.{get_member, as_str, as_bool, as_number, as_array, as_object}
use Rattle.serde_json.specs.Events.{items_len, members_len}
use Rattle.schemars_schema.specs.Verdict.{Verdict, Yes, No, Open, verdict}
use Rattle.schemars_schema.specs.Numbers.{number_le, whole_of, size_in_64_bits}
use Rattle.schemars_schema.specs.Json.{Text, json_eq, is_among, are_distinct}
use Rattle.schemars_text.specs.OrderedText.{is_listed}
use Rattle.schemars_schema.specs.Judges.{Patterns, matches, Test, where_some, when, where_read, each_member}

-- ---- keywords for values of any kind

-- the names of types
abbrev pub type_names : List Text
type_names = codes "null" ∷ codes "boolean" ∷ codes "object" ∷ codes "array" ∷ codes "number" ∷ codes "string" ∷ codes "integer" ∷ []

abbrev pub is_of_type : Text → Data → Bool
is_of_type t null = bytes_eq t (codes "null")
is_of_type t (boolean b) = bytes_eq t (codes "boolean")
is_of_type t (number n) = bytes_eq t (codes "number") || (bytes_eq t (codes "integer") && is_some (whole_of n))
is_of_type t (string s) = bytes_eq t (codes "string")
is_of_type t (array ds) = bytes_eq t (codes "array")
is_of_type t (object ms) = bytes_eq t (codes "object")

abbrev pub is_of_some_type : List Text → Data → Bool
is_of_some_type [] v = false
is_of_some_type (t ∷ ts) v = is_of_type t v || is_of_some_type ts v

abbrev pub texts_in : Items → Option (List Text)
texts_in no_items = Some []
texts_in (item d ds) = option_and_then (λ t. option_map (λ ts. t ∷ ts) (texts_in ds)) (as_str d)

abbrev pub are_type_names : List Text → Bool
are_type_names [] = true
are_type_names (t ∷ ts) = is_listed t type_names && are_type_names ts

-- one name of a type, or a list of them
abbrev pub types_in : Data → Option (List Text)
types_in null = None
types_in (boolean b) = None
types_in (number n) = None
types_in (string t) = when (is_listed t type_names) (t ∷ [])
types_in (array ds) = option_and_then (λ ts. when (are_type_names ts) ts) (texts_in ds)
types_in (object ms) = None

abbrev pub is_null : Data → Bool
is_null null = true
is_null (boolean b) = false
is_null (number n) = false
is_null (string s) = false
is_null (array ds) = false
is_null (object ms) = false

abbrev pub is_true : Option Data → Bool
is_true None = false
is_true (Some null) = false
is_true (Some (boolean b)) = b
is_true (Some (number n)) = false
is_true (Some (string s)) = false
is_true (Some (array ds)) = false
is_true (Some (object ms)) = false

-- where `nullable` is read, no type is null: a `type` that holds `null` says nothing there, and `nullable: true` lets null pass
abbrev pub type_fits : Bool → Option Data → List Text → Data → Bool
type_fits false nullable ts v = is_of_some_type ts v
type_fits true nullable ts v = is_listed (codes "null") ts || (is_of_some_type ts v || (is_true nullable && is_null v))

abbrev pub type_says : Bool → Option Data → Option Data → Test
type_says reads_nullable type nullable v = where_some type (λ x. where_some (types_in x)
    (λ ts. verdict (type_fits reads_nullable nullable ts v)))

abbrev pub const_says : Bool → Option Data → Test
const_says false const v = Yes
const_says true const v = where_some const (λ c. verdict (json_eq c v))

abbrev pub enum_says : Option Data → Test
enum_says enum v = where_some enum (λ x. where_some (as_array x) (λ ds. verdict (is_among ds v)))

-- ---- keywords for numbers and texts

abbrev pub whole_number : Data → Option ℤ
whole_number v = option_and_then whole_of (as_number v)

-- a whole number from 0 up
abbrev pub from_zero : ℤ → Option ℕ
from_zero (pos n) = Some n
from_zero (negsuc n) = None

abbrev pub count_of_number : Data → Option ℕ
count_of_number v = option_and_then from_zero (whole_number v)

abbrev pub minimum_says : Option Data → Test
minimum_says minimum v = where_some minimum (λ x. where_some (as_number v)
    (λ n. where_some (as_number x) (λ m. verdict (number_le m n))))

abbrev pub maximum_says : Option Data → Test
maximum_says maximum v = where_some maximum (λ x. where_some (as_number v)
    (λ n. where_some (as_number x) (λ m. verdict (number_le n m))))

-- the bound itself or, before Draft 6, a truth value that excludes the bound beside it
abbrev pub exclusive_bound : Bool → Data → Option Data → Option Num
exclusive_bound true bound beside = as_number bound
exclusive_bound false bound beside = if is_true (Some bound) then option_and_then as_number beside else None

abbrev pub exclusive_minimum_says : Bool → Option Data → Option Data → Test
exclusive_minimum_says reads exclusive minimum v = where_some exclusive (λ x. where_some (as_number v)
    (λ n. where_some (exclusive_bound reads x minimum) (λ m. verdict (not (number_le n m)))))

abbrev pub exclusive_maximum_says : Bool → Option Data → Option Data → Test
exclusive_maximum_says reads exclusive maximum v = where_some exclusive (λ x. where_some (as_number v)
    (λ n. where_some (exclusive_bound reads x maximum) (λ m. verdict (not (number_le m n)))))

-- Whole numbers of 64 bits are compared. A fraction is not kept as it was written, so that a divisor with one leaves it open.
abbrev pub is_divided : Option ℕ → Option ℕ → Bool → Verdict
is_divided size None whole = Open
is_divided None (Some divisor) whole = if whole then Open else No
is_divided (Some size) (Some divisor) whole = verdict (size % divisor == 0)

-- a multiple of a number above 0
abbrev pub multiple_of_says : Option Data → Test
multiple_of_says divisor v = where_some divisor (λ x. where_some (as_number v) (λ n. where_some (as_number x)
    (λ m. if number_le m (unsigned 0) then Yes else is_divided (size_in_64_bits n) (size_in_64_bits m) (is_some (whole_of n)))))

-- a byte that doesn't continue a code point of UTF-8 begins one
abbrev pub begins_code_point : ℕ → Bool
begins_code_point b = not (nat_le 128 b && nat_le b 191)

abbrev pub code_points : Text → ℕ
code_points [] = 0
code_points (b ∷ bs) = if begins_code_point b then suc (code_points bs) else code_points bs

abbrev pub min_length_says : Option Data → Test
min_length_says least v = where_some least (λ x. where_some (as_str v)
    (λ s. where_some (count_of_number x) (λ m. verdict (nat_le m (code_points s)))))

abbrev pub max_length_says : Option Data → Test
max_length_says most v = where_some most (λ x. where_some (as_str v)
    (λ s. where_some (count_of_number x) (λ m. verdict (nat_le (code_points s) m))))

abbrev pub pattern_says : Patterns → Option Data → Test
pattern_says patterns pattern v = where_some pattern (λ x. where_some (as_str v)
    (λ s. where_some (as_str x) (λ p. verdict (matches patterns p s))))

-- ---- keywords for lists

abbrev pub min_items_says : Option Data → Test
min_items_says least v = where_some least (λ x. where_some (as_array v)
    (λ vs. where_some (count_of_number x) (λ m. verdict (nat_le m (items_len vs)))))

abbrev pub max_items_says : Option Data → Test
max_items_says most v = where_some most (λ x. where_some (as_array v)
    (λ vs. where_some (count_of_number x) (λ m. verdict (nat_le (items_len vs) m))))

abbrev pub unique_items_says : Option Data → Test
unique_items_says unique v = where_some unique (λ x. where_some (as_array v)
    (λ vs. where_some (as_bool x) (λ b. verdict (not b || are_distinct vs))))

-- ---- keywords for maps

abbrev pub min_properties_says : Option Data → Test
min_properties_says least v = where_some least (λ x. where_some (as_object v)
    (λ ms. where_some (count_of_number x) (λ m. verdict (nat_le m (members_len ms)))))

abbrev pub max_properties_says : Option Data → Test
max_properties_says most v = where_some most (λ x. where_some (as_object v)
    (λ ms. where_some (count_of_number x) (λ m. verdict (nat_le (members_len ms) m))))

abbrev pub have_all : List Text → Members → Bool
have_all [] ms = true
have_all (k ∷ ks) ms = is_some (get_member k ms) && have_all ks ms

abbrev pub required_says : Option Data → Test
required_says required v = where_some required (λ x. where_some (as_object v)
    (λ ms. where_some (option_and_then texts_in (as_array x)) (λ ks. verdict (have_all ks ms))))

-- what is required beside each member of the value
abbrev pub dependent_required_says : Bool → Option Data → Test
dependent_required_says reads dependent v = where_read reads dependent (λ x. where_some (as_object v) (λ ms. where_some (as_object x)
    (each_member (λ k names. where_some (get_member k ms) (λ w. required_says (Some names) v)))))
