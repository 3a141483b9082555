-- The JSON of an example value, as serializers write it.
use Rattle.std.specs.Prelude.{ℕ, Bool, nat_lt, ◌^◌, ◌-◌, ◌&&◌, ℤ, pos, negsuc, int_le, if◌then◌else◌, List, [], ◌∷◌, map, Option, Some, None, ◌≡◌, false, option_map, option_and_then, encode_utf8}
use Rattle.std.specs.Option.{IfSome}
use Rattle.std.specs.List.{list_all}
use Rattle.serde_json.specs.Data.{Data, null, boolean, number, unsigned, string, array, object, Members, no_members, member, put}
use Rattle.serde_json.specs.View.{items_of}
use Rattle.serde_json.specs.Written.{has_float}
use Rattle.serde_json.specs.Find.{of_integer, of_float}
use Rattle.schemars_schema.specs.Json.{Text}
use Rattle.schemars_sample.specs.Example.{Example, truth, whole, decimal, character, text, bytes, no_value, some_value, unit_struct, unit_variant, newtype_struct, newtype_variant, seq, tuple, tuple_variant, struct, collected_map, struct_variant, Examples, no_examples, example, Entries, no_entries, entry}

-- a whole number from -2^63 to 2^64 - 1
abbrev pub whole_json : ℤ → Option Data
whole_json z = if int_le (negsuc (2 ^ 63 - 1)) z && int_le z (pos (2 ^ 64 - 1)) then Some (number (of_integer z)) else None

abbrev pub json_array : List Data → Data
json_array ds = array (items_of ds)

-- each is below 256
abbrev pub are_bytes : List ℕ → Bool
are_bytes = list_all (λ b. nat_lt b 256)

-- the one member of a variant
abbrev pub json_named : Text → Data → Data
json_named variant d = object (member variant d no_members)

-- There is none if a whole number or a byte is out of range, or a float is not finite. Of members with equal keys the later one counts.
abbrev mutual
  pub sample_json : Example → Option Data
  sample_json (truth b) = Some (boolean b)
  sample_json (whole z) = whole_json z
  sample_json (decimal x) = option_map number (of_float x)
  sample_json (character c) = Some (string (encode_utf8 c))
  sample_json (text s) = Some (string s)
  sample_json (bytes bs) = if are_bytes bs then Some (json_array (map (λ b. number (unsigned b)) bs)) else None
  sample_json no_value = Some null
  sample_json (some_value x) = sample_json x
  sample_json unit_struct = Some null
  sample_json (unit_variant variant) = Some (string variant)
  sample_json (newtype_struct name x) = sample_json x
  sample_json (newtype_variant variant x) = option_map (json_named variant) (sample_json x)
  sample_json (seq xs) = option_map json_array (items_json xs)
  sample_json (tuple name xs) = option_map json_array (items_json xs)
  sample_json (tuple_variant variant xs) = option_map (λ ds. json_named variant (json_array ds)) (items_json xs)
  sample_json (struct name xs) = option_map object (entries_json xs no_members)
  sample_json (collected_map xs) = option_map object (entries_json xs no_members)
  sample_json (struct_variant variant xs) = option_map (λ ms. json_named variant (object ms)) (entries_json xs no_members)

  pub items_json : Examples → Option (List Data)
  items_json no_examples = Some []
  items_json (example x xs) = option_and_then (λ d. option_map (λ ds. d ∷ ds) (items_json xs)) (sample_json x)

  -- put into these members
  pub entries_json : Entries → Members → Option Members
  entries_json no_entries ms = Some ms
  entries_json (entry k x xs) ms = option_and_then (λ d. entries_json xs (put k d ms)) (sample_json x)

-- the numbers in its JSON are whole, where it has one
abbrev pub HasWholeJson : Example → Type 0
HasWholeJson x = IfSome (sample_json x) (λ d. has_float d ≡ false)
