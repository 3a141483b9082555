-- The root document of an example leaves the keys of definitions free.
use Rattle.std.proofs.Common.{◌≡◌, [], ◌∷◌, Option, Some, None, Bool, true, false, refl, ◌∙◌}
use Rattle.schemars_sample.proofs.Words.{codes, bytes_eq, if◌then◌else◌, Data, boolean, string, object, Members, put, get_member, get_member-put_other, Text, members_in, without, is_null, get_member-without, allow_null, is_null_choice, is_combined, or_null, null_in_values, null_in_const, null_in_enum, null_in_type, const_or_null, enum_with_null, type_with_null, with_meta_schema, Example, truth, whole, decimal, character, text, bytes, no_value, some_value, unit_struct, unit_variant, newtype_struct, newtype_variant, seq, tuple, tuple_variant, struct, collected_map, struct_variant, sample_json, sample_schema, titled_schema, with_name, with_example, sample_root}

-- no definitions stand among the members
abbrev pub IsFree : Members → Type 0
IsFree ms = (get_member (codes "$defs") ms ≡ None) × (get_member (codes "definitions") ms ≡ None)

free_put : (k : Text) (d : Data) (ms : Members) → bytes_eq (codes "$defs") k ≡ false → bytes_eq (codes "definitions") k ≡ false
    → IsFree ms → IsFree (put k d ms)
free_put k d ms e f h = (
  get_member-put_other (codes "$defs") k d ms (λ same. cc) ∙ h.0,
  get_member-put_other (codes "definitions") k d ms (λ same. cc) ∙ h.1,
)

free_without : (k : Text) (ms : Members) → bytes_eq (codes "$defs") k ≡ false → bytes_eq (codes "definitions") k ≡ false
    → IsFree ms → IsFree (without k ms)
free_without k ms e f h = (
  get_member-without (codes "$defs") k ms e ∙ h.0,
  get_member-without (codes "definitions") k ms f ∙ h.1,
)

-- ---- null allowed

free_type : (o : Option Data) (ms : Members) → IsFree ms → IsFree (null_in_type o ms)
free_type None ms h = h
free_type (Some type) ms h = free_put (codes "type") (type_with_null type) ms refl refl h

free_enum : (o : Option Data) (ms : Members) → IsFree ms → IsFree (null_in_enum o ms)
free_enum None ms h = h
free_enum (Some values) ms h = free_put (codes "enum") (enum_with_null values) ms refl refl h

free_const : (o : Option Data) (ms : Members) → IsFree ms → IsFree (null_in_const o ms)
free_const None ms h = free_enum (get_member (codes "enum") ms) ms h
free_const (Some c) ms h = go (is_null c)
  where
    go : (b : Bool) → IsFree (if b then ms else const_or_null c ms)
    go true = h
    go false = free_put (codes "enum") _ (without (codes "const") ms) refl refl (free_without (codes "const") ms refl refl h)

free_nulled : (ms : Members) → IsFree ms → IsFree (null_in_values (null_in_type (get_member (codes "type") ms) ms))
free_nulled ms h =
    let typed = null_in_type (get_member (codes "type") ms) ms in
    free_const (get_member (codes "const") typed) typed (free_type (get_member (codes "type") ms) ms h)

free_allow_null : (s : Data) → IsFree (members_in s) → IsFree (members_in (allow_null s))
free_allow_null (boolean false) h = (refl, refl)
free_allow_null (object ms) h = go (is_null_choice (object ms)) (is_combined (object ms))
  where
    go : (a b : Bool) → IsFree (members_in (if a then object ms else if b then or_null (object ms) else
        object (null_in_values (null_in_type (get_member (codes "type") ms) ms))))
    go true b = h
    go false true = (refl, refl)
    go false false = free_nulled ms h
free_allow_null _ h = h

-- ---- the schema of an example

free_schema : (x : Example) → IsFree (members_in (sample_schema x))
free_schema (truth b) = (refl, refl)
free_schema (whole z) = (refl, refl)
free_schema (decimal x) = (refl, refl)
free_schema (character c) = (refl, refl)
free_schema (text s) = (refl, refl)
free_schema (bytes bs) = (refl, refl)
free_schema no_value = (refl, refl)
free_schema (some_value x) = free_allow_null (sample_schema x) (free_schema x)
free_schema unit_struct = (refl, refl)
free_schema (unit_variant variant) = (refl, refl)
free_schema (newtype_struct name x) = free_schema x
free_schema (newtype_variant variant x) = (refl, refl)
free_schema (seq xs) = (refl, refl)
free_schema (tuple name xs) = (refl, refl)
free_schema (tuple_variant variant xs) = (refl, refl)
free_schema (struct name xs) = (refl, refl)
free_schema (collected_map xs) = (refl, refl)
free_schema (struct_variant variant xs) = (refl, refl)

free_name : (name : Text) (s : Data) → IsFree (members_in s) → IsFree (members_in (with_name name s))
free_name [] s h = h
free_name (b ∷ bs) s h = free_put (codes "title") (string (b ∷ bs)) (members_in s) refl refl h

free_titled : (x : Example) → IsFree (members_in (titled_schema x))
free_titled (newtype_struct name x) = free_name name (titled_schema x) (free_titled x)
free_titled (tuple name xs) = free_name name (sample_schema (tuple name xs)) (free_schema (tuple name xs))
free_titled (struct name xs) = free_name name (sample_schema (struct name xs)) (free_schema (struct name xs))
free_titled (truth b) = free_schema (truth b)
free_titled (whole z) = free_schema (whole z)
free_titled (decimal x) = free_schema (decimal x)
free_titled (character c) = free_schema (character c)
free_titled (text s) = free_schema (text s)
free_titled (bytes bs) = free_schema (bytes bs)
free_titled no_value = free_schema no_value
free_titled (some_value x) = free_schema (some_value x)
free_titled unit_struct = free_schema unit_struct
free_titled (unit_variant variant) = free_schema (unit_variant variant)
free_titled (newtype_variant variant x) = free_schema (newtype_variant variant x)
free_titled (seq xs) = free_schema (seq xs)
free_titled (tuple_variant variant xs) = free_schema (tuple_variant variant xs)
free_titled (collected_map xs) = free_schema (collected_map xs)
free_titled (struct_variant variant xs) = free_schema (struct_variant variant xs)

free_example : (o : Option Data) (ms : Members) → IsFree ms → IsFree (with_example o ms)
free_example None ms h = h
free_example (Some d) ms h = free_put (codes "examples") _ ms refl refl h

free_meta_schema : (o : Option Text) (ms : Members) → IsFree ms → IsFree (with_meta_schema o ms)
free_meta_schema None ms h = h
free_meta_schema (Some uri) ms h = free_put (codes "$schema") _ ms refl refl h

pub root_free : (meta_schema : Option Text) (x : Example) → IsFree (members_in (sample_root meta_schema x))
root_free meta_schema x =
    let own = members_in (titled_schema x) in
    free_meta_schema meta_schema (with_example (sample_json x) own) (free_example (sample_json x) own (free_titled x))
