-- Which JSON values belong to a type of a table, up to equality of numbers: 1.0 is the whole number 1.
-- This file is trusted: the theorem is stated in its words.
use Rattle.std.specs.Prelude.{ℕ, zero, suc, ◌+◌, ◌*◌, ◌&&◌, ◌||◌, ◌==◌, ℤ, pos, negsuc, List, [], ◌∷◌, length, map, find, Bool, true, false, not, int_le, nat_le, Option, Some, None, is_some, bytes_eq, if◌then◌else◌, codes}
use Rattle.std.specs.List.{list_all, list_any}
use Rattle.std.specs.Option.{option_map_or}
use Rattle.serde_json.specs.Data.{Data, object, Items, no_items, item, Members, no_members, member, depth}
use Rattle.serde_json.specs.Find.{as_bool, as_number, as_str, as_array, as_object, get_member}
use Rattle.serde_json.specs.Events.{items_len}
use Rattle.schemars_schema.specs.Json.{Text, are_distinct}
use Rattle.schemars_schema.specs.SchemaData.{is_schema}
use Rattle.schemars_schema.specs.Edits.{without}
use Rattle.schemars_schema.specs.Judges.{Patterns}
use Rattle.schemars_schema.specs.Assertions.{is_null, whole_number, code_points}
use Rattle.schemars_schema.specs.Literal.{has_literal}
use Rattle.schemars_shapes.specs.Shape.{Required, Field, Flattened, Tagging, Shape, null, bool, int, non_zero, number, text, char, formatted, any, bytes, schema_itself, option, seq, set, array as array_shape, up_to, tuple, struct, newtype, result, bound, range, either, map_from, enum, by_name, by_nothing, by_tag, by_tag_and_content, literal, Payload, Variant, no_payload, newtype_payload, tuple_payload, struct_payload}
use Rattle.schemars_types.specs.KeyOptions.{KeyOptions, is_key_allowed, key_options}
use Rattle.schemars_types.specs.Rows.{Row, entry_at}
use Rattle.schemars_types.specs.Effective.{expanded_shape_in}
use Rattle.schemars_shapes.specs.declared.shape.IntKind.{IntKind}
use Rattle.schemars_shapes.specs.declared.shape.IntKind.TheVariants.{U8}
use Rattle.schemars_shapes.specs.IntKind.{facts_of}
use Rattle.schemars_types.specs.declared.contract.Contract.{Contract}
use Rattle.schemars_types.specs.declared.contract.Contract.TheVariants.{Deserialize, Serialize}

abbrev pub least_of : IntKind → Option ℤ
least_of kind = (facts_of kind).least

abbrev pub greatest_of : IntKind → Option ℤ
greatest_of kind = (facts_of kind).greatest

abbrev pub is_at_least : Option ℤ → ℤ → Bool
is_at_least None z = true
is_at_least (Some least) z = int_le least z

abbrev pub is_at_most : Option ℤ → ℤ → Bool
is_at_most None z = true
is_at_most (Some greatest) z = int_le z greatest

abbrev pub is_of_kind : IntKind → ℤ → Bool
is_of_kind kind z = is_at_least (least_of kind) z && is_at_most (greatest_of kind) z

abbrev pub is_zero : ℤ → Bool
is_zero (pos n) = 0 == n
is_zero (negsuc n) = false

-- there is one, and it passes
abbrev pub holds : {A : Type 0} → Option A → (A → Bool) → Bool
holds None p = false
holds (Some a) p = p a

abbrev pub every_item : (Data → Bool) → Items → Bool
every_item p no_items = true
every_item p (item v vs) = p v && every_item p vs

-- exactly as many items as parts, each of the part in its place
abbrev pub each_of : (ℕ → Data → Bool) → List ℕ → Items → Bool
each_of part [] no_items = true
each_of part [] (item v vs) = false
each_of part (n ∷ ns) no_items = false
each_of part (n ∷ ns) (item v vs) = part n v && each_of part ns vs

abbrev pub every_member : (Text → Data → Bool) → Members → Bool
every_member p no_members = true
every_member p (member k v ms) = p k v && every_member p ms

abbrev pub is_byte : Data → Bool
is_byte v = holds (whole_number v) (is_of_kind U8)

abbrev pub is_byte_text : Contract → Data → Bool
is_byte_text Deserialize v = is_some (as_str v)
is_byte_text Serialize v = false

abbrev pub is_required : Contract → Required → Bool
is_required Deserialize required = required.deserialize
is_required Serialize required = required.serialize

abbrev pub field_named : List Field → Text → Option Field
field_named list k = find (λ f. bytes_eq f.name k) list

abbrev pub none : List Bool → Bool
none [] = true
none (b ∷ bs) = not b && none bs

abbrev pub exactly_one : List Bool → Bool
exactly_one [] = false
exactly_one (b ∷ bs) = if b then none bs else exactly_one bs

-- ---- enums among the members of a map

-- what a variant offers of a map: whether the variant fits it, and which keys belong to the variant
pub record VariantMatch : Type 0 where
  pub fits : Bool
  pub has_key : Text → Bool

-- of each enum exactly one variant fits
abbrev pub every_part : List (List VariantMatch) → Bool
every_part [] = true
every_part (choices ∷ parts) = exactly_one (map (λ choice. choice.fits) choices) && every_part parts

-- the key belongs to a variant that fits
abbrev pub claimed_by : List VariantMatch → Text → Bool
claimed_by choices k = list_any (λ choice. choice.fits && choice.has_key k) choices

abbrev pub is_key_of_match : List (List VariantMatch) → Text → Bool
is_key_of_match [] k = false
is_key_of_match (choices ∷ parts) k = claimed_by choices k || is_key_of_match parts k

-- a key is refused that is neither a field's nor a variant's
abbrev pub excludes_key : Bool → List (List VariantMatch) → Text → Bool
excludes_key closed parts k = not (is_key_of_match parts k) && closed

-- what the enums flattened into a map offer of it, where `choices n` is what the variants of row n do
abbrev pub matches_of : (ℕ → Data → List VariantMatch) → List Flattened → Data → List (List VariantMatch)
matches_of choices flatten v = map (λ p. choices p.ty v) flatten

-- ---- maps with members

-- a member of a map: its name, whether it has to be there, and which values it may have
pub record Member : Type 0 where
  pub name : Text
  pub required : Bool
  pub has : Data → Bool

abbrev pub member_named : List Member → Text → Option Member
member_named list k = find (λ m. bytes_eq m.name k) list

abbrev pub has_each : List Member → Members → Bool
has_each list ms = list_all (λ m. not m.required || is_some (get_member m.name ms)) list

-- a listed member has one of its values, `others` says which other keys are allowed, and each required member is there
abbrev pub are_members : List Member → (Text → Bool) → Members → Bool
are_members list others ms =
    every_member (λ k w. option_map_or (λ m. m.has w) (member_named list k) (others k)) ms && has_each list ms

-- a map with these members
abbrev pub has_members : List Member → (Text → Bool) → Data → Bool
has_members list others v = holds (as_object v) (are_members list others)

-- a member that has to be there
abbrev pub must_have : Text → (Data → Bool) → Member
must_have name p = record { name = name; required = true; has = p }

-- a map with this member, and with other keys or none
abbrev pub has_member : Text → (Data → Bool) → Bool → Data → Bool
has_member name p closed = has_members (must_have name p ∷ []) (λ k. not closed)

-- a map with these members, and with these enums among its members
abbrev pub has_members_with : List (List VariantMatch) → List Member → Bool → Data → Bool
has_members_with parts list closed v =
    holds (as_object v) (λ ms. every_part parts && are_members list (λ k. not (excludes_key closed parts k)) ms)

abbrev pub is_text : Text → Data → Bool
is_text t v = holds (as_str v) (bytes_eq t)

-- the tag, whose value is this name
abbrev pub tag_member : Text → Text → Member
tag_member tag name = must_have tag (is_text name)

-- a map with this name under the tag, and under the other key a value that passes
abbrev pub has_beside : Text → Text → Text → (Data → Bool) → Bool → Data → Bool
has_beside tag name content p closed = has_members (tag_member tag name ∷ must_have content p ∷ []) (λ k. not closed)

-- a map with this name under the tag, whose other members pass as a map of their own
abbrev pub has_content : (Data → Bool) → Text → Text → Data → Bool
has_content p tag name v =
    holds (as_object v) (λ ms. holds (get_member tag ms) (is_text name) && p (object (without tag ms)))

-- the fields of a variant that is tagged inside its map; a unit has none
abbrev pub tagged_fields : Payload → List Field
tagged_fields (struct_payload x) = x.list
tagged_fields _ = []

-- a variant of a flattened enum: the name is there, with a value that passes
abbrev pub member_choice : Text → (Data → Bool) → Data → VariantMatch
member_choice name p v = record { fits = has_member name p false v; has_key = bytes_eq name }

-- ---- fields, and the variants of enums; `part` says which values rows have

module _ (contract : Contract) (part : ℕ → Data → Bool) where
  -- the member that a field is
  abbrev pub field_member : Field → Member
  field_member f = record { name = f.name; required = is_required contract f.required; has = part f.ty }

  -- a map with these fields, and with these enums among its members
  abbrev pub has_fields : List (List VariantMatch) → List Field → Bool → Data → Bool
  has_fields parts list closed = has_members_with parts (map field_member list) closed

  -- a map with this name under the tag, and with these fields and enums beside it
  abbrev pub has_tagged : List (List VariantMatch) → Text → List Field → Bool → Text → Data → Bool
  has_tagged parts tag list closed name = has_members_with parts (tag_member tag name ∷ map field_member list) closed

  module _ (choices : ℕ → Data → List VariantMatch) where
    -- what a variant has beside its name; null where it has nothing
    abbrev pub has_payload : Payload → Data → Bool
    has_payload no_payload v = is_null v
    has_payload (newtype_payload n) v = part n v
    has_payload (tuple_payload ns) v = holds (as_array v) (each_of part ns)
    has_payload (struct_payload x) v = has_fields (matches_of choices x.flatten v) x.list x.closed v

    -- a unit is its name, and another variant a map with its name as the one key
    abbrev pub has_external : Data → Variant → Bool
    has_external v x = elim x.payload [
      | no_payload ↦ is_text x.name v
      | newtype_payload n ↦ has_member x.name (part n) true v
      | tuple_payload ns ↦ has_member x.name (has_payload (tuple_payload ns)) true v
      | struct_payload y ↦ has_member x.name (has_payload (struct_payload y)) true v
    ]

    -- the name is under the tag, beside the members of what the variant has
    abbrev pub has_internal : Text → Bool → Data → Variant → Bool
    has_internal tag closed v x = elim x.payload [
      | no_payload ↦ has_member tag (is_text x.name) closed v
      | newtype_payload n ↦ has_content (part n) tag x.name v
      | tuple_payload ns ↦ false
      | struct_payload y ↦ has_tagged (matches_of choices y.flatten v) tag y.list y.closed x.name v
    ]

    -- a unit is its name under the tag, and another variant has its payload under the other key
    abbrev pub has_adjacent : Text → Text → Bool → Data → Variant → Bool
    has_adjacent tag content closed v x = elim x.payload [
      | no_payload ↦ has_member tag (is_text x.name) closed v
      | newtype_payload n ↦ has_beside tag x.name content (part n) closed v
      | tuple_payload ns ↦ has_beside tag x.name content (has_payload (tuple_payload ns)) closed v
      | struct_payload y ↦ has_beside tag x.name content (has_payload (struct_payload y)) closed v
    ]

    -- a variant, by how its name is written; without a name it is its payload
    abbrev pub has_variant : Tagging → Data → Variant → Bool
    has_variant by_name = has_external
    has_variant by_nothing = λ v x. has_payload x.payload v
    has_variant (by_tag tag closed) = has_internal tag closed
    has_variant (by_tag_and_content tag content closed) = has_adjacent tag content closed

  -- ---- the variants of a flattened enum

  abbrev pub is_tagged_map : Text → Data → Variant → Bool
  is_tagged_map tag v x = elim x.payload [
    | no_payload ↦ has_member tag (is_text x.name) false v
    | newtype_payload n ↦ false
    | tuple_payload ns ↦ false
    | struct_payload y ↦ has_tagged [] tag y.list false x.name v
  ]

  -- the name is under the tag, and the variant's fields are there; there may be other keys beside them
  abbrev pub internal_choice : Text → Data → Variant → VariantMatch
  internal_choice tag v x = record {
    fits = is_tagged_map tag v x;
    has_key = λ k. bytes_eq tag k || is_some (field_named (tagged_fields x.payload) k);
  }

  module _ (choices : ℕ → Data → List VariantMatch) where
    -- the name is there, with what the variant has
    abbrev pub external_choice : Data → Variant → VariantMatch
    external_choice v x = member_choice x.name (has_payload choices x.payload) v

    abbrev pub shape_choices : Shape → Data → List VariantMatch
    shape_choices (enum by_name xs) v = map (external_choice v) xs
    shape_choices (enum (by_tag tag closed) xs) v = map (internal_choice tag v) xs
    shape_choices _ v = []

-- ---- by shape

-- a map with allowed keys, whose values pass
abbrev pub has_keys : Patterns → KeyOptions → (Data → Bool) → Data → Bool
has_keys patterns options p v = holds (as_object v) (every_member (λ k w. is_key_allowed patterns options k && p w))

-- the values of a shape into which enums alone are flattened, where `part` says which values the rows inside it have, `choices` what
-- the variants of an enum offer of a map, and `keys` which keys
module _ (contract : Contract) (patterns : Patterns) (keys : ℕ → KeyOptions) (choices : ℕ → Data → List VariantMatch)
    (part : ℕ → Data → Bool) where
  abbrev pub has_shape : Shape → Data → Bool
  has_shape null v = is_null v
  has_shape bool v = is_some (as_bool v)
  has_shape (int kind) v = holds (whole_number v) (is_of_kind kind)
  has_shape (non_zero kind) v = holds (whole_number v) (λ z. is_of_kind kind z && not (is_zero z))
  has_shape number v = is_some (as_number v)
  has_shape text v = is_some (as_str v)
  has_shape char v = holds (as_str v) (λ s. code_points s == 1)
  has_shape (formatted format) v = is_some (as_str v)
  has_shape any v = true
  has_shape bytes v = holds (as_array v) (every_item is_byte) || is_byte_text contract v
  has_shape schema_itself v = is_schema v
  has_shape (option n) v = is_null v || part n v
  has_shape (seq n) v = holds (as_array v) (every_item (part n))
  has_shape (set n) v = holds (as_array v) (λ vs. are_distinct vs && every_item (part n) vs)
  has_shape (array_shape n len) v =
      holds (as_array v) (λ vs. (items_len vs == len) && every_item (part n) vs)
  has_shape (up_to n cap) v =
      holds (as_array v) (λ vs. nat_le (items_len vs) cap && every_item (part n) vs)
  has_shape (tuple ns) v = holds (as_array v) (each_of part ns)
  has_shape (struct x) v = has_fields contract part (matches_of choices x.flatten v) x.list x.closed v
  has_shape (newtype n) v = part n v
  has_shape (result t e) v =
      exactly_one (has_member (codes "Ok") (part t) false v ∷ has_member (codes "Err") (part e) false v ∷ [])
  has_shape (bound n) v = exactly_one
      (has_member (codes "Included") (part n) false v ∷ has_member (codes "Excluded") (part n) false v ∷ is_text (codes "Unbounded") v ∷ [])
  has_shape (range n) v =
      has_members (must_have (codes "start") (part n) ∷ must_have (codes "end") (part n) ∷ []) (λ k. true) v
  has_shape (either l r) v =
      exactly_one (has_member (codes "Left") (part l) true v ∷ has_member (codes "Right") (part r) true v ∷ [])
  has_shape (map_from key value) v = has_keys patterns (keys key) (part value) v
  has_shape (enum tagging xs) v = list_any (has_variant contract part choices tagging v) xs
  has_shape (literal d) v = has_literal patterns d v

unfoldable mutual
  -- row n has the value; a row is asked at most `steps` deep
  pub belongs_within : List Row → Contract → Patterns → ℕ → ℕ → Data → Bool
  belongs_within rows contract patterns zero n v = false
  belongs_within rows contract patterns (suc steps) n v =
      elim (entry_at rows n) [
        | None ↦ false
        | Some entry ↦ has_shape contract patterns (key_options rows) (choices_within rows contract patterns steps)
            (belongs_within rows contract patterns steps) (expanded_shape_in rows entry.shape) v
      ]

  -- what the variants of row n, an enum, offer of the value
  pub choices_within : List Row → Contract → Patterns → ℕ → ℕ → Data → List VariantMatch
  choices_within rows contract patterns zero n v = []
  choices_within rows contract patterns (suc steps) n v =
      elim (entry_at rows n) [
        | None ↦ []
        | Some entry ↦ shape_choices contract (belongs_within rows contract patterns steps) (choices_within rows contract patterns steps)
            (expanded_shape_in rows entry.shape) v
      ]

-- the meaning of row n: at each depth of the value every row is asked once at most
abbrev pub belongs : List Row → Contract → Patterns → ℕ → Data → Bool
belongs rows contract patterns n v = belongs_within rows contract patterns ((depth v + 1) * length rows) n v
