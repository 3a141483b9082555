-- The parts of the meaning of a type, as they are decided one by one.
use Rattle.std.specs.Prelude.{ℕ, zero, suc, List, [], ◌∷◌, ◌++◌, map, find, Bool, true, false, not, ◌&&◌, ◌||◌, Option, Some, None, is_some, bytes_eq, if◌then◌else◌, string_bytes}
use Rattle.std.specs.List.{list_all}
use Rattle.std.specs.Option.{option_map_or}
use Rattle.serde_json.specs.Data.{Data, Members, no_members}
use Rattle.serde_json.specs.Find.{get_member}
use Rattle.schemars_text.specs.OrderedText.{is_listed}
use Rattle.schemars_schema.specs.Json.{Text}
use Rattle.schemars_schema.specs.Judges.{Patterns}
use Rattle.schemars_shapes.specs.Shape.{Field, Fields, Flattened, Shape, Variant, Payload, Tagging, no_payload, newtype_payload, tuple_payload, struct_payload, struct, enum, by_name, by_nothing, by_tag, by_tag_and_content}
use Rattle.schemars_types.specs.Rows.{Row, entry_at}
use Rattle.schemars_types.specs.Edges.{option_at}
use Rattle.schemars_types.specs.Effective.{flattened_in, part_enums, flattened_enums, enum_at, effective, expanded_payload, expanded_variant, expanded_shape_in}
use Rattle.schemars_types.specs.KeyOptions.{key_options}
use Rattle.schemars_types.specs.Meaning.{VariantMatch, Member, is_required, is_text, must_have, has_members, has_payload, has_variant, has_shape, external_choice, is_tagged_map, tagged_fields, member_named, has_members_with, has_tagged, matches_of, none, exactly_one, belongs_within, choices_within}
use Rattle.schemars_types.specs.declared.contract.Contract.{Contract}
use Rattle.schemars_belonging.specs.declared.given.Given as src
use Rattle.schemars_belonging.specs.declared.given.Values as src-values
use Rattle.schemars_belonging.specs.declared.given.Values.TheVariants as values
use Rattle.schemars_belonging.specs.declared.decide.variants.By as src-by
use Rattle.schemars_belonging.specs.declared.decide.variants.By.TheVariants as by

-- of which table, by which contract and under which reading of patterns
pub record Asked : Type 0 where
  pub rows : List Row
  pub contract : Contract
  pub patterns : Patterns

abbrev pub asked : List Row → Contract → Patterns → Asked
asked rows contract patterns = record { rows = rows; contract = contract; patterns = patterns }

-- whether row n has a value, where rows are asked at most `steps` deep
abbrev pub has : Asked → ℕ → ℕ → Data → Bool
has a steps n v = belongs_within a.rows a.contract a.patterns steps n v

-- what the variants of row n offer of a value
abbrev pub offers : Asked → ℕ → ℕ → Data → List VariantMatch
offers a steps n v = choices_within a.rows a.contract a.patterns steps n v

abbrev pub has_shape_of : Asked → ℕ → Shape → Data → Bool
has_shape_of a steps s v =
    has_shape a.contract a.patterns (key_options a.rows) (offers a steps) (has a steps) (expanded_shape_in a.rows s) v

abbrev pub payload_expanded : List Row → Payload → Payload
payload_expanded rows p = expanded_payload (flattened_in rows) (part_enums rows) p

abbrev pub payload_in : Asked → Payload → Payload
payload_in a p = payload_expanded a.rows p

abbrev pub variant_in : Asked → Variant → Variant
variant_in a x = expanded_variant (flattened_in a.rows) (part_enums a.rows) x

abbrev pub variants_in : Asked → List Variant → List Variant
variants_in a xs = map (expanded_variant (flattened_in a.rows) (part_enums a.rows)) xs

abbrev pub has_payload_of : Asked → ℕ → Payload → Data → Bool
has_payload_of a steps p v = has_payload a.contract (has a steps) (offers a steps) (payload_in a p) v

abbrev pub has_variant_of : Asked → ℕ → Tagging → Data → Variant → Bool
has_variant_of a steps tagging v x = has_variant a.contract (has a steps) (offers a steps) tagging v (variant_in a x)

abbrev pub is_unit : Payload → Bool
is_unit no_payload = true
is_unit (newtype_payload n) = false
is_unit (tuple_payload ns) = false
is_unit (struct_payload x) = false

-- a variant whose notes do not count
abbrev pub bare : Text → Payload → Variant
bare name p = record { name = name; payload = p; notes = no_members }

-- ---- members

-- the values of a row, or a text alone
pub data Values : Type 0 where
  of_row : ℕ → Values
  of_text : Text → Values

-- a member of a map: its name, whether it has to be there, and which values it may have
pub record Given : Type 0 where
  pub name : Text
  pub required : Bool
  pub values : Values

abbrev pub values_of : src-values.Values → Values
values_of (values.Row n) = of_row n
values_of (values.Text t) = of_text t.now

abbrev pub given_of : src.Given → Given
given_of g = record { name = g.name.now; required = g.required; values = values_of g.values }

abbrev pub has_values : Asked → ℕ → Values → Data → Bool
has_values a steps (of_row n) = has a steps n
has_values a steps (of_text t) = is_text t

abbrev pub member_of : Asked → ℕ → Given → Member
member_of a steps g = record { name = g.name; required = g.required; has = has_values a steps g.values }

abbrev pub given_named : List Given → Text → Option Given
given_named list k = find (λ g. bytes_eq g.name k) list

-- each that is required is there
abbrev pub has_each_given : List Given → Members → Bool
has_each_given list ms = list_all (λ g. not g.required || is_some (get_member g.name ms)) list

-- a member as it is listed, or with a key that others may have
abbrev pub member_says : List Member → (Text → Bool) → Text → Data → Bool
member_says list others k w = option_map_or (λ m. m.has w) (member_named list k) (others k)

-- a key beside those that are given
abbrev pub allows : Bool → List Text → Text → Bool
allows closed claimed k = not (not (is_listed k claimed) && closed)

-- the tag, whose value is this name
abbrev pub tag_given : Text → Text → Given
tag_given tag name = record { name = tag; required = true; values = of_text name }

-- a member that has to be there, with a value of row n
abbrev pub needed : Text → ℕ → Given
needed name n = record { name = name; required = true; values = of_row n }

-- a field where others have to be there, or not
abbrev pub field_given : Bool → Contract → Field → Given
field_given needed contract f = record { name = f.name; required = needed && is_required contract f.required; values = of_row f.ty }

-- whether fields have to be there that are flattened from a row
abbrev pub still_needed : Bool → Contract → List Row → Flattened → Bool
still_needed needed contract rows p = if is_some (option_at rows p.ty) then needed && is_required contract p.required else needed

abbrev pub struct_of : Shape → Option Fields
struct_of (struct x) = Some x
struct_of _ = None

-- a map of these members and of fields, with enums among its members
abbrev pub has_fields_of : Asked → ℕ → List Given → Fields → Data → Bool
has_fields_of a steps tags x v =
    has_members_with (matches_of (offers a steps) (map enum_at (flattened_enums (part_enums a.rows) x.flatten)) v)
    (map (member_of a steps) (tags ++ map (field_given true a.contract) (effective (flattened_in a.rows) x))) x.closed v

-- a map with a name under the tag, and with fields and enums beside it
abbrev pub has_tagged_of : Asked → ℕ → Text → Text → Fields → Data → Bool
has_tagged_of a steps tag name x v = has_tagged a.contract (has a steps)
    (matches_of (offers a steps) (map enum_at (flattened_enums (part_enums a.rows) x.flatten)) v) tag (effective (flattened_in a.rows) x)
    x.closed name v

-- a map of members, and of a payload under a name of its own
abbrev pub has_beside_of : Asked → ℕ → List Given → Text → Payload → Bool → Data → Bool
has_beside_of a steps list name p closed =
    has_members (map (member_of a steps) list ++ must_have name (has_payload_of a steps p) ∷ []) (λ k. not closed)

-- ---- enums among the members of a map

-- the keys that variants claim which fit
abbrev pub claimed : (Variant → Bool) → (Variant → List Text) → List Variant → List Text
claimed fits names [] = []
claimed fits names (x ∷ xs) = (if fits x then names x else []) ++ claimed fits names xs

abbrev pub external_claims : Asked → ℕ → Data → List Variant → List Text
external_claims a steps v xs = claimed (λ x. (external_choice a.contract (has a steps) (offers a steps) v x).fits) (λ x. x.name ∷ []) xs

abbrev pub internal_claims : Asked → ℕ → Text → Data → List Variant → List Text
internal_claims a steps tag v xs =
    claimed (is_tagged_map a.contract (has a steps) tag v) (λ x. tag ∷ map (λ f. f.name) (tagged_fields x.payload)) xs

abbrev pub shape_claims : Asked → ℕ → Shape → Data → List Text
shape_claims a steps (enum by_name xs) v = external_claims a steps v xs
shape_claims a steps (enum (by_tag tag closed) xs) v = internal_claims a steps tag v xs
shape_claims a steps _ v = []

-- those of row n
abbrev pub claims : Asked → ℕ → ℕ → Data → List Text
claims a zero n v = []
claims a (suc steps) n v = elim (entry_at a.rows n) [ None ↦ [] | Some e ↦ shape_claims a steps (expanded_shape_in a.rows e.shape) v ]

-- those of each of these rows
abbrev pub all_claims : Asked → ℕ → List ℕ → Data → List Text
all_claims a steps [] v = []
all_claims a steps (n ∷ ns) v = claims a steps n v ++ all_claims a steps ns v

-- whether the variants of row n fit
abbrev pub fits_of : List VariantMatch → List Bool
fits_of choices = map (λ choice. choice.fits) choices

-- whether exactly one fits of those that were tried, one of them or more, and of these
abbrev pub one_of_seen : Bool → Bool → List Bool → Bool
one_of_seen one true bs = false
one_of_seen true false bs = none bs
one_of_seen false false bs = exactly_one bs

-- ---- variants

-- how the name of a variant is written
abbrev pub tagging_of : src-by.By → Tagging
tagging_of by.Name = by_name
tagging_of by.Nothing = by_nothing
tagging_of (by.Content x) = by_tag_and_content (string_bytes x.now.tag) (string_bytes x.now.content) x.now.closed
