-- What the members so far say of a field, of a struct, of a variant, of an enum, of what is said by one member, and of a row.
use Rattle.std.specs.Prelude.{◌≡◌, Bool, Option, map, option_map, codes, string_bytes, bytes_eq, true, false, ◌∷◌, [], ⊤}
use Rattle.serde_json.specs.Data.{Data, Members, no_members, member}
use Rattle.serde_json.specs.Find.{as_bool, as_str}
use Rattle.serde_json.specs.View.{members_view}
use Rattle.schemars_schema.specs.Json.{Text}
use Rattle.schemars_shapes.specs.Shape.{field_of, flattened_of, no_payload, payload_of, required_of, shape_of}
use Rattle.schemagen_json.specs.Members.{has_only}
use Rattle.schemagen_shapes.specs.Forms.{needed_member, optional_member, read_list, field_names, number_in, notes_in, required, required_in, fields_in, all_flattened_in, variant_keys, payload_in, internal_names, adjacent_names}
use Rattle.schemagen_input.specs.Input.{row_names}
use Rattle.schemagen_shapes.specs.Shapes.{shape_in}
use Rattle.schemagen_input.specs.declared.tokens.enums.EnumMembers.{EnumMembers}
use Rattle.schemagen_input.specs.declared.tokens.field.FieldMembers.{FieldMembers}
use Rattle.schemagen_input.specs.declared.tokens.fields.StructMembers.{StructMembers}
use Rattle.schemagen_input.specs.declared.tokens.row.RowMembers.{RowMembers}
use Rattle.schemagen_input.specs.declared.tokens.tagged.TaggedMembers.{TaggedMembers}
use Rattle.schemagen_input.specs.declared.tokens.tagged.TaggedMembers.TheVariants.{Empty, Lone, Several}
use Rattle.schemagen_input.specs.declared.tokens.variant.VariantMembers.{VariantMembers}

-- This is what the members of an object say of a field, and whether they have only its names.
pub record AreOfField (m : FieldMembers) (d : Data) : Type 0 where
  pub only : m.only ≡ has_only field_names d
  pub name : option_map string_bytes m.name ≡ needed_member as_str (codes "name") d
  pub ty : m.ty ≡ needed_member number_in (codes "type") d
  pub need : option_map required_of m.required ≡ optional_member (required true true) required_in (codes "required") d
  pub notes : option_map (λ n. members_view n.entries) m.notes ≡ notes_in d

-- of a struct
pub record AreOfStruct (m : StructMembers) (d : Data) : Type 0 where
  pub only : m.only ≡ has_only (codes "fields" ∷ codes "flatten" ∷ codes "closed" ∷ []) d
  pub list : option_map (λ v. map field_of v.items) m.list ≡ fields_in d
  pub flatten : option_map (λ v. map flattened_of v.items) m.flatten ≡ all_flattened_in d
  pub closed : m.closed ≡ optional_member false as_bool (codes "closed") d

-- of a variant
pub record AreOfVariant (m : VariantMembers) (d : Data) : Type 0 where
  pub only : m.only ≡ has_only variant_keys d
  pub name : option_map string_bytes m.name ≡ needed_member as_str (codes "name") d
  pub notes : option_map (λ n. members_view n.entries) m.notes ≡ notes_in d
  pub payload : option_map payload_of m.payload ≡ optional_member no_payload payload_in (codes "payload") d

-- of an enum, whose variants say this each
pub record AreOfEnum {V W : Type 0} (variant_of : V → W) (says : Data → Option W) (m : EnumMembers V) (d : Data) : Type 0 where
  pub adjacent : m.adjacent ≡ has_only adjacent_names d
  pub internal : m.internal ≡ has_only internal_names d
  pub plain : m.plain ≡ has_only (codes "variants" ∷ []) d
  pub tag : option_map string_bytes m.tag ≡ needed_member as_str (codes "tag") d
  pub content : option_map string_bytes m.content ≡ needed_member as_str (codes "content") d
  pub closed : m.closed ≡ optional_member false as_bool (codes "closed") d
  pub variants : option_map (λ v. map variant_of v.items) m.variants ≡ read_list says (codes "variants") d

-- of a row
pub record AreOfRow (m : RowMembers) (d : Data) : Type 0 where
  pub only : m.only ≡ has_only row_names d
  pub id : option_map string_bytes m.id ≡ needed_member as_str (codes "id") d
  pub name : option_map string_bytes m.name ≡ needed_member as_str (codes "name") d
  pub inline : m.inline ≡ optional_member false as_bool (codes "inline") d
  pub notes : option_map (λ n. members_view n.entries) m.notes ≡ notes_in d
  pub shape : option_map shape_of m.shape ≡ needed_member shape_in (codes "shape") d

-- ---- one member

-- two names at least
abbrev pub AreSeveral : Members → Type 0
AreSeveral no_members = ⊥
AreSeveral (member k d no_members) = ⊥
AreSeveral (member k d (member l e ms)) = ⊤

-- whether there is one name alone, and what the member of that name says
abbrev pub AreOfTagged : {T V : Type 0} → (T → V) → (Text → Data → Option V) → TaggedMembers T → Members → Type 0
AreOfTagged value_of says Empty ms = ms ≡ no_members
AreOfTagged value_of says (Lone name said) ms =
    (d : Data) × (ms ≡ member name.now d no_members) × (option_map value_of said ≡ says name.now d)
AreOfTagged value_of says Several ms = AreSeveral ms

-- whether a member of this name leaves one name alone
abbrev pub can_be_lone : {T : Type 0} → Text → TaggedMembers T → Bool
can_be_lone name Empty = true
can_be_lone name (Lone lone said) = bytes_eq lone.now name
can_be_lone name Several = false
