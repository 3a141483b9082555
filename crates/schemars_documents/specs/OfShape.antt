-- The document of each shape, as a template.
use Rattle.std.specs.Prelude.{ℕ, zero, suc, List, [], ◌∷◌, ◌++◌, length, map, filter, Bool, true, false, not, Option, Some, None, if◌then◌else◌, codes, bytes_eq}
use Rattle.serde_json.specs.Data.{Data, boolean, number, array}
use Rattle.schemars_schema.specs.Json.{Text}
use Rattle.schemars_schema.specs.SchemaData.{is_schema}
use Rattle.schemars_builders.specs.NullLaw.{text_items}
use Rattle.schemars_builders.specs.Variants.{unit_variant}
use Rattle.schemars_shapes.specs.Shape as shape
use Rattle.schemars_shapes.specs.Shape.{Shape, Field, Flattened, Fields, Entry, Tagging, Variant, Payload, no_payload, newtype_payload, tuple_payload, struct_payload}
use Rattle.schemars_types.specs.declared.contract.Contract.{Contract}
use Rattle.schemars_types.specs.Meaning.{is_required}
use Rattle.schemars_types.specs.KeyOptions.{KeyOptions, keys, key_options}
use Rattle.schemars_shapes.specs.declared.shape.IntegerKeys.{IntegerKeys}
use Rattle.schemars_shapes.specs.IntegerKeys.{pattern_of}
use Rattle.schemars_shapes.specs.Units.{is_bare_unit}
use Rattle.schemars_templates.specs.Finished.{type_alone, title_alone}
use Rattle.schemars_documents.specs.Documents.{int_document, non_zero_document, char_document, formatted_document, empty_list_document, bytes_document, schema_document, required_names}
use Rattle.schemars_templates.specs.Template.{Template, Ask, finished, asked, row, list, nullable, noted, with_keywords, tagged, members_of, content}
use Rattle.schemars_templates.specs.Nodes.{KeywordTemplate, templates_of, object_with, said, typed_template, count_template, properties_at, map_template, one_of_template, any_of_template, member_template, whole_template}
use Rattle.schemars_documents.specs.Basis.{Basis}

-- ---- lists

-- a list with these items, and what else is said of it
abbrev pub list_template : ℕ → List KeywordTemplate → Template
list_template n rest = object_with (typed_template (codes "array") ∷ (codes "items", row n) ∷ rest)

abbrev pub set_template : ℕ → Template
set_template n = list_template n (said (codes "uniqueItems") (boolean true) ∷ [])

abbrev pub up_to_template : ℕ → ℕ → Template
up_to_template n cap = list_template n (count_template (codes "maxItems") cap ∷ [])

abbrev pub exactly : ℕ → List KeywordTemplate
exactly n = count_template (codes "minItems") n ∷ count_template (codes "maxItems") n ∷ []

-- a list of no items is so whatever they would be
abbrev pub array_template : ℕ → ℕ → Template
array_template n zero = finished empty_list_document
array_template n (suc len) = list_template n (exactly (suc len))

-- a list of one item for each part
abbrev pub tuple_template : List ℕ → Template
tuple_template [] = finished empty_list_document
tuple_template (n ∷ ns) =
    object_with (typed_template (codes "array") ∷ (codes "prefixItems", list (templates_of (map row (n ∷ ns)))) ∷ exactly (length (n ∷ ns)))

-- ---- structs

abbrev pub property : Field → KeywordTemplate
property x = (x.name, noted x.notes (row x.ty))

-- a map with these fields
abbrev pub fields_template : Contract → List Field → Bool → Template
fields_template contract xs closed = map_template (map property xs) (text_items (required_names contract xs)) closed

-- the request for the members of a flattened row
abbrev pub members_asked : Contract → Flattened → Ask
members_asked contract p = members_of p.ty (is_required contract p.required)

-- the members of flattened rows are added one after another
abbrev pub with_flattened : Contract → List Flattened → Template → Template
with_flattened contract [] t = t
with_flattened contract (p ∷ ps) t = with_flattened contract ps (with_keywords t (asked (members_asked contract p)))

abbrev pub struct_template : Contract → Fields → Template
struct_template contract x = with_flattened contract x.flatten (fields_template contract x.list x.closed)

-- ---- choices

abbrev pub result_template : ℕ → ℕ → Template
result_template t e = one_of_template (member_template false (codes "Ok") (row t) ∷ member_template false (codes "Err") (row e) ∷ [])

abbrev pub bound_template : ℕ → Template
bound_template n = one_of_template (member_template false (codes "Included") (row n) ∷ member_template false (codes "Excluded") (row n)
    ∷ finished (unit_variant (codes "Unbounded")) ∷ [])

abbrev pub range_template : ℕ → Template
range_template n = map_template ((codes "start", row n) ∷ (codes "end", row n) ∷ []) (text_items (codes "start" ∷ codes "end" ∷ [])) false

abbrev pub either_template : ℕ → ℕ → Template
either_template l r = one_of_template (member_template true (codes "Left") (row l) ∷ member_template true (codes "Right") (row r) ∷ [])

-- ---- enums

abbrev pub payload_template : Contract → Payload → Template
payload_template contract no_payload = finished (type_alone (codes "null"))
payload_template contract (newtype_payload n) = row n
payload_template contract (tuple_payload ns) = tuple_template ns
payload_template contract (struct_payload x) = struct_template contract x

-- a unit by its name, and another payload under that name alone
abbrev pub named_template : Contract → Text → Payload → Template
named_template contract name no_payload = finished (unit_variant name)
named_template contract name (newtype_payload n) = member_template true name (payload_template contract (newtype_payload n))
named_template contract name (tuple_payload ns) = member_template true name (payload_template contract (tuple_payload ns))
named_template contract name (struct_payload x) = member_template true name (payload_template contract (struct_payload x))

-- units without notes share one item
abbrev pub bare_units : List Variant → List Text
bare_units [] = []
bare_units (x ∷ xs) = if is_bare_unit x then x.name ∷ bare_units xs else bare_units xs

abbrev pub other_items : Contract → List Variant → List Template
other_items contract [] = []
other_items contract (x ∷ xs) =
    if is_bare_unit x then other_items contract xs else noted x.notes (named_template contract x.name x.payload) ∷ other_items contract xs

abbrev pub units_template : List Text → Template
units_template ks = object_with (typed_template (codes "string") ∷ said (codes "enum") (array (text_items ks)) ∷ [])

-- the shared item comes first, and is the whole choice if there is no other
abbrev pub choice_of : List Text → List Template → Template
choice_of [] [] = finished (boolean false)
choice_of [] (t ∷ ts) = one_of_template (t ∷ ts)
choice_of (k ∷ ks) [] = units_template (k ∷ ks)
choice_of (k ∷ ks) (t ∷ ts) = one_of_template (units_template (k ∷ ks) ∷ t ∷ ts)

abbrev pub external_template : Contract → List Variant → Template
external_template contract xs = choice_of (bare_units xs) (other_items contract xs)

abbrev pub titled : Bool → Text → Template → Template
titled false name t = t
titled true name t = noted (title_alone name) t

abbrev pub payload_item : Contract → Bool → Variant → Template
payload_item contract titles x = noted x.notes (titled titles x.name (payload_template contract x.payload))

-- a variant may have its name as title; its notes come after that
abbrev pub untagged_template : Contract → Bool → List Variant → Template
untagged_template contract titles [] = finished (boolean false)
untagged_template contract titles (x ∷ xs) = any_of_template (map (payload_item contract titles) (x ∷ xs))

-- the content beside a tag; null if there is nothing
abbrev pub content_template : Contract → Payload → Template
content_template contract no_payload = finished (type_alone (codes "null"))
content_template contract (newtype_payload n) = asked (content n)
content_template contract (tuple_payload ns) = tuple_template ns
content_template contract (struct_payload x) = struct_template contract x

abbrev pub internal_item : Contract → Text → Bool → Variant → Template
internal_item contract tag closed x = noted x.notes (tagged tag x.name closed (content_template contract x.payload))

abbrev pub internal_template : Contract → Text → Bool → List Variant → Template
internal_template contract tag closed [] = finished (boolean false)
internal_template contract tag closed (x ∷ xs) = one_of_template (map (internal_item contract tag closed) (x ∷ xs))

-- the content beside the name, under its key: nothing for a unit
abbrev pub adjacent_payload : Contract → Text → Payload → List KeywordTemplate
adjacent_payload contract key no_payload = []
adjacent_payload contract key (newtype_payload n) = (key, row n) ∷ []
adjacent_payload contract key (tuple_payload ns) = (key, tuple_template ns) ∷ []
adjacent_payload contract key (struct_payload x) = (key, struct_template contract x) ∷ []

abbrev pub adjacent_item : Contract → Text → Text → Bool → Variant → Template
adjacent_item contract tag key closed x =
    noted x.notes (whole_template (said tag (unit_variant x.name) ∷ adjacent_payload contract key x.payload) closed)

abbrev pub adjacent_template : Contract → Text → Text → Bool → List Variant → Template
adjacent_template contract tag key closed [] = finished (boolean false)
adjacent_template contract tag key closed (x ∷ xs) =
    one_of_template (map (adjacent_item contract tag key closed) (x ∷ xs))

abbrev pub enum_template : Basis → Tagging → List Variant → Template
enum_template basis shape.by_name xs = external_template basis.contract xs
enum_template basis shape.by_nothing xs = untagged_template basis.contract basis.titles xs
enum_template basis (shape.by_tag tag closed) xs = internal_template basis.contract tag closed xs
enum_template basis (shape.by_tag_and_content tag key closed) xs = adjacent_template basis.contract tag key closed xs

-- ---- maps

-- that of whole numbers first, and once
abbrev pub all_patterns : Option IntegerKeys → List Text → List Text
all_patterns None ps = ps
all_patterns (Some kind) ps = pattern_of kind ∷ filter (λ p. not (bytes_eq p (pattern_of kind))) ps

abbrev pub values_of : ℕ → List Text → List KeywordTemplate
values_of value ks = map (λ k. (k, row value)) ks

abbrev pub pattern_properties_at : List KeywordTemplate → List KeywordTemplate
pattern_properties_at [] = []
pattern_properties_at (e ∷ es) = (codes "patternProperties", object_with (e ∷ es)) ∷ []

-- of a key that is not listed and matches no pattern
abbrev pub other_values : Bool → ℕ → Template
other_values true value = row value
other_values false value = finished (boolean false)

-- a map with the keys that are allowed, and values of this row
abbrev pub values_template : KeyOptions → ℕ → Template
values_template (keys others texts integers patterns) value =
    object_with (typed_template (codes "object") ∷ (codes "additionalProperties", other_values others value)
    ∷ (pattern_properties_at (values_of value (all_patterns integers patterns))
    ++ properties_at (values_of value texts)))

-- a literal is its own document; each is a schema
abbrev pub literal_document : Data → Data
literal_document d = if is_schema d then d else boolean true

-- ---- by shape

abbrev pub template_of : Basis → Shape → Template
template_of basis shape.null = finished (type_alone (codes "null"))
template_of basis shape.bool = finished (type_alone (codes "boolean"))
template_of basis (shape.int kind) = finished (int_document kind)
template_of basis (shape.non_zero kind) = finished (non_zero_document kind)
template_of basis shape.number = finished (type_alone (codes "number"))
template_of basis shape.text = finished (type_alone (codes "string"))
template_of basis shape.char = finished char_document
template_of basis (shape.formatted format) = finished (formatted_document format)
template_of basis shape.any = finished (boolean true)
template_of basis shape.bytes = finished (bytes_document basis.contract)
template_of basis shape.schema_itself = finished schema_document
template_of basis (shape.option n) = nullable (row n)
template_of basis (shape.seq n) = list_template n []
template_of basis (shape.set n) = set_template n
template_of basis (shape.array n len) = array_template n len
template_of basis (shape.up_to n cap) = up_to_template n cap
template_of basis (shape.tuple ns) = tuple_template ns
template_of basis (shape.struct x) = struct_template basis.contract x
template_of basis (shape.newtype n) = row n
template_of basis (shape.result t e) = result_template t e
template_of basis (shape.bound n) = bound_template n
template_of basis (shape.range n) = range_template n
template_of basis (shape.either l r) = either_template l r
template_of basis (shape.map_from key value) = values_template (key_options basis.rows key) value
template_of basis (shape.enum tagging xs) = enum_template basis tagging xs
template_of basis (shape.literal d) = finished (literal_document d)

-- a row's document, with its notes
abbrev pub entry_template : Basis → Entry → Template
entry_template basis e = noted e.notes (template_of basis e.shape)
