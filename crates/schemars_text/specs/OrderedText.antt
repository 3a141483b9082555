-- The text of a schema: compact JSON (RFC 8259) with the keywords of each schema object in a fixed order.
use Rattle.std.specs.Prelude.{List, [], ◌∷◌, ◌++◌, ◌||◌, Bool, true, false, not, if◌then◌else◌, filter, map, codes, bytes_eq, nat_eq}
use Rattle.std.specs.List.{starts_with}
use Rattle.json.specs.Print.{quoted}
use Rattle.serde_json.specs.Data.{Data, null, boolean, number, string, array, object, Items, no_items, item, Members, no_members, member}
use Rattle.serde_json.specs.Written.{compact_text, comma_if}
use Rattle.schemars_text.specs.Text.{Text}

-- the keywords that are written first, in this order
abbrev pub first_keywords : List Text
first_keywords = codes "$id" ∷ codes "$schema" ∷ codes "title" ∷ codes "description" ∷ codes "type" ∷ codes "format" ∷ codes "properties"
    ∷ []

-- and those that are written last
abbrev pub last_keywords : List Text
last_keywords = codes "$defs" ∷ codes "definitions" ∷ []

abbrev pub is_listed : Text → List Text → Bool
is_listed k [] = false
is_listed k (l ∷ ls) = bytes_eq k l || is_listed k ls

-- the values of these are plain JSON, and not schemas
abbrev pub holds_plain_json : Text → Bool
holds_plain_json k = is_listed k (codes "examples" ∷ codes "default" ∷ []) || starts_with nat_eq k (codes "x-")

-- the values of these are schemas by name
abbrev pub holds_named_schemas : Text → Bool
holds_named_schemas k = is_listed k (codes "properties" ∷ codes "patternProperties" ∷ codes "dependentSchemas" ∷ codes "$defs"
    ∷ codes "definitions" ∷ [])

-- how a value is written: as it is, as a schema, or as schemas by name
pub data Layout : Type 0 where
  PlainJson : Layout
  SchemaLayout : Layout
  NamedSchemas : Layout

-- how the value of a member is written, where its object is written in this way
abbrev pub layout_under : Layout → Text → Layout
layout_under PlainJson k = PlainJson
layout_under SchemaLayout k = if holds_plain_json k then PlainJson else (if holds_named_schemas k then NamedSchemas else SchemaLayout)
layout_under NamedSchemas k = SchemaLayout

-- and that of an item, where its list is
abbrev pub layout_inside : Layout → Layout
layout_inside PlainJson = PlainJson
layout_inside SchemaLayout = SchemaLayout
layout_inside NamedSchemas = SchemaLayout

-- a member's key and its text
pub record Written : Type 0 where
  pub key : Text
  pub text : Text

-- the member with this key, if there is one
abbrev pub written_at : Text → List Written → List Written
written_at k [] = []
written_at k (w ∷ ws) = if bytes_eq k w.key then w ∷ [] else written_at k ws

abbrev pub each_written_at : List Text → List Written → List Written
each_written_at [] ws = []
each_written_at (k ∷ ks) ws = written_at k ws ++ each_written_at ks ws

-- those that have no place of their own
abbrev pub others : List Written → List Written
others ws = filter (λ w. not (is_listed w.key first_keywords || is_listed w.key last_keywords)) ws

-- the members in the order in which they are written
abbrev pub arranged : Layout → List Written → List Written
arranged PlainJson ws = ws
arranged SchemaLayout ws = each_written_at first_keywords ws ++ (others ws ++ each_written_at last_keywords ws)
arranged NamedSchemas ws = ws

abbrev pub texts : List Written → List Text
texts ws = map (λ w. w.text) ws

-- texts with commas between them, and one before them if something is before them
abbrev pub with_commas : Bool → List Text → Text
with_commas later [] = []
with_commas later (t ∷ ts) = comma_if later ++ (t ++ with_commas true ts)

abbrev pub brackets : Text → Text
brackets t = 91 ∷ (t ++ 93 ∷ [])

abbrev pub braces : Text → Text
braces t = 123 ∷ (t ++ 125 ∷ [])

unfoldable mutual
  pub text_in : Layout → Data → Text
  text_in layout null = compact_text null
  text_in layout (boolean b) = compact_text (boolean b)
  text_in layout (number n) = compact_text (number n)
  text_in layout (string s) = compact_text (string s)
  text_in layout (array ds) = brackets (with_commas false (item_texts (layout_inside layout) ds))
  text_in layout (object ms) = braces (with_commas false (texts (arranged layout (member_texts layout ms))))

  pub item_texts : Layout → Items → List Text
  item_texts layout no_items = []
  item_texts layout (item d ds) = text_in layout d ∷ item_texts layout ds

  pub member_texts : Layout → Members → List Written
  member_texts layout no_members = []
  member_texts layout (member k d ms) = record { key = k; text = quoted k ++ 58 ∷ text_in (layout_under layout k) d }
      ∷ member_texts layout ms

-- the text of a schema
abbrev pub ordered_text : Data → Text
ordered_text d = text_in SchemaLayout d

abbrev pub object_text : Layout → Members → Text
object_text layout ms = text_in layout (object ms)

-- the text of definitions: schemas by name
abbrev pub definitions_text : Members → Text
definitions_text ms = object_text NamedSchemas ms
