-- What the definition of an input says of some texts.
use Rattle.std.proofs.Common.{◌≡◌, ℕ, List, [], ◌∷◌, true, false, Option, Some, None, option_and_then, codes, refl}
use Rattle.schemagen_input.proofs.Words.{read, serde_json_on_literals, Text, null, boolean, number, unsigned, string, array, no_items, item, Members, no_members, member, Shape, Field, Flattened, Fields, Required, bare_fields, without_notes, in_place, int, non_zero, formatted, char, any, option, seq, struct, enum, by_name, by_nothing, by_tag, Payload, Variant, no_payload, newtype_payload, tuple_payload, struct_payload, by_tag_and_content, Row, required, input_of}
use Rattle.schemars_shapes.specs.declared.shape.IntKind.TheVariants.{U8, I32, I128}

row : Text → Text → Shape → Row
row id name shape = record { id = id; name = name; entry = Some (in_place shape) }

-- a row that is referred to by its name
named : Text → Shape → Row
named name shape = record { id = name; name = name; entry = Some (without_notes false shape) }

field : Text → ℕ → Required → Field
field name ty need = record { name = name; ty = ty; required = need; notes = no_members }

variant : Text → Payload → Variant
variant name payload = record { name = name; payload = payload; notes = no_members }

titled : Members
titled = member (codes "title") (string (codes "t")) no_members

noted_unit : Text → Variant
noted_unit name = record { name = name; payload = no_payload; notes = titled }

noted_tuple : Text → List ℕ → Variant
noted_tuple name ns = record { name = name; payload = tuple_payload ns; notes = titled }

-- a field of the first row, with a note
noted_field : Field
noted_field = record { name = codes "b"; ty = 0; required = required true true; notes = titled }

-- the input that a text says
said : Text → Option (List Row × ℕ)
said text = option_and_then input_of (read text)

three_rows : said
    (codes "{\"types\":[{\"id\":\"uint8\",\"name\":\"uint8\",\"inline\":true,\"shape\":{\"int\":\"u8\"}},{\"id\":\"Option<uint8>\",\"name\":\"Nullable_uint8\",\"inline\":true,\"shape\":{\"option\":0}},{\"id\":\"[Option<uint8>]\",\"name\":\"Array_of_Nullable_uint8\",\"inline\":true,\"shape\":{\"seq\":1}}],\"root\":2}")
    ≡ Some (
      row (codes "uint8") (codes "uint8") (int U8) ∷ row (codes "Option<uint8>") (codes "Nullable_uint8") (option 0)
          ∷ row (codes "[Option<uint8>]") (codes "Array_of_Nullable_uint8") (seq 1) ∷ [],
      2,
    )
unfolding serde_json_on_literals said row
three_rows = refl

-- the order of members is free, and so is white space; of equal keys the last counts
members_move : said
    (codes " {\"root\":9, \"root\":0, \"types\":[ {\"shape\":{\"format\":\"ipv4\"}, \"notes\":{}, \"inline\":true, \"name\":\"\", \"id\":\"a\"} ]} ")
    ≡ Some (row (codes "a") [] (formatted (codes "ipv4")) ∷ [], 0)
unfolding serde_json_on_literals said row
members_move = refl

root_below : said
    (codes "{\"types\":[{\"id\":\"a\",\"name\":\"a\",\"inline\":true,\"shape\":{\"nonzero\":\"i128\"}},{\"id\":\"b\",\"name\":\"a\",\"inline\":true,\"shape\":\"char\"}],\"root\":0}")
    ≡ Some (row (codes "a") (codes "a") (non_zero I128) ∷ row (codes "b") (codes "a") char ∷ [], 0)
unfolding serde_json_on_literals said row
root_below = refl

-- a struct that refers to itself through its option
node : said
    (codes "{\"types\":[{\"id\":\"int32\",\"name\":\"int32\",\"inline\":true,\"shape\":{\"int\":\"i32\"}},{\"id\":\"Node\",\"name\":\"Node\",\"shape\":{\"struct\":{\"fields\":[{\"name\":\"value\",\"type\":0,\"required\":true},{\"name\":\"next\",\"type\":2,\"required\":false}]}}},{\"id\":\"Option<Node>\",\"name\":\"Nullable_Node\",\"inline\":true,\"shape\":{\"option\":1}}],\"root\":1}")
    ≡ Some (
      row (codes "int32") (codes "int32") (int I32) ∷ named (codes "Node")
          (struct (bare_fields (field (codes "value") 0 (required true true) ∷ field (codes "next") 2 (required false false) ∷ []) false))
          ∷ row (codes "Option<Node>") (codes "Nullable_Node") (option 1) ∷ [],
      1,
    )
unfolding serde_json_on_literals said row named field
node = refl

-- it is said for both contracts at once, or for each; a missing one is true
required_by_contract : said
    (codes "{\"types\":[{\"id\":\"a\",\"name\":\"a\",\"shape\":{\"struct\":{\"closed\":true,\"fields\":[{\"type\":0,\"name\":\"b\"},{\"name\":\"b\",\"type\":0,\"notes\":{},\"required\":{\"serialize\":true,\"deserialize\":false}}]}}}],\"root\":0}")
    ≡ Some (
      named (codes "a")
          (struct (bare_fields (field (codes "b") 0 (required true true) ∷ field (codes "b") 0 (required false true) ∷ []) true))
          ∷ [],
      0,
    )
unfolding serde_json_on_literals said named field
required_by_contract = refl

no_fields : said (codes "{\"types\":[{\"id\":\"a\",\"name\":\"a\",\"shape\":{\"struct\":{}}}],\"root\":0}")
    ≡ Some (named (codes "a") (struct (bare_fields [] false)) ∷ [], 0)
unfolding serde_json_on_literals said named
no_fields = refl

-- rows that are flattened; what is said of a field under `required` is said of them too
flattening : List Flattened → Fields
flattening rows = record { list = []; flatten = rows; closed = false }

flattened_row : ℕ → Required → Flattened
flattened_row n need = record { ty = n; required = need }

flattened_rows : said
    (codes "{\"types\":[{\"id\":\"a\",\"name\":\"a\",\"shape\":{\"struct\":{\"flatten\":[{\"type\":0},{\"type\":0,\"required\":{\"deserialize\":false,\"serialize\":true}}]}}}],\"root\":0}")
    ≡ Some (
      named (codes "a") (struct (flattening (flattened_row 0 (required true true) ∷ flattened_row 0 (required false true) ∷ []))) ∷ [],
      0,
    )
unfolding serde_json_on_literals said named flattening flattened_row
flattened_rows = refl

flattened_by_name : said
    (codes "{\"types\":[{\"id\":\"a\",\"name\":\"a\",\"shape\":{\"struct\":{\"flatten\":[{\"name\":\"b\",\"type\":0}]}}}],\"root\":0}")
    ≡ None
unfolding serde_json_on_literals said
flattened_by_name = refl

flattened_unknown : said
    (codes "{\"types\":[{\"id\":\"a\",\"name\":\"a\",\"shape\":{\"struct\":{\"flatten\":[{\"type\":1}]}}}],\"root\":0}") ≡ None
unfolding serde_json_on_literals said
flattened_unknown = refl

-- a row may refer to itself, and to a later one
any_row : said
    (codes "{\"types\":[{\"id\":\"a\",\"name\":\"a\",\"shape\":{\"seq\":1}},{\"id\":\"b\",\"name\":\"b\",\"shape\":{\"seq\":1}}],\"root\":0}")
    ≡ Some (named (codes "a") (seq 1) ∷ named (codes "b") (seq 1) ∷ [], 0)
unfolding serde_json_on_literals said named
any_row = refl

-- a variant is a unit where nothing else is said
unit_and_newtype : said
    (codes "{\"types\":[{\"id\":\"E\",\"name\":\"E\",\"shape\":{\"external\":{\"variants\":[{\"name\":\"A\"},{\"payload\":{\"newtype\":0},\"notes\":{},\"name\":\"B\"}]}}}],\"root\":0}")
    ≡ Some (named (codes "E") (enum by_name (variant (codes "A") no_payload ∷ variant (codes "B") (newtype_payload 0) ∷ [])) ∷ [], 0)
unfolding serde_json_on_literals said named variant
unit_and_newtype = refl

other_payloads : said
    (codes "{\"types\":[{\"id\":\"E\",\"name\":\"E\",\"shape\":{\"untagged\":{\"variants\":[{\"name\":\"A\",\"payload\":\"unit\"},{\"name\":\"B\",\"payload\":{\"tuple\":[0,0]}},{\"name\":\"C\",\"payload\":{\"struct\":{\"closed\":true,\"fields\":[{\"name\":\"b\",\"type\":0}]}}}]}}}],\"root\":0}")
    ≡ Some (
      named (codes "E") (enum by_nothing (
          variant (codes "A") no_payload ∷ variant (codes "B") (tuple_payload (0 ∷ 0 ∷ []))
          ∷ variant (codes "C") (struct_payload (bare_fields (field (codes "b") 0 (required true true) ∷ []) true)) ∷ [])) ∷ [],
      0,
    )
unfolding serde_json_on_literals said named field variant
other_payloads = refl

no_variants : said (codes "{\"types\":[{\"id\":\"E\",\"name\":\"E\",\"shape\":{\"untagged\":{}}}],\"root\":0}")
    ≡ Some (named (codes "E") (enum by_nothing []) ∷ [], 0)
unfolding serde_json_on_literals said named
no_variants = refl

-- beside a tag stand units and structs; units are open where nothing else is said
tagged_variants : said
    (codes "{\"types\":[{\"id\":\"E\",\"name\":\"E\",\"shape\":{\"internal\":{\"tag\":\"t\",\"variants\":[{\"name\":\"A\"},{\"name\":\"B\",\"payload\":{\"struct\":{\"closed\":true,\"fields\":[{\"name\":\"b\",\"type\":0}]}}}]}}}],\"root\":0}")
    ≡ Some (
      named (codes "E") (enum (by_tag (codes "t") false) (
          variant (codes "A") no_payload
          ∷ variant (codes "B") (struct_payload (bare_fields (field (codes "b") 0 (required true true) ∷ []) true)) ∷ [])) ∷ [],
      0,
    )
unfolding serde_json_on_literals said named field variant
tagged_variants = refl

closed_tagged : said
    (codes "{\"types\":[{\"id\":\"E\",\"name\":\"E\",\"shape\":{\"internal\":{\"tag\":\"t\",\"closed\":true}}}],\"root\":0}")
    ≡ Some (named (codes "E") (enum (by_tag (codes "t") true) []) ∷ [], 0)
unfolding serde_json_on_literals said named
closed_tagged = refl

tagged_without_a_tag : said
    (codes "{\"types\":[{\"id\":\"E\",\"name\":\"E\",\"shape\":{\"internal\":{\"variants\":[{\"name\":\"A\"}]}}}],\"root\":0}") ≡ None
unfolding serde_json_on_literals said
tagged_without_a_tag = refl

tagged_newtype : said
    (codes "{\"types\":[{\"id\":\"E\",\"name\":\"E\",\"shape\":{\"internal\":{\"tag\":\"t\",\"variants\":[{\"name\":\"A\",\"payload\":{\"newtype\":0}}]}}}],\"root\":0}")
    ≡ Some (named (codes "E") (enum (by_tag (codes "t") false) (variant (codes "A") (newtype_payload 0) ∷ [])) ∷ [], 0)
unfolding serde_json_on_literals said named variant
tagged_newtype = refl

tagged_tuple : said
    (codes "{\"types\":[{\"id\":\"E\",\"name\":\"E\",\"shape\":{\"internal\":{\"tag\":\"t\",\"variants\":[{\"name\":\"A\",\"payload\":{\"tuple\":[]}}]}}}],\"root\":0}") ≡ None
unfolding serde_json_on_literals said
tagged_tuple = refl

-- under the second key stands any payload; other keys are allowed where nothing else is said
adjacent_variants : said
    (codes "{\"types\":[{\"id\":\"E\",\"name\":\"E\",\"shape\":{\"adjacent\":{\"tag\":\"t\",\"content\":\"c\",\"variants\":[{\"name\":\"A\"},{\"name\":\"B\",\"payload\":{\"tuple\":[0,0]},\"notes\":{\"title\":\"t\"}},{\"name\":\"C\",\"payload\":{\"struct\":{\"fields\":[{\"name\":\"t\",\"type\":0}]}}}]}}}],\"root\":0}")
    ≡ Some (
      named (codes "E") (enum (by_tag_and_content (codes "t") (codes "c") false) (
          variant (codes "A") no_payload ∷ noted_tuple (codes "B") (0 ∷ 0 ∷ [])
          ∷ variant (codes "C") (struct_payload (bare_fields (field (codes "t") 0 (required true true) ∷ []) false)) ∷ [])) ∷ [],
      0,
    )
unfolding serde_json_on_literals said named field variant noted_tuple titled
adjacent_variants = refl

-- one text for both keys is read here, and refused by the table
adjacent_by_one_key : said
    (codes "{\"types\":[{\"id\":\"E\",\"name\":\"E\",\"shape\":{\"adjacent\":{\"tag\":\"t\",\"content\":\"t\",\"closed\":true}}}],\"root\":0}")
    ≡ Some (named (codes "E") (enum (by_tag_and_content (codes "t") (codes "t") true) []) ∷ [], 0)
unfolding serde_json_on_literals said named
adjacent_by_one_key = refl

adjacent_without_content : said
    (codes "{\"types\":[{\"id\":\"E\",\"name\":\"E\",\"shape\":{\"adjacent\":{\"tag\":\"t\",\"variants\":[{\"name\":\"A\"}]}}}],\"root\":0}") ≡ None
unfolding serde_json_on_literals said
adjacent_without_content = refl

adjacent_without_a_tag : said
    (codes "{\"types\":[{\"id\":\"E\",\"name\":\"E\",\"shape\":{\"adjacent\":{\"content\":\"c\",\"variants\":[{\"name\":\"A\"}]}}}],\"root\":0}") ≡ None
unfolding serde_json_on_literals said
adjacent_without_a_tag = refl

content_key_as_a_number : said (codes "{\"types\":[{\"id\":\"E\",\"name\":\"E\",\"shape\":{\"adjacent\":{\"tag\":\"t\",\"content\":0}}}],\"root\":0}") ≡ None
unfolding serde_json_on_literals said
content_key_as_a_number = refl

another_member_beside_a_content : said
    (codes "{\"types\":[{\"id\":\"E\",\"name\":\"E\",\"shape\":{\"adjacent\":{\"tag\":\"t\",\"content\":\"c\",\"open\":true}}}],\"root\":0}") ≡ None
unfolding serde_json_on_literals said
another_member_beside_a_content = refl

content_of_no_row : said
    (codes "{\"types\":[{\"id\":\"E\",\"name\":\"E\",\"shape\":{\"adjacent\":{\"tag\":\"t\",\"content\":\"c\",\"variants\":[{\"name\":\"A\",\"payload\":{\"newtype\":1}}]}}}],\"root\":0}") ≡ None
unfolding serde_json_on_literals said
content_of_no_row = refl

another_member_of_a_variant : said
    (codes "{\"types\":[{\"id\":\"E\",\"name\":\"E\",\"shape\":{\"external\":{\"variants\":[{\"name\":\"A\",\"type\":0}]}}}],\"root\":0}")
    ≡ None
unfolding serde_json_on_literals said
another_member_of_a_variant = refl

unknown_payload : said
    (codes "{\"types\":[{\"id\":\"E\",\"name\":\"E\",\"shape\":{\"external\":{\"variants\":[{\"name\":\"A\",\"payload\":\"none\"}]}}}],\"root\":0}") ≡ None
unfolding serde_json_on_literals said
unknown_payload = refl

variant_with_notes : said
    (codes "{\"types\":[{\"id\":\"E\",\"name\":\"E\",\"shape\":{\"external\":{\"variants\":[{\"name\":\"A\",\"notes\":{\"title\":\"t\"}}]}}}],\"root\":0}")
    ≡ Some (named (codes "E") (enum by_name (noted_unit (codes "A") ∷ [])) ∷ [], 0)
unfolding serde_json_on_literals said named noted_unit titled
variant_with_notes = refl

field_of_a_variant_with_notes : said
    (codes "{\"types\":[{\"id\":\"E\",\"name\":\"E\",\"shape\":{\"untagged\":{\"variants\":[{\"name\":\"A\",\"payload\":{\"struct\":{\"fields\":[{\"name\":\"b\",\"type\":0,\"notes\":{\"title\":\"t\"}}]}}}]}}}],\"root\":0}")
    ≡ Some (named (codes "E") (enum by_nothing (variant (codes "A") (struct_payload (bare_fields (noted_field ∷ []) false)) ∷ [])) ∷ [], 0)
unfolding serde_json_on_literals said named variant noted_field titled
field_of_a_variant_with_notes = refl

tagged_variant_with_notes : said
    (codes "{\"types\":[{\"id\":\"E\",\"name\":\"E\",\"shape\":{\"internal\":{\"tag\":\"t\",\"variants\":[{\"name\":\"A\",\"notes\":{\"title\":\"t\"}}]}}}],\"root\":0}")
    ≡ Some (named (codes "E") (enum (by_tag (codes "t") false) (noted_unit (codes "A") ∷ [])) ∷ [], 0)
unfolding serde_json_on_literals said named noted_unit titled
tagged_variant_with_notes = refl

notes_of_a_variant_in_a_list : said
    (codes "{\"types\":[{\"id\":\"E\",\"name\":\"E\",\"shape\":{\"external\":{\"variants\":[{\"name\":\"A\",\"notes\":[]}]}}}],\"root\":0}")
    ≡ None
unfolding serde_json_on_literals said
notes_of_a_variant_in_a_list = refl

variant_of_no_row : said
    (codes "{\"types\":[{\"id\":\"E\",\"name\":\"E\",\"shape\":{\"untagged\":{\"variants\":[{\"name\":\"A\",\"payload\":{\"newtype\":1}}]}}}],\"root\":0}") ≡ None
unfolding serde_json_on_literals said
variant_of_no_row = refl

required_by_one_contract : said
    (codes "{\"types\":[{\"id\":\"a\",\"name\":\"a\",\"shape\":{\"struct\":{\"fields\":[{\"name\":\"b\",\"type\":0,\"required\":{\"serialize\":true}}]}}}],\"root\":0}") ≡ None
unfolding serde_json_on_literals said
required_by_one_contract = refl

field_of_no_row : said
    (codes "{\"types\":[{\"id\":\"a\",\"name\":\"a\",\"shape\":{\"struct\":{\"fields\":[{\"name\":\"b\",\"type\":1}]}}}],\"root\":0}")
    ≡ None
unfolding serde_json_on_literals said
field_of_no_row = refl

field_with_notes : said
    (codes "{\"types\":[{\"id\":\"a\",\"name\":\"a\",\"shape\":{\"struct\":{\"fields\":[{\"name\":\"b\",\"type\":0,\"notes\":{\"title\":\"t\"}}]}}}],\"root\":0}")
    ≡ Some (named (codes "a") (struct (bare_fields (noted_field ∷ []) false)) ∷ [], 0)
unfolding serde_json_on_literals said named noted_field titled
field_with_notes = refl

notes_of_a_field_as_a_text : said
    (codes "{\"types\":[{\"id\":\"a\",\"name\":\"a\",\"shape\":{\"struct\":{\"fields\":[{\"name\":\"b\",\"type\":0,\"notes\":\"t\"}]}}}],\"root\":0}") ≡ None
unfolding serde_json_on_literals said
notes_of_a_field_as_a_text = refl

no_flattened_row : said
    (codes "{\"types\":[{\"id\":\"a\",\"name\":\"a\",\"shape\":{\"struct\":{\"fields\":[],\"flatten\":[]}}}],\"root\":0}")
    ≡ Some (named (codes "a") (struct (bare_fields [] false)) ∷ [], 0)
unfolding serde_json_on_literals said named
no_flattened_row = refl

no_rows : said (codes "{\"types\":[],\"root\":0}") ≡ None
unfolding serde_json_on_literals said
no_rows = refl

another_member : said (codes "{\"types\":[{\"id\":\"a\",\"name\":\"a\",\"inline\":true,\"shape\":\"any\"}],\"root\":0,\"more\":0}") ≡ None
unfolding serde_json_on_literals said
another_member = refl

another_member_of_a_row : said
    (codes "{\"types\":[{\"id\":\"a\",\"name\":\"a\",\"inline\":true,\"shape\":\"any\",\"closed\":true}],\"root\":0}") ≡ None
unfolding serde_json_on_literals said
another_member_of_a_row = refl

null_for_missing : said (codes "{\"types\":[{\"id\":\"a\",\"name\":\"a\",\"inline\":true,\"notes\":null,\"shape\":\"any\"}],\"root\":0}")
    ≡ None
unfolding serde_json_on_literals said
null_for_missing = refl

with_notes : said
    (codes "{\"types\":[{\"id\":\"a\",\"name\":\"a\",\"inline\":true,\"notes\":{\"title\":\"t\"},\"shape\":\"any\"}],\"root\":0}")
    ≡ Some (
      record {
        id = codes "a";
        name = codes "a";
        entry = Some (record { inline = true; notes = titled; shape = any });
      } ∷ [],
      0,
    )
unfolding serde_json_on_literals said titled
with_notes = refl

-- any members: a schema's keywords, values of all kinds, in the order of their names
other_notes : said
    (codes "{\"types\":[{\"id\":\"a\",\"name\":\"a\",\"notes\":{\"title\":null,\"$defs\":[true,3]},\"shape\":\"any\"}],\"root\":0}")
    ≡ Some (
      record {
        id = codes "a";
        name = codes "a";
        entry = Some (record {
          inline = false;
          notes = member (codes "$defs") (array (item (boolean true) (item (number (unsigned 3)) no_items)))
              (member (codes "title") null no_members);
          shape = any;
        });
      } ∷ [],
      0,
    )
unfolding serde_json_on_literals said
other_notes = refl

id_twice : said
    (codes "{\"types\":[{\"id\":\"a\",\"name\":\"a\",\"inline\":true,\"shape\":\"any\"},{\"id\":\"a\",\"name\":\"b\",\"inline\":true,\"shape\":\"any\"}],\"root\":0}") ≡ None
unfolding serde_json_on_literals said
id_twice = refl

number_of_no_row : said (codes "{\"types\":[{\"id\":\"a\",\"name\":\"a\",\"shape\":{\"seq\":1}}],\"root\":0}") ≡ None
unfolding serde_json_on_literals said
number_of_no_row = refl

float_number : said (codes "{\"types\":[{\"id\":\"a\",\"name\":\"a\",\"inline\":true,\"shape\":\"any\"}],\"root\":-0}") ≡ None
unfolding serde_json_on_literals said
float_number = refl

two_shapes : said
    (codes "{\"types\":[{\"id\":\"a\",\"name\":\"a\",\"inline\":true,\"shape\":{\"format\":\"f\",\"int\":\"u8\"}}],\"root\":0}") ≡ None
unfolding serde_json_on_literals said
two_shapes = refl

root_past_the_end : said (codes "{\"types\":[{\"id\":\"a\",\"name\":\"a\",\"inline\":true,\"shape\":\"any\"}],\"root\":1}") ≡ None
unfolding serde_json_on_literals said
root_past_the_end = refl
