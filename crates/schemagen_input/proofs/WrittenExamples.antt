-- Texts that are the JSON of tables.
use Rattle.std.proofs.Common.{◌≡◌, [], ◌∷◌, true, false, Some, codes, refl}
use Rattle.schemagen_input.proofs.Words.{read, serde_json_on_literals, Text, boolean, string, no_members, member, Shape, Field, Fields, Variant, without_notes, newtype_payload, int, struct, enum, by_tag, by_tag_and_content, literal, Row, required, json_of}
use Rattle.schemars_shapes.specs.declared.shape.IntKind.TheVariants.{U8}
use Rattle.schemars_shapes.specs.Shape.{array}

-- a row that has its name for an id
named : Text → Shape → Row
named name shape = record { id = name; name = name; entry = Some (without_notes false shape) }

bytes_of_a_number : read
    (codes "{\"root\":1,\"types\":[{\"id\":\"n\",\"inline\":false,\"name\":\"n\",\"notes\":{},\"shape\":{\"int\":\"u8\"}},{\"id\":\"b\",\"inline\":false,\"name\":\"b\",\"notes\":{},\"shape\":{\"array\":{\"len\":4,\"of\":0}}}]}")
    ≡ Some (json_of (named (codes "n") (int U8) ∷ named (codes "b") (array 0 4) ∷ []) 1)
unfolding serde_json_on_literals named
bytes_of_a_number = refl

noted_field : Field
noted_field =
    record {
      name = codes "f";
      ty = 0;
      required = required false true;
      notes = member (codes "title") (string (codes "t")) no_members;
    }

closed_fields : Fields
closed_fields = record { list = noted_field ∷ []; flatten = record { ty = 0; required = required true true } ∷ []; closed = true }

struct_of_a_literal : read
    (codes "{\"root\":1,\"types\":[{\"id\":\"l\",\"inline\":false,\"name\":\"l\",\"notes\":{},\"shape\":{\"literal\":true}},{\"id\":\"s\",\"inline\":false,\"name\":\"s\",\"notes\":{},\"shape\":{\"struct\":{\"closed\":true,\"fields\":[{\"name\":\"f\",\"notes\":{\"title\":\"t\"},\"required\":{\"deserialize\":false,\"serialize\":true},\"type\":0}],\"flatten\":[{\"required\":{\"deserialize\":true,\"serialize\":true},\"type\":0}]}}}]}")
    ≡ Some (json_of (named (codes "l") (literal (boolean true)) ∷ named (codes "s") (struct closed_fields) ∷ []) 1)
unfolding serde_json_on_literals named noted_field closed_fields
struct_of_a_literal = refl

tagged : Variant
tagged = record { name = codes "A"; payload = newtype_payload 0; notes = no_members }

variant_beside_a_tag : read
    (codes "{\"root\":0,\"types\":[{\"id\":\"e\",\"inline\":false,\"name\":\"e\",\"notes\":{},\"shape\":{\"internal\":{\"closed\":false,\"tag\":\"t\",\"variants\":[{\"name\":\"A\",\"notes\":{},\"payload\":{\"newtype\":0}}]}}}]}")
    ≡ Some (json_of (named (codes "e") (enum (by_tag (codes "t") false) (tagged ∷ [])) ∷ []) 0)
unfolding serde_json_on_literals named tagged
variant_beside_a_tag = refl

variant_under_two_keys : read
    (codes "{\"root\":0,\"types\":[{\"id\":\"e\",\"inline\":false,\"name\":\"e\",\"notes\":{},\"shape\":{\"adjacent\":{\"closed\":true,\"content\":\"c\",\"tag\":\"t\",\"variants\":[{\"name\":\"A\",\"notes\":{},\"payload\":{\"newtype\":0}}]}}}]}")
    ≡ Some (json_of (named (codes "e") (enum (by_tag_and_content (codes "t") (codes "c") true) (tagged ∷ [])) ∷ []) 0)
unfolding serde_json_on_literals named tagged
variant_under_two_keys = refl
