-- Tables with enums and Options among what is flattened, computed: what belongs, what the documents are, and what they accept.
use Rattle.std.proofs.Common.{◌≡◌, ℕ, zero, suc, List, [], ◌∷◌, Some, true, false, refl}
use Rattle.schemars_meaning.proofs.Words.{codes, Data, null, boolean, number, string, array, object, item, no_items, Members, no_members, Yes, No, Dialect, draft2020_12, Shape, Flattened, Fields, Variant, no_payload, newtype_payload, needed, Row, type_alone, flattened_part, filled, struct_template, external_template, IsPlainUnder, unsigned, draft2019_09, accepts, entry, Required, in_place, always, belongs, String, read_data, all_keywords, follow, forms, fields_within, enums_within, belongs_within, choices_within}
use Rattle.schemars_shapes.specs.Shape as shape
use Rattle.schemars_types.specs.declared.contract.Contract.{Contract}
use Rattle.schemars_types.specs.declared.contract.Contract.TheVariants.{Deserialize, Serialize}

row : String → Shape → Row
row name s = record { id = codes name; name = codes name; entry = Some (in_place s) }

variant : String → shape.Payload → Variant
variant name p = record { name = codes name; payload = p; notes = no_members }

never : Required
never = record { deserialize = false; serialize = false }

part : ℕ → Required → Flattened
part n r = record { ty = n; required = r }

-- a closed struct with `a`, into which an enum of one newtype variant is flattened
e_variants : List Variant
e_variants = variant "V" (newtype_payload 0) ∷ []

outer : Fields
outer = record { list = needed (codes "a") 0 ∷ []; flatten = part 1 always ∷ []; closed = true }

first : List Row
first = row "boolean" shape.bool ∷ row "E" (shape.enum shape.by_name e_variants) ∷ row "Outer" (shape.struct outer) ∷ []

whole_value : Data
whole_value = object (entry "V" (boolean false) (entry "a" (boolean true) no_members))

without_variant : Data
without_variant = object (entry "a" (boolean true) no_members)

with_another : Data
with_another = object (entry "V" (boolean false) (entry "a" (boolean true) (entry "z" (number (unsigned 1)) no_members)))

belongs-first : (belongs first Deserialize [] 2 whole_value ≡ true) × (belongs first Deserialize [] 2 without_variant ≡ false)
    × (belongs first Deserialize [] 2 with_another ≡ false)
unfolding row variant part e_variants outer first whole_value without_variant with_another belongs_within choices_within fields_within enums_within
belongs-first = (refl, refl, refl)

boolean_document : Data
boolean_document = type_alone (codes "boolean")

first_document : Data
first_document = filled (struct_template Deserialize outer)
    (boolean_document ∷ flattened_part false (filled (external_template Deserialize e_variants) (boolean_document ∷ [])) ∷ [])

document-first : first_document ≡ object (
    entry "oneOf" (array (item (object (entry "properties" (object (entry "V" boolean_document no_members))
    (entry "required" (array (item (string (codes "V")) no_items)) (entry "type" (string (codes "object")) no_members)))) no_items))
    (entry "properties" (object (entry "a" boolean_document no_members))
    (entry "required" (array (item (string (codes "a")) no_items)) (entry "type" (string (codes "object"))
    (entry "unevaluatedProperties" (boolean false) no_members)))))
unfolding variant part e_variants outer boolean_document first_document forms
document-first = refl

Judged : Dialect → Type 0
Judged d =
    (accepts d first_document [] 0 first_document whole_value ≡ Yes) × (accepts d first_document [] 0 first_document without_variant ≡ No)
    × (accepts d first_document [] 0 first_document with_another ≡ No)

accepts-first : Judged draft2020_12 × Judged draft2019_09
unfolding variant part e_variants outer boolean_document first_document whole_value without_variant with_another forms read_data all_keywords follow Judged
accepts-first = ((refl, refl, refl), (refl, refl, refl))

-- an open struct without fields, into which an enum of two units is flattened
u_variants : List Variant
u_variants = variant "U" no_payload ∷ variant "V" no_payload ∷ []

bare : Fields
bare = record { list = []; flatten = part 0 always ∷ []; closed = false }

second : List Row
second = row "E" (shape.enum shape.by_name u_variants) ∷ row "O" (shape.struct bare) ∷ []

unit_there : String → Members → Data
unit_there k ms = object (entry k null ms)

belongs-second : (belongs second Serialize [] 1 (unit_there "U" no_members) ≡ true)
    × (belongs second Serialize [] 1 (object no_members) ≡ false)
    × (belongs second Serialize [] 1 (unit_there "U" (entry "V" null no_members)) ≡ false)
    × (belongs second Serialize [] 1 (unit_there "V" (entry "z" null no_members)) ≡ true)
unfolding row variant part u_variants bare second unit_there belongs_within choices_within fields_within enums_within
belongs-second = (refl, refl, refl, refl)

unit_document : String → Data
unit_document k = object (entry "properties" (object (entry k (type_alone (codes "null")) no_members))
    (entry "required" (array (item (string (codes k)) no_items)) (entry "type" (string (codes "object")) no_members)))

document-second : filled (struct_template Serialize bare) (flattened_part false (filled (external_template Serialize u_variants) []) ∷ [])
    ≡ object (entry "oneOf" (array (item (unit_document "U") (item (unit_document "V") no_items)))
    (entry "type" (string (codes "object")) no_members))
unfolding variant part u_variants bare unit_document forms
document-second = refl

-- an open struct with `a`, into which an Option of an open struct is flattened that need not be there
inner : Fields
inner = record { list = needed (codes "x") 0 ∷ []; flatten = []; closed = false }

with_option : Fields
with_option = record { list = needed (codes "a") 0 ∷ []; flatten = part 2 never ∷ []; closed = false }

third : List Row
third = row "boolean" shape.bool ∷ row "S" (shape.struct inner) ∷ row "N" (shape.option 1) ∷ row "O" (shape.struct with_option) ∷ []

belongs-third : (belongs third Deserialize [] 3 without_variant ≡ true)
    × (belongs third Deserialize [] 3 (object (entry "a" (boolean true) (entry "x" (boolean false) no_members))) ≡ true)
    × (belongs third Deserialize [] 3 (object (entry "a" (boolean true) (entry "x" null no_members))) ≡ false)
    × (belongs third Deserialize [] 3 (object (entry "x" (boolean true) no_members)) ≡ false)
unfolding row part never inner with_option third without_variant belongs_within choices_within fields_within enums_within
belongs-third = (refl, refl, refl, refl)

document-third : filled (struct_template Deserialize with_option)
    (boolean_document ∷ flattened_part true (filled (struct_template Deserialize inner) (boolean_document ∷ [])) ∷ [])
    ≡ object (entry "properties" (object (entry "a" boolean_document (entry "x" boolean_document no_members)))
    (entry "required" (array (item (string (codes "a")) no_items)) (entry "type" (string (codes "object")) no_members)))
unfolding part never inner with_option boolean_document forms
document-third = refl

-- these tables are plain, the first under each contract
plain-first : (contract : Contract) → IsPlainUnder contract first
unfolding row variant part e_variants outer first fields_within enums_within
plain-first Deserialize zero = (tt, tt, tt, tt, tt)
plain-first Deserialize (suc zero) = (tt, ((tt, tt), (tt, tt, tt)), (tt, tt), tt, tt)
plain-first Deserialize (suc (suc zero)) =
    (tt, ((tt, tt), (tt, tt)), (((refl, tt), tt), tt, tt), ((refl, tt, (tt, tt)), tt), tt)
plain-first Deserialize (suc (suc (suc n))) = tt
plain-first Serialize zero = (tt, tt, tt, tt, tt)
plain-first Serialize (suc zero) = (tt, ((tt, tt), (tt, tt, tt)), (tt, tt), tt, tt)
plain-first Serialize (suc (suc zero)) =
    (tt, ((tt, tt), (tt, tt)), (((refl, tt), tt), tt, tt), ((refl, tt, (tt, tt)), tt), tt)
plain-first Serialize (suc (suc (suc n))) = tt

plain-third : IsPlainUnder Deserialize third
unfolding row part never inner with_option third fields_within enums_within
plain-third zero = (tt, tt, tt, tt, tt)
plain-third (suc zero) = (tt, ((tt, tt), (tt, tt)), tt, tt, tt)
plain-third (suc (suc zero)) = (tt, tt, tt, tt, tt)
plain-third (suc (suc (suc zero))) = (tt, (((refl, tt), (tt, tt)), (tt, (tt, tt))), tt, ((refl, λ e. refl), tt), tt)
plain-third (suc (suc (suc (suc n)))) = tt
