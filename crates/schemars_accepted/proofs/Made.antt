-- How the entries of structs and enums are made, as their parts are added one after another: a term of one word for each call, in the
-- order of the calls, whose arguments are the calls' clauses.
use Rattle.std.proofs.Common.{◌≡◌, ℕ, List, [], ◌∷◌, ◌++◌, Bool, false, Option, Some, None, map, option_map, option_and_then, refl, sym, ap, ◌∙◌, append_assoc, append-nil}
use Rattle.schemars_accepted.proofs.RowWords.{Text, Field, Payload, no_payload, newtype_payload, tuple_payload, struct_payload, Variant, Tagging, struct, enum, Entry, without_notes, bare_fields, field_of, variant_of, internal_variant_of, Row, place_of, places_of, IsMade, Adds, plain_field, bare_variant, Keeps, keeps-refl, keeps-trans, place_of-kept, AreNumbers, FieldTold, field_ids, fields_by, fields_made, PayloadTold, Nothing, OneValue, Values, Members, VariantTold, payload_ids, payload_by, variant_ids, variants_by, variants_made}
use Rattle.schemars_shapes.specs.declared.shape.Field as src-field
use Rattle.schemars_shapes.specs.declared.variant.Variant as src-variant
use Rattle.schemars_shapes.specs.declared.variant.InternalVariant as src-internal
use Rattle.schemars_accepted.proofs.Places.{is_made_of_ids, ArePlaced, ids_kept, both_placed, first_numbers, other_numbers, number_is, back}

-- ---- fields

-- These fields were added, in a table that keeps its rows and has theirs.
pub record FieldsAdded (fields : List FieldTold) (old : List Row) (before : List Field) (new : List Row) (after : List Field) : Type 0 where
  pub kept : Keeps old new
  pub are : ArePlaced new (field_ids fields)
  pub after_is : (number : Text → ℕ) → AreNumbers new number (field_ids fields) → after ≡ before ++ fields_by number fields

-- no more fields
pub fields_none : {rows : List Row} {p : List Field} → FieldsAdded [] rows p rows p
fields_none {rows = rows} {p = p} = record { kept = keeps-refl rows; are = tt; after_is = λ number are. sym (append-nil p) }

-- a field by the number of its row, as `add_own` and those beside it add it, and then others
pub row_then : {f : FieldTold} {fields : List FieldTold} {a b c : List Row} {p q r : List Field} {n : ℕ} → place_of f.id b ≡ Some n
    → q ≡ p ++ plain_field f.name n f.required ∷ [] → Keeps a b → FieldsAdded fields b q c r → FieldsAdded (f ∷ fields) a p c r
row_then {f = f} {fields = fields} {a = a} {b = b} {c = c} {p = p} {q = q} {r = r} {n = n} there is kept rest = record {
  kept = keeps-trans kept rest.kept;
  are = ((n, place_of-kept f.id n rest.kept there), rest.are);
  after_is = λ number are.
      rest.after_is number are.1 ∙ ap (λ t. t ++ fields_by number fields) is
      ∙ append_assoc p (plain_field f.name n f.required ∷ []) (fields_by number fields)
      ∙ ap (λ m. p ++ plain_field f.name m f.required ∷ fields_by number fields)
      (sym (number_is f.id n (number f.id) rest.kept there are.0));
}

made_by : {A : Type 0} (make : ℕ → A) (o : Option ℕ) (q : A) → option_map make o ≡ Some q → (n : ℕ) × (o ≡ Some n) × (q ≡ make n)
made_by make None q is = cc
made_by make (Some n) q is = (n, refl, cc)

-- a field as `add_field` adds it, and then others
pub field_then : {f : FieldTold} {fields : List FieldTold} {a b c : List Row} {p q r : List Field}
    → option_map (λ n. p ++ plain_field f.name n f.required ∷ []) (place_of f.id b) ≡ Some q → Keeps a b → FieldsAdded fields b q c r
    → FieldsAdded (f ∷ fields) a p c r
field_then {f = f} {b = b} {p = p} {q = q} is kept rest =
    let at = made_by (λ n. p ++ plain_field f.name n f.required ∷ []) (place_of f.id b) q is in
    row_then at.1 at.2 kept rest

-- what the entry of a struct is made of, whose fields were added to an empty list
pub struct_made : (fields : List FieldTold) (closed : Bool) (items : List src-field.Field) (old new : List Row)
    (after : List Field) (e : Entry) → e ≡ without_notes false (struct (bare_fields after closed)) → items ≡ [] → FieldsAdded fields old (map field_of items) new after
    → IsMade (fields_made closed fields) new e
unfolding fields_made
struct_made fields closed items old new after e is empty added =
    is_made_of_ids (field_ids fields)
    (λ number. without_notes false (struct (bare_fields (fields_by number fields) closed))) new e added.are
    (λ number are. is ∙ ap (λ fs. without_notes false (struct (bare_fields fs closed)))
    (added.after_is number are ∙ ap (λ (xs : List src-field.Field). map field_of xs ++ fields_by number fields) empty))

-- ---- variants

-- These variants were added, in a table that keeps its rows and has theirs.
pub record VariantsAdded (variants : List VariantTold) (old : List Row) (before : List Variant) (new : List Row)
    (after : List Variant) : Type 0 where
  pub kept : Keeps old new
  pub are : ArePlaced new (variant_ids variants)
  pub after_is : (number : Text → ℕ) → AreNumbers new number (variant_ids variants) → after ≡ before ++ variants_by number variants

-- no more variants
pub variants_none : {rows : List Row} {p : List Variant} → VariantsAdded [] rows p rows p
variants_none {rows = rows} {p = p} = record { kept = keeps-refl rows; are = tt; after_is = λ number are. sym (append-nil p) }

-- What a variant has beside its name is made of the numbers of these rows.
record HasPayload (payload : PayloadTold) (rows : List Row) (has : Payload) : Type 0 where
  are : ArePlaced rows (payload_ids payload)
  has_is : {new : List Row} → Keeps rows new → (number : Text → ℕ) → AreNumbers new number (payload_ids payload)
      → has ≡ payload_by number payload

variant_then : (name : Text) (payload : PayloadTold) (variants : List VariantTold) (a b c : List Row) (p q r : List Variant) (has : Payload)
    → q ≡ p ++ bare_variant name has ∷ [] → HasPayload payload b has → Keeps a b → VariantsAdded variants b q c r
    → VariantsAdded (record { name = name; payload = payload } ∷ variants) a p c r
variant_then name payload variants a b c p q r has is holds kept rest = record {
  kept = keeps-trans kept rest.kept;
  are = both_placed c (payload_ids payload) (variant_ids variants) (ids_kept rest.kept (payload_ids payload) holds.are) rest.are;
  after_is = λ number are.
      let own = first_numbers c number (payload_ids payload) (variant_ids variants) are in
      let others = other_numbers c number (payload_ids payload) (variant_ids variants) are in
      rest.after_is number others ∙ ap (λ t. t ++ variants_by number variants) is
      ∙ append_assoc p (bare_variant name has ∷ []) (variants_by number variants)
      ∙ ap (λ x. p ++ bare_variant name x ∷ variants_by number variants) (holds.has_is rest.kept number own);
}

-- a variant as `add_unit` adds it, and then others
pub unit_then : {name : Text} {variants : List VariantTold} {a c : List Row} {p q r : List Variant}
    → q ≡ p ++ bare_variant name no_payload ∷ [] → VariantsAdded variants a q c r
    → VariantsAdded (record { name = name; payload = Nothing } ∷ variants) a p c r
unit_then {name = name} {variants = variants} {a = a} {c = c} {p = p} {q = q} {r = r} is rest =
    variant_then name Nothing variants a a c p q r no_payload is (record { are = tt; has_is = λ kept number are. refl }) (keeps-refl a) rest

-- a variant by the number of its row, as `add_newtype_of` adds it, and then others
pub value_then : {name id : Text} {variants : List VariantTold} {a b c : List Row} {p q r : List Variant} {n : ℕ} → place_of id b ≡ Some n
    → q ≡ p ++ bare_variant name (newtype_payload n) ∷ [] → Keeps a b → VariantsAdded variants b q c r
    → VariantsAdded (record { name = name; payload = OneValue id } ∷ variants) a p c r
value_then {name = name} {id = id} {variants = variants} {a = a} {b = b} {c = c} {p = p} {q = q} {r = r} {n = n} there is kept rest =
    let holds : HasPayload (OneValue id) b (newtype_payload n) = record {
      are = ((n, there), tt);
      has_is = λ kept number are. ap newtype_payload (sym (number_is id n (number id) kept there are.0));
    } in
    variant_then name (OneValue id) variants a b c p q r (newtype_payload n) is holds kept rest

-- a variant as `add_newtype` adds it, and then others
pub newtype_then : {name id : Text} {variants : List VariantTold} {a b c : List Row} {p q r : List Variant}
    → option_map (λ n. p ++ bare_variant name (newtype_payload n) ∷ []) (place_of id b) ≡ Some q → Keeps a b
    → VariantsAdded variants b q c r
    → VariantsAdded (record { name = name; payload = OneValue id } ∷ variants) a p c r
newtype_then {name = name} {id = id} {b = b} {p = p} {q = q} is kept rest =
    let at = made_by (λ n. p ++ bare_variant name (newtype_payload n) ∷ []) (place_of id b) q is in
    value_then at.1 at.2 kept rest

-- the numbers of ids that have rows
abbrev NumbersAre : List Text → List Row → List ℕ → Type 0
NumbersAre ids rows ns = (new : List Row) → Keeps rows new → (number : Text → ℕ) → AreNumbers new number ids → ns ≡ map number ids

ids_placed : (ids : List Text) (rows : List Row) (ns : List ℕ) → places_of ids rows ≡ Some ns → ArePlaced rows ids × NumbersAre ids rows ns
ids_placed [] rows ns is = (tt, λ new kept number are. cc)
ids_placed (id ∷ ids) rows ns is = go (place_of id rows) (places_of ids rows) refl refl is (λ ms others. ids_placed ids rows ms others)
  where
    go : (o : Option ℕ) (os : Option (List ℕ)) → place_of id rows ≡ o → places_of ids rows ≡ os
        → option_and_then (λ n. option_map (λ ms. n ∷ ms) os) o ≡ Some ns
        → ((ms : List ℕ) → places_of ids rows ≡ Some ms → ArePlaced rows ids × NumbersAre ids rows ms)
        → ArePlaced rows (id ∷ ids) × NumbersAre (id ∷ ids) rows ns
    go None os there others is later = cc
    go (Some n) None there others is later = cc
    go (Some n) (Some ms) there others is later =
        let more = later ms others in
        let ns_is : ns ≡ n ∷ ms = cc in (
          ((n, there), more.0),
          λ new kept number are. ns_is ∙ ap (λ k. k ∷ ms) (sym (number_is id n (number id) kept there are.0))
              ∙ ap (λ ks. number id ∷ ks) (more.1 new kept number are.1),
        )

-- a variant as `add_tuple` adds it, whose numbers were added to an empty list, and then others
pub tuple_then : {name : Text} {ids : List Text} {variants : List VariantTold} {a b c : List Row} {p q r : List Variant} {none ns : List ℕ}
    → q ≡ p ++ bare_variant name (tuple_payload ns) ∷ [] → none ≡ [] → Adds ids a none b ns → VariantsAdded variants b q c r
    → VariantsAdded (record { name = name; payload = Values ids } ∷ variants) a p c r
tuple_then {name = name} {ids = ids} {variants = variants} {a = a} {b = b} {c = c} {p = p} {q = q} {r = r} {ns = ns} is empty adds rest =
    let all = ids_placed ids b adds.numbers adds.placed in
    let holds : HasPayload (Values ids) b (tuple_payload ns) = record {
      are = all.0;
      has_is = λ {new} kept number are. ap tuple_payload (adds.after_is ∙ ap (λ t. t ++ adds.numbers) empty ∙ all.1 new kept number are);
    } in
    variant_then name (Values ids) variants a b c p q r (tuple_payload ns) is holds adds.kept rest

-- a variant as `add_struct` adds it, whose fields were added to an empty list, and then others
pub members_then : {name : Text} {closed : Bool} {fields : List FieldTold} {items : List src-field.Field} {variants : List VariantTold}
    {a b c : List Row} {p q r : List Variant} {fs : List Field} → q ≡ p ++ bare_variant name (struct_payload (bare_fields fs closed)) ∷ []
    → items ≡ [] → FieldsAdded fields a (map field_of items) b fs → VariantsAdded variants b q c r
    → VariantsAdded (record { name = name; payload = Members closed fields } ∷ variants) a p c r
members_then {name = name} {closed = closed} {fields = fields} {variants = variants} {a = a} {b = b} {c = c} {p = p} {q = q} {r = r} {fs = fs}
    is empty added rest =
    let holds : HasPayload (Members closed fields) b (struct_payload (bare_fields fs closed)) = record {
      are = added.are;
      has_is = λ kept number are. ap (λ t. struct_payload (bare_fields t closed))
          (added.after_is number (back kept (field_ids fields) added.are number are)
          ∙ ap (λ (xs : List src-field.Field). map field_of xs ++ fields_by number fields) empty);
    } in
    variant_then name (Members closed fields) variants a b c p q r (struct_payload (bare_fields fs closed)) is holds added.kept rest

made_of_variants : (variants : List VariantTold) (tagging : Tagging) (old new : List Row) (none after : List Variant) (e : Entry)
    → e ≡ without_notes false (enum tagging after) → none ≡ [] → VariantsAdded variants old none new after
    → IsMade (variants_made tagging variants) new e
unfolding variants_made
made_of_variants variants tagging old new none after e is empty added =
    is_made_of_ids (variant_ids variants) (λ number. without_notes false (enum tagging (variants_by number variants))) new e added.are
    (λ number are. is ∙ ap (λ xs. without_notes false (enum tagging xs))
    (added.after_is number are ∙ ap (λ t. t ++ variants_by number variants) empty))

-- what the entry of an enum is made of, whose variants were added to an empty list
pub enum_made : (variants : List VariantTold) (tagging : Tagging) (items : List src-variant.Variant) (old new : List Row)
    (after : List Variant) (e : Entry) → e ≡ without_notes false (enum tagging after) → items ≡ []
    → VariantsAdded variants old (map variant_of items) new after → IsMade (variants_made tagging variants) new e
enum_made variants tagging items old new after e is empty added =
    made_of_variants variants tagging old new (map variant_of items) after e is
    (ap (λ (xs : List src-variant.Variant). map variant_of xs) empty) added

-- the same of an enum that is tagged by a member of its variants
pub internal_made : (variants : List VariantTold) (tagging : Tagging) (items : List src-internal.InternalVariant) (old new : List Row)
    (after : List Variant) (e : Entry) → e ≡ without_notes false (enum tagging after) → items ≡ []
    → VariantsAdded variants old (map internal_variant_of items) new after → IsMade (variants_made tagging variants) new e
internal_made variants tagging items old new after e is empty added =
    made_of_variants variants tagging old new (map internal_variant_of items) after e is
    (ap (λ (xs : List src-internal.InternalVariant). map internal_variant_of xs) empty) added
