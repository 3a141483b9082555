-- The references of the document of each shape are those of its answers.
use Rattle.std.proofs.Common.{◌≡◌, ℕ, List, [], ◌∷◌, ◌++◌, map, Bool, false, Some, refl, sym, ap, ◌∙◌, subst, Contains, append-nil}
use Rattle.schemars_meaning.proofs.Words.{All, AllByRecursion, codes, bytes_eq, map-append, Data, Text, NoSchemas, finished, list, IsSchema, references, Shape, Field, Flattened, Fields, Entry, Payload, Variant, no_payload, newtype_payload, tuple_payload, struct_payload, Row, is_required, flattened_fields, effective, flattened_in, part_enums, expanded_payload, expanded_variant, expanded_shape_in, required_names, AreDistinct, AreNoted, IsPlainShape, IsPlainEntry, IsPlainPayload, ArePlainVariants, payload_parts, variant_parts, parts_in, ArePlainParts, IsNoContent, ShapeHasContents, Basis, Template, Ask, members_of, asked, Templates, asks_of, filled, KeywordTemplate, templates_of, property, template_of, entry_template, fields_template, with_flattened, struct_template, content_template, AreAnswered, references_of, flipped, Place, SchemaList, SchemasByName, place_under, literal_is_schema, literal_refers_nowhere, Tagging, AreNotedVariants, IsNotedShape, IsNotedPayload, IsNotedThroughout, with_keywords, tagged, object_with, literal_document-schema, found_in}
use Rattle.schemars_shapes.specs.Shape as shape
use Rattle.schemars_meaning.proofs.Spread.{AnswersFields}
use Rattle.schemars_meaning.proofs.ReferencesKept.{Among, among_right, AreApart}
use Rattle.schemars_meaning.proofs.SpreadMaps.{answered_left, IsMapAt, map_keeps, map_holds, part_holds, tag_holds, struct_holds, names_in, more_names, names_apart, tag_apart, apart-first}
use Rattle.schemars_meaning.proofs.NodeReferences.{StandsAt, AsSchema, AsList, AsNamed, AreItems, AreNamed, AreAtKeys, refers_schema, kept_schema}
use Rattle.schemars_meaning.proofs.ShapeInduction.{Claim, Documents, Law, IsBeside, AreBeside, beside_halves, plain_variants, shape_holds}
use Rattle.schemars_meaning.proofs.ByKeyword.{IsUnder, Keywords, by_keyword}

-- ---- notes

noted-first : (xs ys : List Field) → AreNoted (xs ++ ys) → AreNoted xs
noted-first [] ys h = tt
noted-first (x ∷ xs) ys h = (h.0, noted-first xs ys h.1)

module _ (part : Flattened → List Field) (enums : Flattened → List ℕ) where
  plain-payload_noted : (p : Payload) → IsPlainPayload (expanded_payload part enums p) → IsNotedPayload p
  plain-payload_noted (struct_payload x) h = noted-first x.list (flattened_fields part x.flatten) h.1
  plain-payload_noted _ h = tt

  plain-variants_noted : (xs : List Variant) → ArePlainVariants (map (expanded_variant part enums) xs) → AreNotedVariants xs
  plain-variants_noted [] h = tt
  plain-variants_noted (x ∷ xs) h = (h.0, plain-payload_noted x.payload h.1, plain-variants_noted xs h.2)

pub plain-shape_noted : (rows : List Row) (kind : Shape) → IsPlainShape (expanded_shape_in rows kind) → IsNotedShape kind
plain-shape_noted rows (shape.struct x) h = noted-first x.list (flattened_fields (flattened_in rows) x.flatten) h.1
plain-shape_noted rows (shape.enum shape.by_name xs) h = plain-variants_noted (flattened_in rows) (part_enums rows) xs h.1
plain-shape_noted rows (shape.enum shape.by_nothing xs) h = plain-variants_noted (flattened_in rows) (part_enums rows) xs h
plain-shape_noted rows (shape.enum (shape.by_tag tag closed) xs) h = plain-variants_noted (flattened_in rows) (part_enums rows) xs h.1
plain-shape_noted rows (shape.enum (shape.by_tag_and_content tag key closed) xs) h = plain-variants_noted (flattened_in rows) (part_enums rows) xs h.2
plain-shape_noted rows (shape.literal d) h = h
plain-shape_noted rows _ h = tt

-- ---- by shape

-- where Q holds, the entry is plain, and the answers of flattened rows are maps with their fields
module _ (Q : Type 0) (Answers : Ask → Data → Type 0) (basis : Basis)
    (expanded_shape : Q → AnswersFields (flattened_in basis.rows) basis.rows basis.contract Answers) where
  abbrev Schema : Template → Type 0
  Schema = AsSchema Q Answers

  abbrev EachSchema : Templates → Type 0
  EachSchema = AreItems Q Answers

  abbrev fields_at : Flattened → List Field
  fields_at = flattened_in basis.rows

  abbrev enums_at : Flattened → List ℕ
  enums_at = part_enums basis.rows

  abbrev PlainParts : List Flattened → Type 0
  PlainParts = ArePlainParts basis.rows

  abbrev claim : Claim
  claim = record {
    holds = Schema;
    inside = Schema;
    chosen = Schema;
    names = λ ks. Q → AreApart ks;
    inner = λ t h. h;
    choice = λ t h. h;
  }

  -- ---- keywords

  abbrev Told : Text → Template → Type 0
  Told k t = StandsAt (bytes_eq k (codes "$ref")) (place_under k) t (Schema t) (AsList Q Answers t) (AsNamed Q Answers t)

  told_under : (k : Text) (p : Place) (t : Template) → IsUnder p k
      → StandsAt false p t (Schema t) (AsList Q Answers t) (AsNamed Q Answers t) → Told k t
  told_under k p t under h =
      subst (λ b. StandsAt b (place_under k) t (Schema t) (AsList Q Answers t) (AsNamed Q Answers t)) (sym under.1)
      (subst (λ p. StandsAt false p t (Schema t) (AsList Q Answers t) (AsNamed Q Answers t)) (sym under.0) h)

  as_items : (ts : List Template) → AllByRecursion Schema ts → EachSchema (templates_of ts)
  as_items [] h = tt
  as_items (t ∷ ts) h = (h.0, as_items ts h.1)

  as_named : (es : List KeywordTemplate) → AllByRecursion (λ e. Schema e.1) es
      → AreNamed Q Answers (templates_of (map (λ e. e.1) es)) (map (λ e. e.0) es)
  as_named [] h = tt
  as_named (e ∷ es) h = (h.0, as_named es h.1)

  at_keys : (es : List KeywordTemplate) → AllByRecursion (λ e. Told e.0 e.1) es
      → AreAtKeys Q Answers (templates_of (map (λ e. e.1) es)) (map (λ e. e.0) es)
  at_keys [] h = tt
  at_keys (e ∷ es) h = (h.0, at_keys es h.1)

  keywords : Keywords claim
  unfolding found_in
  keywords = record {
    told = Told;
    own = λ d is. is.1;
    said = λ k d under whole. told_under k NoSchemas (finished d) under (λ ts. refl);
    items = λ n h. (tt, tt);
    others = λ t h. h;
    listed = λ k ts under h. told_under k SchemaList (list (templates_of ts)) under (as_items ts h);
    named = λ k es under h apart. told_under k SchemasByName (object_with es) under (as_named es h, apart);
    object = λ es h apart. (at_keys es h, apart);
    apart = λ ks h q. h;
  }

  documents : Documents claim
  documents = by_keyword claim keywords

  -- ---- structs

  properties_noted : (xs : List Field) → AreNoted xs → AllByRecursion (λ e. Schema e.1) (map property xs)
  properties_noted [] h = tt
  properties_noted (x ∷ xs) h = ((h.0, tt), properties_noted xs h.1)

  keys_named : (xs : List Field) → names_in xs ≡ map (λ e. e.0) (map property xs)
  keys_named [] = refl
  keys_named (x ∷ xs) = ap (λ ks. x.name ∷ ks) (keys_named xs)

  abbrev IsSpreadAt : Template → List Text → List Flattened → Type 0
  IsSpreadAt t names ps =
      IsMapAt Answers t names × PlainParts ps × AreApart (names ++ names_in (flattened_fields fields_at ps))

  flattened_as_schema : (ps : List Flattened) (t : Template) (names : List Text) → Schema t → (Q → IsSpreadAt t names ps)
      → Schema (with_flattened basis.contract ps t)
  flattened_as_schema [] t names h g = h
  flattened_as_schema (p ∷ ps) t names h g =
      let more = with_keywords t (asked (members_of p.ty (is_required basis.contract p.required))) in
      let longer = names ++ names_in (fields_at p) in
      let holds : Q → IsMapAt Answers more longer =
      λ q. part_holds Answers basis.rows basis.contract (expanded_shape q) p t names (g q).0 (g q).1.0 in
      let apart : Q → AreApart (longer ++ names_in (flattened_fields fields_at ps)) =
      λ q. subst AreApart (sym (more_names Answers basis.rows basis.contract (expanded_shape q) p ps names)) (g q).2 in
      flattened_as_schema ps more longer (
        h,
        tt,
        λ q. map_keeps Answers more longer (holds q) (apart-first longer (names_in (flattened_fields fields_at ps)) (apart q)),
      ) (λ q. (holds q, (g q).1.1, apart q))

  abbrev IsPlainFields : Fields → Type 0
  IsPlainFields x = AreDistinct (effective fields_at x) × PlainParts x.flatten

  struct_as_schema : (x : Fields) → AreNoted x.list → (Q → IsPlainFields x) → Schema (struct_template basis.contract x)
  struct_as_schema x notes plain =
      let own = fields_template basis.contract x.list x.closed in
      let names = names_in x.list in
      let more = flattened_fields fields_at x.flatten in
      let whole : names_in (effective fields_at x) ≡ names ++ names_in more = map-append (λ y. y.name) x.list more in
      let apart : Q → AreApart (names ++ names_in more) = λ q. subst AreApart whole (names_apart (effective fields_at x) (plain q).0) in
      flattened_as_schema x.flatten own names
      (documents.maps (map property x.list) (required_names basis.contract x.list) x.closed (properties_noted x.list notes)
      (λ q. subst AreApart (keys_named x.list) (apart-first names (names_in more) (apart q))))
      (λ q. (map_holds Answers x.list (required_names basis.contract x.list) x.closed notes, (plain q).1, apart q))

  -- ---- enums

  abbrev IsPlainContent : Payload → Type 0
  IsPlainContent p = IsPlainPayload (expanded_payload fields_at enums_at p) × PlainParts (payload_parts p)

  abbrev ArePlainContents : List Variant → Type 0
  ArePlainContents xs = ArePlainVariants (map (expanded_variant fields_at enums_at) xs) × PlainParts (variant_parts xs)

  parts-first : (ps rs : List Flattened) → PlainParts (ps ++ rs) → PlainParts ps
  parts-first [] rs h = tt
  parts-first (p ∷ ps) rs h = (h.0, parts-first ps rs h.1)

  parts-later : (ps rs : List Flattened) → PlainParts (ps ++ rs) → PlainParts rs
  parts-later [] rs h = h
  parts-later (p ∷ ps) rs h = parts-later ps rs h.1

  here : (x : Variant) (xs : List Variant) → ArePlainContents (x ∷ xs) → IsPlainContent x.payload
  here x xs h = (h.0.1, parts-first (payload_parts x.payload) (variant_parts xs) h.1)

  later : (x : Variant) (xs : List Variant) → ArePlainContents (x ∷ xs) → ArePlainContents xs
  later x xs h = (h.0.2, parts-later (payload_parts x.payload) (variant_parts xs) h.1)

  abbrev OfShape : Shape → Type 0
  OfShape kind = IsNotedShape kind
      × (Q → IsPlainShape (expanded_shape_in basis.rows kind) × PlainParts (parts_in kind) × ShapeHasContents IsNoContent kind)

  abbrev OfVariants : Tagging → List Variant → Type 0
  OfVariants tagging xs = AreNotedVariants xs × (Q → ArePlainContents xs × AreBeside fields_at enums_at IsNoContent tagging xs)

  abbrev OfPayload : Tagging → Payload → Type 0
  OfPayload tagging p = IsNotedPayload p × (Q → IsPlainContent p × IsBeside fields_at enums_at IsNoContent tagging p)

  variants : (tagging : Tagging) (xs : List Variant) → OfShape (shape.enum tagging xs) → OfVariants tagging xs
  variants tagging xs h =
      (h.0, λ q. let own = plain_variants fields_at enums_at IsNoContent tagging xs (h.1 q).0 (h.1 q).2 in ((own.0, (h.1 q).1), own.1))

  payload : (tagging : Tagging) (x : Variant) (xs : List Variant) → OfVariants tagging (x ∷ xs) → OfPayload tagging x.payload
  payload tagging x xs h =
      (h.0.1, λ q. (here x xs (h.1 q).0, (beside_halves fields_at enums_at IsNoContent tagging x xs (h.1 q).1).0))

  -- beside the tag
  tagged_as_schema : (tag name : Text) (closed : Bool) (p : Payload) → OfPayload (shape.by_tag tag closed) p
      → Schema (content_template basis.contract p) → Schema (tagged tag name closed (content_template basis.contract p))
  unfolding found_in
  tagged_as_schema tag name closed no_payload h is = (is, λ q rest ts answers. among_right _ (references_of ts))
  tagged_as_schema tag name closed (newtype_payload n) h is = (is, λ q. absurd (h.1 q).1.1)
  tagged_as_schema tag name closed (tuple_payload ns) h is = (is, λ q. absurd (h.1 q).1.0)
  tagged_as_schema tag name closed (struct_payload x) h is = (
    is,
    λ q.
        let all = effective fields_at x in
        let plain = h.1 q in
        map_keeps Answers (tagged tag name closed (struct_template basis.contract x)) (names_in all ++ tag ∷ [])
        (tag_holds Answers tag name closed (struct_template basis.contract x) (names_in all)
        (struct_holds Answers basis.rows basis.contract (expanded_shape q) x h.0 plain.0.1))
        (tag_apart tag all plain.1.0 plain.0.0.0),
  )

  -- ---- the shape of an entry

  refers_law : Law basis
  refers_law = record {
    claim = claim;
    documents = documents;
    of_shape = OfShape;
    of_variants = OfVariants;
    of_payload = OfPayload;
    rows = λ kind m h is. tt;
    option = λ n h. h;
    struct = λ x h. struct_as_schema x h.0 (λ q. ((h.1 q).0.0, (h.1 q).1));
    variants = variants;
    literal = λ d h. ap references (literal_document-schema d (literal_is_schema d h.0)) ∙ literal_refers_nowhere d h.0;
    payload = payload;
    notes = λ tagging x xs h t is. (h.0.0, is);
    later = λ tagging x xs h. (h.0.2, λ q. (later x xs (h.1 q).0, (beside_halves fields_at enums_at IsNoContent tagging x xs (h.1 q).1).1));
    title = λ name t h. ((refl, tt), h);
    payload_rows = λ tagging p m h is. tt;
    payload_struct = λ tagging x h. struct_as_schema x h.0 (λ q. ((h.1 q).0.0.0, (h.1 q).0.1));
    content_row = λ tag closed n h. tt;
    tag = λ tag closed x xs h is. (h.0.0, tagged_as_schema tag x.name closed x.payload (payload (shape.by_tag tag closed) x xs h) is);
    beside = λ tag key closed p h q. ((flipped tag key (h.1 q).1, tt), (tt, tt));
  }

  shape_as_schema : (kind : Shape) → OfShape kind → Schema (template_of basis kind)
  unfolding refers_law
  shape_as_schema kind h = shape_holds basis refers_law kind h

  entry_as_schema : (e : Entry) → IsNotedThroughout (Some e) → (Q → IsPlainEntry basis.rows (Some e)) → Schema (entry_template basis e)
  entry_as_schema e notes plain = (notes.0, shape_as_schema e.shape (notes.1, λ q. ((plain q).1, (plain q).2, (plain q).3)))

-- ---- a row's document

-- what holds of each reference of an answer holds of each of the document
pub all_refer : (P : Data → Type 0) (basis : Basis) (e : Entry) → IsNotedThroughout (Some e) → (ts : List Data)
    → AllByRecursion (λ t. IsSchema t × All P (references t)) ts → All P (references (filled (entry_template basis e) ts))
all_refer P basis e notes ts all =
    let Answers : Ask → Data → Type 0 = λ a t. Unit {0} in
    refers_schema ⊥ Answers P (entry_template basis e) ts all
    (entry_as_schema ⊥ Answers basis (λ q. absurd q) e notes (λ q. absurd q))

-- each reference of an answer is in the document
pub parts_among : (basis : Basis) (e : Entry) → IsPlainEntry basis.rows (Some e) → (Answers : Ask → Data → Type 0)
    → AnswersFields (flattened_in basis.rows) basis.rows basis.contract Answers → (ts : List Data)
    → AreAnswered Answers (asks_of (entry_template basis e)) ts
    → Among (references_of ts) (references (filled (entry_template basis e) ts))
parts_among basis e plain Answers expanded_shape ts answers x i =
    let t = entry_template basis e in
    let ended : AreAnswered Answers (asks_of t ++ []) ts =
    subst (λ xs. AreAnswered Answers xs ts) (sym (append-nil (asks_of t))) answers in
    let is = entry_as_schema (Unit {0}) Answers basis (λ q. expanded_shape) e (plain.0, plain-shape_noted basis.rows e.shape plain.1)
    (λ q. plain) in
    subst (λ xs. Contains xs x) (ap (λ us. references (filled t ts) ++ references_of us) (answered_left Answers t [] ts ended)
    ∙ append-nil (references (filled t ts))) (kept_schema (Unit {0}) Answers tt t [] ts ended is x i)
