-- What holds of the template of every shape, where it holds of each way that templates are put together.
use Rattle.std.proofs.Common.{◌≡◌, ℕ, zero, suc, List, [], ◌∷◌, map, Bool, true, false, refl, arith, Contains}
use Rattle.schemars_meaning.proofs.Words.{AllByRecursion, codes, bytes_eq, not, if◌then◌else◌, Data, boolean, Text, text_items, unit_variant, Shape, Field, Flattened, Fields, Payload, Variant, no_payload, newtype_payload, tuple_payload, struct_payload, is_bare_unit, expanded_payload, expanded_variant, KeyOptions, keys, key_options, type_alone, int_document, non_zero_document, bytes_document, ArePlainVariants, AreTagged, HasContent, HaveContents, IsPlainShape, IsTagged, ShapeHasContents, Basis, Template, content, finished, asked, row, nullable, noted, KeywordTemplate, map_template, member_template, struct_template, tuple_template, payload_template, named_template, content_template, bare_units, other_items, choice_of, titled, payload_item, untagged_template, internal_item, internal_template, said, whole_template, adjacent_payload, adjacent_item, adjacent_template, values_template, template_of, is_listed, type_names, Tagging, numbers_of, payload_numbers, expanded_shape, or_any_text, all_options, distinct_options, once, char_document, formatted_document, empty_list_document, schema_document, exactly, list_template, set_template, up_to_template, units_template, one_of_template, any_of_template, title_alone, literal_document}
use Rattle.schemars_shapes.specs.Shape as shape
use Rattle.schemars_shapes.specs.declared.shape.IntKind.{IntKind}
use Rattle.schemars_types.specs.declared.contract.Contract.{Contract}
use Rattle.schemars_meaning.proofs.ReferencesKept.{AreApart, apart-filter, others_apart}

-- ---- what is shown

-- of a template; of one that is a member's value, or one of some that may hold together; of one that excludes the others; and of the
-- names of members
pub record Claim : Type 1 where
  pub holds : Template → Type 0
  pub inside : Template → Type 0
  pub chosen : Template → Type 0
  pub names : List Text → Type 0
  pub inner : (t : Template) → holds t → inside t
  pub choice : (t : Template) → inside t → chosen t

-- the same of each template, whatever the names are
abbrev pub of_each : (Template → Type 0) → Claim
of_each Holds = record {
  holds = Holds;
  inside = Holds;
  chosen = Holds;
  names = λ ks. Unit {0};
  inner = λ t h. h;
  choice = λ t h. h;
}

pub chosen_by : (c : Claim) (t : Template) → c.holds t → c.chosen t
chosen_by c t h = c.choice t (c.inner t h)

-- the texts among options are all different, and so are the patterns
abbrev pub AreKeysApart : KeyOptions → Type 0
AreKeysApart (keys others texts integers ps) = AreApart texts × AreApart ps

abbrev pub names_of : List KeywordTemplate → List Text
names_of es = map (λ e. e.0) es

-- ---- how documents are put together

-- It holds of the documents that templates are put together as, where it holds of their parts.
pub record Documents (c : Claim) : Type 0 where
  pub type_of : (name : Text) → is_listed name type_names ≡ true → c.holds (finished (type_alone name))
  pub int : (kind : IntKind) → c.holds (finished (int_document kind))
  pub non_zero : (kind : IntKind) → c.holds (finished (non_zero_document kind))
  pub char : c.holds (finished char_document)
  pub formatted : (format : Text) → c.holds (finished (formatted_document format))
  pub truth : (b : Bool) → c.holds (finished (boolean b))
  pub bytes : (contract : Contract) → c.holds (finished (bytes_document contract))
  pub schema_itself : c.holds (finished schema_document)
  pub empty_list : c.holds (finished empty_list_document)
  pub unit : (name : Text) → c.holds (finished (unit_variant name))
  pub units : (ks : List Text) → c.holds (units_template ks)
  pub seq : (n : ℕ) → c.holds (row n) → c.holds (list_template n [])
  pub set : (n : ℕ) → c.holds (row n) → c.holds (set_template n)
  pub array : (n len : ℕ) → c.holds (row n) → c.holds (list_template n (exactly len))
  pub up_to : (n most : ℕ) → c.holds (row n) → c.holds (up_to_template n most)
  pub tuple : (ns : List ℕ) → ((m : ℕ) → Contains ns m → c.holds (row m)) → c.holds (tuple_template ns)
  pub one_of : (ts : List Template) → AllByRecursion c.chosen ts → c.holds (one_of_template ts)
  pub any_of : (ts : List Template) → AllByRecursion c.inside ts → c.holds (any_of_template ts)
  pub maps : (es : List KeywordTemplate) (required : List Text) (closed : Bool) → AllByRecursion (λ e. c.inside e.1) es
      → c.names (names_of es) → c.holds (map_template es (text_items required) closed)
  pub values : (options : KeyOptions) (value : ℕ) → AreKeysApart options → c.holds (row value) → c.holds (values_template options value)
  pub apart : (ks : List Text) → AreApart ks → c.names ks

-- ---- shapes

-- What is shown of the templates of shapes, by what is known of a shape, of the variants of an enum, and of what a variant has.
pub record Law (basis : Basis) : Type 1 where
  pub claim : Claim
  pub documents : Documents claim
  pub of_shape : Shape → Type 0
  pub of_variants : Tagging → List Variant → Type 0
  pub of_payload : Tagging → Payload → Type 0
  -- of a shape
  pub rows : (kind : Shape) (m : ℕ) → of_shape kind → Contains (numbers_of kind) m → claim.holds (row m)
  pub option : (n : ℕ) → claim.holds (row n) → claim.holds (nullable (row n))
  pub struct : (x : Fields) → of_shape (shape.struct x) → claim.holds (struct_template basis.contract x)
  pub variants : (tagging : Tagging) (xs : List Variant) → of_shape (shape.enum tagging xs) → of_variants tagging xs
  pub literal : (d : Data) → of_shape (shape.literal d) → claim.holds (finished (literal_document d))
  -- of variants
  pub payload : (tagging : Tagging) (x : Variant) (xs : List Variant) → of_variants tagging (x ∷ xs) → of_payload tagging x.payload
  pub notes : (tagging : Tagging) (x : Variant) (xs : List Variant) → of_variants tagging (x ∷ xs) → (t : Template) → claim.inside t
      → claim.inside (noted x.notes t)
  pub later : (tagging : Tagging) (x : Variant) (xs : List Variant) → of_variants tagging (x ∷ xs) → of_variants tagging xs
  pub title : (name : Text) (t : Template) → claim.inside t → claim.inside (noted (title_alone name) t)
  -- of what a variant has
  pub payload_rows : (tagging : Tagging) (p : Payload) (m : ℕ) → of_payload tagging p → Contains (payload_numbers p) m
      → claim.holds (row m)
  pub payload_struct : (tagging : Tagging) (x : Fields) → of_payload tagging (struct_payload x)
      → claim.holds (struct_template basis.contract x)
  pub content_row : (tag : Text) (closed : Bool) (n : ℕ) → of_payload (shape.by_tag tag closed) (newtype_payload n)
      → claim.holds (asked (content n))
  pub tag : (tag : Text) (closed : Bool) (x : Variant) (xs : List Variant) → of_variants (shape.by_tag tag closed) (x ∷ xs)
      → claim.holds (content_template basis.contract x.payload) → claim.chosen (internal_item basis.contract tag closed x)
  pub beside : (tag key : Text) (closed : Bool) (p : Payload) → of_payload (shape.by_tag_and_content tag key closed) p
      → claim.names (tag ∷ key ∷ [])

-- ---- keys of maps

once_apart : (ks : List Text) → AreApart (once ks)
once_apart [] = tt
once_apart (k ∷ ks) = (others_apart k (once ks), apart-filter (λ u. not (bytes_eq u k)) (once ks) (once_apart ks))

keys_apart : (options : KeyOptions) → AreKeysApart (distinct_options options)
keys_apart (keys others texts integers ps) = (once_apart texts, once_apart ps)

module _ (basis : Basis) (law : Law basis) where
  abbrev contract : Contract
  contract = basis.contract

  abbrev claim : Claim
  claim = law.claim

  abbrev docs : Documents law.claim
  docs = law.documents

  first_row : (n : ℕ) (ns : List ℕ) → Contains (n ∷ ns) n
  first_row n ns = (0, omega arith, refl)

  second_row : (n m : ℕ) → Contains (n ∷ m ∷ []) m
  second_row n m = (1, omega arith, refl)

  member_holds : (closed : Bool) (name : Text) (t : Template) → claim.holds t → claim.holds (member_template closed name t)
  member_holds closed name t h =
      docs.maps ((name, t) ∷ []) (name ∷ []) closed (claim.inner t h, tt) (docs.apart (name ∷ []) (tt, tt))

  -- ---- variants

  payload_holds : (tagging : Tagging) (p : Payload) → law.of_payload tagging p → claim.holds (payload_template contract p)
  payload_holds tagging no_payload h = docs.type_of (codes "null") refl
  payload_holds tagging (newtype_payload n) h = law.payload_rows tagging (newtype_payload n) n h (first_row n [])
  payload_holds tagging (tuple_payload ns) h = docs.tuple ns (λ m is. law.payload_rows tagging (tuple_payload ns) m h is)
  payload_holds tagging (struct_payload x) h = law.payload_struct tagging x h

  -- what is shown of the item of each variant
  each_item : (Shown : Template → Type 0) (tagging : Tagging) (f : Variant → Template)
      → ((x : Variant) (xs : List Variant) → law.of_variants tagging (x ∷ xs) → Shown (f x)) → (xs : List Variant)
      → law.of_variants tagging xs → AllByRecursion Shown (map f xs)
  each_item Shown tagging f one [] h = tt
  each_item Shown tagging f one (x ∷ xs) h = (one x xs h, each_item Shown tagging f one xs (law.later tagging x xs h))

  named_holds : (name : Text) (p : Payload) → law.of_payload shape.by_name p → claim.holds (named_template contract name p)
  named_holds name no_payload h = docs.unit name
  named_holds name (newtype_payload n) h = member_holds true name _ (payload_holds shape.by_name (newtype_payload n) h)
  named_holds name (tuple_payload ns) h = member_holds true name _ (payload_holds shape.by_name (tuple_payload ns) h)
  named_holds name (struct_payload x) h = member_holds true name _ (payload_holds shape.by_name (struct_payload x) h)

  others_hold : (xs : List Variant) → law.of_variants shape.by_name xs → AllByRecursion claim.chosen (other_items contract xs)
  others_hold [] h = tt
  others_hold (x ∷ xs) h = go (is_bare_unit x) (others_hold xs (law.later shape.by_name x xs h))
    where
      own : claim.chosen (noted x.notes (named_template contract x.name x.payload))
      own = claim.choice _ (law.notes shape.by_name x xs h _
          (claim.inner _ (named_holds x.name x.payload (law.payload shape.by_name x xs h))))

      go : (b : Bool) → AllByRecursion claim.chosen (other_items contract xs)
          → AllByRecursion claim.chosen (if b then other_items contract xs
          else noted x.notes (named_template contract x.name x.payload) ∷ other_items contract xs)
      go true rest = rest
      go false rest = (own, rest)

  choice_holds : (ks : List Text) (ts : List Template) → AllByRecursion claim.chosen ts → claim.holds (choice_of ks ts)
  choice_holds [] [] h = docs.truth false
  choice_holds [] (t ∷ ts) h = docs.one_of (t ∷ ts) h
  choice_holds (k ∷ ks) [] h = docs.units (k ∷ ks)
  choice_holds (k ∷ ks) (t ∷ ts) h = docs.one_of (units_template (k ∷ ks) ∷ t ∷ ts) (chosen_by claim _ (docs.units (k ∷ ks)), h)

  titled_item : (titles : Bool) (name : Text) (t : Template) → claim.inside t → claim.inside (titled titles name t)
  titled_item false name t h = h
  titled_item true name t h = law.title name t h

  untagged_holds : (titles : Bool) (xs : List Variant) → law.of_variants shape.by_nothing xs
      → claim.holds (untagged_template contract titles xs)
  untagged_holds titles [] h = docs.truth false
  untagged_holds titles (x ∷ xs) h =
      docs.any_of (map (payload_item contract titles) (x ∷ xs)) (each_item claim.inside shape.by_nothing (payload_item contract titles) (λ y ys g.
      law.notes shape.by_nothing y ys g _ (titled_item titles y.name (payload_template contract y.payload)
      (claim.inner _ (payload_holds shape.by_nothing y.payload (law.payload shape.by_nothing y ys g))))) (x ∷ xs) h)

  content_holds : (tag : Text) (closed : Bool) (p : Payload) → law.of_payload (shape.by_tag tag closed) p
      → claim.holds (content_template contract p)
  content_holds tag closed no_payload h = docs.type_of (codes "null") refl
  content_holds tag closed (newtype_payload n) h = law.content_row tag closed n h
  content_holds tag closed (tuple_payload ns) h = payload_holds (shape.by_tag tag closed) (tuple_payload ns) h
  content_holds tag closed (struct_payload x) h = law.payload_struct (shape.by_tag tag closed) x h

  internal_holds : (tag : Text) (closed : Bool) (xs : List Variant) → law.of_variants (shape.by_tag tag closed) xs
      → claim.holds (internal_template contract tag closed xs)
  internal_holds tag closed [] h = docs.truth false
  internal_holds tag closed (x ∷ xs) h =
      let by = shape.by_tag tag closed in
      docs.one_of (map (internal_item contract tag closed) (x ∷ xs)) (each_item claim.chosen by (internal_item contract tag closed)
      (λ y ys g. law.tag tag closed y ys g (content_holds tag closed y.payload (law.payload by y ys g))) (x ∷ xs) h)

  -- the name under one key, and the rest under another
  both_hold : (tag key name : Text) (closed : Bool) (t : Template) → claim.holds t → claim.names (tag ∷ key ∷ [])
      → claim.holds (whole_template (said tag (unit_variant name) ∷ (key, t) ∷ []) closed)
  both_hold tag key name closed t h apart =
      docs.maps (said tag (unit_variant name) ∷ (key, t) ∷ []) (tag ∷ key ∷ []) closed (claim.inner _ (docs.unit name), (claim.inner t h, tt))
      apart

  beside_holds : (tag key name : Text) (closed : Bool) (p : Payload) → law.of_payload (shape.by_tag_and_content tag key closed) p
      → claim.holds (whole_template (said tag (unit_variant name) ∷ adjacent_payload contract key p) closed)
  beside_holds tag key name closed no_payload h = member_holds closed tag _ (docs.unit name)
  beside_holds tag key name closed (newtype_payload n) h =
      let by = shape.by_tag_and_content tag key closed in
      both_hold tag key name closed _ (payload_holds by (newtype_payload n) h) (law.beside tag key closed (newtype_payload n) h)
  beside_holds tag key name closed (tuple_payload ns) h =
      let by = shape.by_tag_and_content tag key closed in
      both_hold tag key name closed _ (payload_holds by (tuple_payload ns) h) (law.beside tag key closed (tuple_payload ns) h)
  beside_holds tag key name closed (struct_payload x) h =
      let by = shape.by_tag_and_content tag key closed in
      both_hold tag key name closed _ (payload_holds by (struct_payload x) h) (law.beside tag key closed (struct_payload x) h)

  adjacent_holds : (tag key : Text) (closed : Bool) (xs : List Variant) → law.of_variants (shape.by_tag_and_content tag key closed) xs
      → claim.holds (adjacent_template contract tag key closed xs)
  adjacent_holds tag key closed [] h = docs.truth false
  adjacent_holds tag key closed (x ∷ xs) h =
      let by = shape.by_tag_and_content tag key closed in
      docs.one_of (map (adjacent_item contract tag key closed) (x ∷ xs)) (each_item claim.chosen by (adjacent_item contract tag key closed)
      (λ y ys g. claim.choice _ (law.notes by y ys g _
      (claim.inner _ (beside_holds tag key y.name closed y.payload (law.payload by y ys g))))) (x ∷ xs) h)

  -- ---- by shape

  pub shape_holds : (kind : Shape) → law.of_shape kind → claim.holds (template_of basis kind)
  shape_holds shape.null h = docs.type_of (codes "null") refl
  shape_holds shape.bool h = docs.type_of (codes "boolean") refl
  shape_holds (shape.int kind) h = docs.int kind
  shape_holds (shape.non_zero kind) h = docs.non_zero kind
  shape_holds shape.number h = docs.type_of (codes "number") refl
  shape_holds shape.text h = docs.type_of (codes "string") refl
  shape_holds shape.char h = docs.char
  shape_holds (shape.formatted format) h = docs.formatted format
  shape_holds shape.any h = docs.truth true
  shape_holds shape.bytes h = docs.bytes contract
  shape_holds shape.schema_itself h = docs.schema_itself
  shape_holds (shape.option n) h = law.option n (law.rows (shape.option n) n h (first_row n []))
  shape_holds (shape.seq n) h = docs.seq n (law.rows (shape.seq n) n h (first_row n []))
  shape_holds (shape.set n) h = docs.set n (law.rows (shape.set n) n h (first_row n []))
  shape_holds (shape.array n zero) h = docs.empty_list
  shape_holds (shape.array n (suc len)) h = docs.array n (suc len) (law.rows (shape.array n (suc len)) n h (first_row n []))
  shape_holds (shape.up_to n most) h = docs.up_to n most (law.rows (shape.up_to n most) n h (first_row n []))
  shape_holds (shape.tuple ns) h = docs.tuple ns (λ m is. law.rows (shape.tuple ns) m h is)
  shape_holds (shape.struct x) h = law.struct x h
  shape_holds (shape.newtype n) h = law.rows (shape.newtype n) n h (first_row n [])
  shape_holds (shape.result a b) h =
      docs.one_of (member_template false (codes "Ok") (row a) ∷ member_template false (codes "Err") (row b) ∷ []) (
        chosen_by claim _ (member_holds false (codes "Ok") (row a) (law.rows (shape.result a b) a h (first_row a (b ∷ [])))),
        (chosen_by claim _ (member_holds false (codes "Err") (row b) (law.rows (shape.result a b) b h (second_row a b))), tt),
      )
  shape_holds (shape.bound n) h =
      let own = law.rows (shape.bound n) n h (first_row n []) in
      docs.one_of (member_template false (codes "Included") (row n) ∷ member_template false (codes "Excluded") (row n)
      ∷ finished (unit_variant (codes "Unbounded")) ∷ []) (
        chosen_by claim _ (member_holds false (codes "Included") (row n) own),
        (chosen_by claim _ (member_holds false (codes "Excluded") (row n) own), (chosen_by claim _ (docs.unit (codes "Unbounded")), tt)),
      )
  shape_holds (shape.range n) h =
      let own = claim.inner (row n) (law.rows (shape.range n) n h (first_row n [])) in
      docs.maps ((codes "start", row n) ∷ (codes "end", row n) ∷ []) (codes "start" ∷ codes "end" ∷ []) false (own, (own, tt))
      (docs.apart (codes "start" ∷ codes "end" ∷ []) ((refl, tt), (tt, tt)))
  shape_holds (shape.either a b) h =
      docs.one_of (member_template true (codes "Left") (row a) ∷ member_template true (codes "Right") (row b) ∷ []) (
        chosen_by claim _ (member_holds true (codes "Left") (row a) (law.rows (shape.either a b) a h (first_row a (b ∷ [])))),
        (chosen_by claim _ (member_holds true (codes "Right") (row b) (law.rows (shape.either a b) b h (second_row a b))), tt),
      )
  shape_holds (shape.map_from key value) h =
      docs.values (key_options basis.rows key) value (keys_apart (or_any_text (all_options basis.rows key)))
      (law.rows (shape.map_from key value) value h (second_row key value))
  shape_holds (shape.enum shape.by_name xs) h =
      choice_holds (bare_units xs) (other_items contract xs) (others_hold xs (law.variants shape.by_name xs h))
  shape_holds (shape.enum shape.by_nothing xs) h = untagged_holds basis.titles xs (law.variants shape.by_nothing xs h)
  shape_holds (shape.enum (shape.by_tag tag closed) xs) h = internal_holds tag closed xs (law.variants (shape.by_tag tag closed) xs h)
  shape_holds (shape.enum (shape.by_tag_and_content tag key closed) xs) h =
      adjacent_holds tag key closed xs (law.variants (shape.by_tag_and_content tag key closed) xs h)
  shape_holds (shape.literal d) h = law.literal d h

-- ---- variants of plain enums

-- below, `others` and `enums` say which fields flattened rows have, and which enums, and `Fits` which rows may stand beside a tag
module _ (others : Flattened → List Field) (enums : Flattened → List ℕ) (Fits : Text → ℕ → Type 0) where
  -- what the tagging asks of what a variant has, and of all variants
  abbrev pub IsBeside : Tagging → Payload → Type 0
  IsBeside (shape.by_tag tag closed) p = IsTagged tag (expanded_payload others enums p) × HasContent Fits tag p
  IsBeside (shape.by_tag_and_content tag key closed) p = bytes_eq tag key ≡ false
  IsBeside _ p = Unit {0}

  abbrev pub AreBeside : Tagging → List Variant → Type 0
  AreBeside (shape.by_tag tag closed) xs = AreTagged tag (map (expanded_variant others enums) xs) × HaveContents Fits tag xs
  AreBeside (shape.by_tag_and_content tag key closed) xs = bytes_eq tag key ≡ false
  AreBeside _ xs = Unit {0}

  pub beside_halves : (tagging : Tagging) (x : Variant) (xs : List Variant) → AreBeside tagging (x ∷ xs)
      → IsBeside tagging x.payload × AreBeside tagging xs
  beside_halves (shape.by_tag tag closed) x xs h = ((h.0.0, h.1.0), (h.0.1, h.1.1))
  beside_halves (shape.by_tag_and_content tag key closed) x xs h = (h, h)
  beside_halves _ x xs h = (tt, tt)

  pub plain_variants : (tagging : Tagging) (xs : List Variant) → IsPlainShape (expanded_shape others enums (shape.enum tagging xs))
      → ShapeHasContents Fits (shape.enum tagging xs) → ArePlainVariants (map (expanded_variant others enums) xs) × AreBeside tagging xs
  plain_variants shape.by_name xs h fit = (h.1, tt)
  plain_variants shape.by_nothing xs h fit = (h, tt)
  plain_variants (shape.by_tag tag closed) xs h fit = (h.1, (h.2, fit))
  plain_variants (shape.by_tag_and_content tag key closed) xs h fit = (h.2, h.0)
