-- The document of a row has no definitions of its own.
use Rattle.std.proofs.Common.{◌≡◌, ℕ, List, [], ◌∷◌, map, Option, Some, None, Bool, true, false, refl, subst}
use Rattle.schemars_headline.proofs.Words.{HasNeither, IsOther, codes, is_some, if◌then◌else◌, AllByRecursion, Data, null, boolean, string, array, object, no_items, item, Members, no_members, member, put, get_member, Text, without, is_null, members_in, put_all, put_members, AreNotes, is_null_choice, is_combined, or_null, allow_null, type_with_null, null_in_type, enum_with_null, null_in_enum, const_or_null, null_in_const, null_in_values, Shape, Entry, entry_at, annotated, with_title, with_meta_schema, root_document, reference, Basis, Template, keyed, left, filled, filled_in, KeywordTemplate, template_of, entry_template, Describes, HasPlainLiteral, IsNotedEntry, HasPlainNotes, first_all, left_all, null_schema, templates_of, literal_document, IsPlainLiteral, plain_absent, described_holds, outer_holds}
use Rattle.schemars_headline.proofs.Keys.{IsDefinitionsKey, annotation_other}
use Rattle.schemars_headline.proofs.Lacking.{Lacks, LacksIn, lacks_both, lacks-put, lacks_without, lacks_flattened, lacks_flattened_part, lacks_opened_inside}

-- ---- literals

literal_other : (d : Data) → IsPlainLiteral d → HasNeither (literal_document d)
literal_other (boolean true) plain = (refl, refl)
literal_other (boolean false) plain = (refl, refl)
literal_other (object ms) plain = (
  plain_absent (codes "$defs") ms plain.members (λ d. refl),
  plain_absent (codes "definitions") ms plain.members (λ d. refl),
)
literal_other null plain = absurd plain
literal_other _ plain = absurd plain

module _ (key : Text) (is_key : IsDefinitionsKey key) where
  abbrev Lack : Members → Type 0
  Lack ms = Lacks key is_key ms

  abbrev In : Data → Type 0
  In s = LacksIn key is_key s

  lacks-keyed : (es : List KeywordTemplate) (ds : List Data) (ms : Members) → AllByRecursion (λ e. IsOther e.0) es → Lack ms
      → Lack (put_all (keyed (map (λ e. e.0) es) ds) ms)
  lacks-keyed [] ds ms others h = h
  lacks-keyed (e ∷ es) [] ms others h = h
  lacks-keyed (e ∷ es) (d ∷ ds) ms others h =
      lacks-keyed es ds (put e.0 d ms) others.1 (lacks-put key is_key e.0 d ms others.0 h)

  lacks-put_members : (notes ms : Members) → AreNotes notes → Lack ms → Lack (put_members notes ms)
  lacks-put_members no_members ms are h = h
  lacks-put_members (member k d notes) ms are h = lacks-put_members notes (put k d ms) are.1
      (lacks-put key is_key k d ms (annotation_other k are.0) h)

  lacks_annotated : (notes : Members) (s : Data) → AreNotes notes → In s → In (annotated notes s)
  lacks_annotated no_members s are h = h
  lacks_annotated (member k d notes) s are h = lacks-put_members (member k d notes) (members_in s) are h

  -- ---- filled templates

  lacks_null_in_type : (o : Option Data) (ms : Members) → Lack ms → Lack (null_in_type o ms)
  lacks_null_in_type None ms h = h
  lacks_null_in_type (Some d) ms h = lacks-put key is_key (codes "type") (type_with_null d) ms refl h

  lacks_null_in_enum : (o : Option Data) (ms : Members) → Lack ms → Lack (null_in_enum o ms)
  lacks_null_in_enum None ms h = h
  lacks_null_in_enum (Some d) ms h = lacks-put key is_key (codes "enum") (enum_with_null d) ms refl h

  lacks_null_in_const : (o : Option Data) (ms : Members) → Lack ms → Lack (null_in_const o ms)
  lacks_null_in_const None ms h = lacks_null_in_enum (get_member (codes "enum") ms) ms h
  lacks_null_in_const (Some c) ms h = go (is_null c)
    where
      go : (b : Bool) → Lack (if b then ms else const_or_null c ms)
      go true = h
      go false = lacks-put key is_key (codes "enum") (array (item c (item null no_items))) (without (codes "const") ms) refl
          (lacks_without key is_key (codes "const") ms h)

  lacks_allow_null : (s : Data) → In s → In (allow_null s)
  lacks_allow_null (boolean true) h = refl
  lacks_allow_null (boolean false) h = lacks_both key is_key null_schema (refl, refl)
  lacks_allow_null (object ms) h = go (is_null_choice (object ms)) (is_combined (object ms))
    where
      typed_members : Members
      typed_members = null_in_type (get_member (codes "type") ms) ms

      go : (stays b : Bool) → In (if stays then object ms else if b then or_null (object ms) else
          object (null_in_values (null_in_type (get_member (codes "type") ms) ms)))
      go true b = h
      go false true = lacks_both key is_key (or_null (object ms)) (refl, refl)
      go false false = lacks_null_in_const (get_member (codes "const") typed_members) typed_members
          (lacks_null_in_type (get_member (codes "type") ms) ms h)
  lacks_allow_null null h = refl
  lacks_allow_null _ h = refl

  -- whatever fills it
  abbrev Fills : Template → Type 0
  Fills t = (ts : List Data) → AllByRecursion In ts → In (filled t ts)

  shape_lacks : (basis : Basis) (kind : Shape) → HasPlainLiteral kind → Fills (template_of basis kind)
  shape_lacks basis kind plain =
      outer_holds basis Fills HasPlainLiteral
      (λ d own ts h. lacks_both key is_key d own.2)
      (λ es others ts h. lacks-keyed es (filled_in (templates_of (map (λ e. e.1) es)) ts) no_members others refl)
      (λ a ts h. first_all In refl ts h)
      (λ t all ts h. lacks_allow_null (filled t ts) (all ts h))
      (λ t u all more ts h. lacks_flattened key is_key (filled t ts) (filled u (left t ts)) (all ts h)
      (more (left t ts) (left_all In t ts h)))
      (λ d plain ts h. lacks_both key is_key (literal_document d) (literal_other d plain)) kind plain

  -- ---- the document of a row

  module _ (basis : Basis) (Refers : ℕ → Text → Type 0) (plain : HasPlainNotes basis.rows) where
    fills : (n : ℕ) (e : Entry) → entry_at basis.rows n ≡ Some e → (ts : List Data) → AllByRecursion In ts
        → In (filled (entry_template basis e) ts)
    fills n e at ts h =
        let here : IsNotedEntry (Some e) = subst IsNotedEntry at (plain n) in
        lacks_annotated e.notes (filled (template_of basis e.shape) ts) here.0 (shape_lacks basis e.shape here.1 ts h)

    described_lacks : (d n : ℕ) (t : Data) → Describes basis Refers d n t → In t
    described_lacks = described_holds In (lacks_flattened_part key is_key) (lacks_opened_inside key is_key) basis Refers
        (λ j r h. lacks_both key is_key (reference r) (refl, refl)) fills

    lacks_with_title : (name : Text) (ms : Members) → Lack ms → Lack (with_title name ms)
    lacks_with_title name ms h = go (is_some (get_member (codes "title") ms))
      where
        go : (b : Bool) → Lack (if b then ms else put (codes "title") (string name) ms)
        go true = h
        go false = lacks-put key is_key (codes "title") (string name) ms refl h

    lacks_with_meta_schema : (uri : Option Text) (ms : Members) → Lack ms → Lack (with_meta_schema uri ms)
    lacks_with_meta_schema None ms h = h
    lacks_with_meta_schema (Some uri) ms h = lacks-put key is_key (codes "$schema") (string uri) ms refl h

    -- so there is room for definitions
    pub no_definitions_in : (name : Text) (uri : Option Text) (d n : ℕ) (own : Data) → Describes basis Refers d n own
        → get_member key (members_in (root_document name uri own)) ≡ None
    no_definitions_in name uri d n own h = lacks_with_meta_schema uri (with_title name (members_in own))
        (lacks_with_title name (members_in own) (described_lacks d n own h))
