-- What fills the templates of enums and maps is what the laws of the drafts speak of, where the answers are.
use Rattle.std.proofs.Common.{ℕ, List, [], ◌∷◌, ◌++◌, map, Bool, true, false, codes, refl, sym, subst}
use Rattle.schemars_headline.proofs.Words.{all_filled, AllByRecursion, Data, string, no_members, put, Text, put_all, Field, Fields, Flattened, Shape, KeyOptions, keys, AreNoted, Keyword, Basis, Ask, part, Template, asks_of, filled, filled_in, keyed, left, struct_template, template_of, KeywordTemplate, typed_template, object_with, values_of, all_patterns, pattern_properties_at, properties_at, other_values, values_template, internally_tagged_variant, first_all, left_all, Fit, asked_of_members, recursion_from_All, literal_is_schema, text_items, flattened_fields, effective, expanded_shape, IsPlainShape, ShapeHasContents, content, parts_in, payload_parts, variant_parts, IsNotedPayload, IsNotedShape, AreNotedVariants, row, asks_in, first, Templates, templates_of, map_template, tuple_template, content_template, title_alone, literal_document-schema, without_end, tuple_fills, title_noted, values_ask, of_each, AreKeysApart, Documents, Law, IsBeside, AreBeside, beside_halves, plain_variants, shape_holds, values_all, asked}
use Rattle.schemars_templates.specs.Template.{asked as asked_for}
use Rattle.schemars_headline.proofs.Changes.{Demand, Class, AreGood, are-put, IsGood, good, good_truth, good-annotated, good-allow_null}
use Rattle.schemars_headline.proofs.Documents.{AllGood, are-typed, type-good, int-good, non_zero-good, char-good, formatted-good, bytes-good, schema_itself-good, empty_list-good, seq-good, set-good, array-good, up_to-good, tuple-good, parts-good, tagged-good, unit-good, units-good, one_of-good, any_of-good, map-good, AllNamed, asked-all, literal-good}

noted-append : (xs ys : List Field) → AreNoted xs → AreNoted ys → AreNoted (xs ++ ys)
noted-append [] ys a b = b
noted-append (x ∷ xs) ys a b = (a.0, noted-append xs ys a.1 b)

module _ (has : Flattened → List Field) (noted_rows : (p : Flattened) → AreNoted (has p)) where
  noted-flattened : (ps : List Flattened) → AreNoted (flattened_fields has ps)
  noted-flattened [] = tt
  noted-flattened (p ∷ ps) = noted-append (has p) (flattened_fields has ps) (noted_rows p) (noted-flattened ps)

  pub noted-effective : (x : Fields) → AreNoted x.list → AreNoted (effective has x)
  noted-effective x own = noted-append x.list (flattened_fields has x.flatten) own (noted-flattened x.flatten)

-- ---- maps

-- the values of members under their names
abbrev named : List KeywordTemplate → List Data → List Keyword
named es us = keyed (map (λ e. e.0) es) (filled_in (templates_of (map (λ e. e.1) es)) us)

module _ (R : Demand) where
  named-good : (ks : List Text) (ds : List Data) → AllGood R ds → AllNamed R (keyed ks ds)
  named-good [] ds all = tt
  named-good (k ∷ ks) [] all = tt
  named-good (k ∷ ks) (d ∷ ds) all = (all.0, named-good ks ds all.1)

  abbrev rows_at : ℕ → List Text → Templates
  rows_at value ks = templates_of (map (λ (e : KeywordTemplate). e.1) (values_of value ks))

  abbrev keywords_at : ℕ → List Text → List Data → List Keyword
  keywords_at value ks us = keyed (map (λ (e : KeywordTemplate). e.0) (values_of value ks)) (filled_in (rows_at value ks) us)

  -- the values of these keys
  rows-named : (value : ℕ) (ks : List Text) (us : List Data) → AllGood R us → AllNamed R (keywords_at value ks us)
  rows-named value [] us all = tt
  rows-named value (k ∷ ks) us all =
      (first_all (IsGood R) (good_truth R true) us all, rows-named value ks _ (left_all (IsGood R) (row value) us all))

  named-asked : (value : ℕ) (ks : List Text) (us : List Data) → AllGood R us
      → asked_of_members (Class R) (put_all (keywords_at value ks us) no_members)
  unfolding asked
  named-asked value ks us all = asked-all R (keywords_at value ks us) no_members (rows-named value ks us all) tt

  keyed-good : (other : Template) (value : ℕ) (texts qs : List Text) (us : List Data) → IsGood R (filled other us) → AllGood R us
      → IsGood R (filled (object_with (typed_template (codes "object") ∷ (codes "additionalProperties", other)
      ∷ (pattern_properties_at (values_of value qs) ++ properties_at (values_of value texts)))) us)
  unfolding asked
  keyed-good other value texts qs us is all = go texts qs
    where
      start : AreGood R (put (codes "additionalProperties") (filled other us)
          (put (codes "type") (string (codes "object")) no_members))
      start =
          are-put R (codes "additionalProperties") (filled other us)
          (put (codes "type") (string (codes "object")) no_members) refl is.everywhere
          (are-typed R (codes "object"))

      behind : AllGood R (left other us)
      behind = left_all (IsGood R) other us all

      go : (texts qs : List Text) → IsGood R (filled (object_with (typed_template (codes "object") ∷ (codes "additionalProperties", other)
          ∷ (pattern_properties_at (values_of value qs) ++ properties_at (values_of value texts)))) us)
      go [] [] = good R _ start
      go (t ∷ texts) [] =
          good R _ (are-put R (codes "properties") _ _ refl (named-asked value (t ∷ texts) (left other us) behind) start)
      go [] (q ∷ qs) =
          good R _ (are-put R (codes "patternProperties") _ _ refl (named-asked value (q ∷ qs) (left other us) behind) start)
      go (t ∷ texts) (q ∷ qs) =
          good R _ (are-put R (codes "properties") _ _ refl
          (named-asked value (t ∷ texts) _ (left_all (IsGood R) (object_with (values_of value (q ∷ qs))) (left other us) behind))
          (are-put R (codes "patternProperties") _ _ refl (named-asked value (q ∷ qs) (left other us) behind) start))

  other-good : (others : Bool) (value : ℕ) (us : List Data) → AllGood R us → IsGood R (filled (other_values others value) us)
  other-good true value us all = first_all (IsGood R) (good_truth R true) us all
  other-good false value us all = good_truth R false

  values-good : (options : KeyOptions) (value : ℕ) (us : List Data) → AllGood R us
      → IsGood R (filled (values_template options value) us)
  values-good (keys others texts integers ps) value us all =
      keyed-good (other_values others value) value texts (all_patterns integers ps) us (other-good others value us all) all

-- ---- shapes

-- `Under` says what may be flattened, so that the documents of structs are of the class
module _ (R : Demand) (A : Ask → Data → Type 0) (basis : Basis) (Under : List Flattened → Type 0)
    (apart : (ps qs : List Flattened) → Under (ps ++ qs) → Under ps × Under qs)
    (structs : (y : Fields) → AreNoted y.list → Under y.flatten → (us : List Data)
    → Fit A (asks_of (struct_template basis.contract y)) us → IsGood R (filled (struct_template basis.contract y) us))
    (parts : (j : ℕ) (t : Data) → A (part j) t → IsGood R t) where
  -- whatever fills it
  abbrev pub Makes : Template → Type 0
  Makes t = (us : List Data) → Fit A (asks_of t) us → IsGood R (filled t us)

  all-last : (ts : List Template) → AllByRecursion Makes ts → (us : List Data) → Fit A (asks_in (templates_of ts) ++ []) us
      → AllGood R (filled_in (templates_of ts) us)
  all-last ts make us fit = all_filled A (IsGood R) ts make us (without_end A (asks_in (templates_of ts)) us fit)

  map-makes : (es : List KeywordTemplate) (ks : List Text) (closed : Bool) → AllByRecursion (λ e. Makes e.1) es
      → Makes (map_template es (text_items ks) closed)
  map-makes es ks closed make us = go es ks closed (λ us fit.
      named-good R (map (λ e. e.0) es) _ (all-last (map (λ e. e.1) es) (values_all Makes es make) us fit)) us
    where
      go : (es : List KeywordTemplate) (ks : List Text) (closed : Bool)
          → ((us : List Data) → Fit A (asks_in (templates_of (map (λ e. e.1) es)) ++ []) us → AllNamed R (named es us))
          → (us : List Data) → Fit A (asks_of (map_template es (text_items ks) closed)) us
          → IsGood R (filled (map_template es (text_items ks) closed) us)
      go [] [] false all us fit = map-good R [] [] false tt
      go [] [] true all us fit = map-good R [] [] true tt
      go [] (k ∷ ks) false all us fit = map-good R [] (k ∷ ks) false tt
      go [] (k ∷ ks) true all us fit = map-good R [] (k ∷ ks) true tt
      go (e ∷ es) [] false all us fit = map-good R (named (e ∷ es) us) [] false (all us fit)
      go (e ∷ es) [] true all us fit = map-good R (named (e ∷ es) us) [] true (all us fit)
      go (e ∷ es) (k ∷ ks) false all us fit = map-good R (named (e ∷ es) us) (k ∷ ks) false (all us fit)
      go (e ∷ es) (k ∷ ks) true all us fit = map-good R (named (e ∷ es) us) (k ∷ ks) true (all us fit)

  -- rows alone are asked for the values of a map
  answered : (asks : List Ask) (us : List Data) → AllByRecursion (λ a. (t : Data) → A a t → IsGood R t) asks → Fit A asks us → AllGood R us
  answered [] us all fit = subst (AllGood R) (sym fit) tt
  answered (a ∷ asks) [] all fit = absurd fit
  answered (a ∷ asks) (u ∷ us) all fit = (all.0 u fit.0, answered asks us all.1 fit.1)

  values-make : (options : KeyOptions) (value : ℕ) → AreKeysApart options → Makes (values_template options value)
  values-make options value apart us fit =
      let P : Ask → Type 0 = λ a. (t : Data) → A a t → IsGood R t in
      let asks : List Ask = asks_of (values_template options value) in
      values-good R options value us (answered asks us (recursion_from_All P asks (values_ask P options value apart (parts value))) fit)

  row-makes : (n : ℕ) → Makes (row n)
  row-makes n [] fit = absurd fit
  row-makes n (t ∷ us) fit = parts n t fit.0

  tuple-makes : (ns : List ℕ) → Makes (tuple_template ns)
  tuple-makes ns us fit =
      let d = tuple_fills A ns us fit in
      subst (IsGood R) (sym d.2) (tuple-good R d.0 (parts-good R (λ j. A (part j)) parts ns d.0 d.1))

  documents : Documents (of_each Makes)
  documents = record {
    type_of = λ name is us fit. type-good R name;
    int = λ kind us fit. int-good R kind;
    non_zero = λ kind us fit. non_zero-good R kind;
    char = λ us fit. char-good R;
    formatted = λ format us fit. formatted-good R format;
    truth = λ b us fit. good_truth R b;
    bytes = λ contract us fit. bytes-good R contract;
    schema_itself = λ us fit. schema_itself-good R;
    empty_list = λ us fit. empty_list-good R;
    unit = λ name us fit. unit-good R name;
    units = λ ks us fit. units-good R ks;
    seq = λ n make us fit. seq-good R (first us) (make us fit);
    set = λ n make us fit. set-good R (first us) (make us fit);
    array = λ n len make us fit. array-good R len (first us) (make us fit);
    up_to = λ n most make us fit. up_to-good R most (first us) (make us fit);
    tuple = λ ns make. tuple-makes ns;
    one_of = λ ts make us fit. one_of-good R (filled_in (templates_of ts) us) (all-last ts make us fit);
    any_of = λ ts make us fit. any_of-good R (filled_in (templates_of ts) us) (all-last ts make us fit);
    maps = λ es ks closed make apart. map-makes es ks closed make;
    values = λ options value apart make. values-make options value apart;
    apart = λ ks h. tt;
  }

  -- `Fits` says which rows may stand beside a tag
  module _ (others : Flattened → List Field) (enums : Flattened → List ℕ) (Fits : Text → ℕ → Type 0)
      (contents : (tag : Text) (n : ℕ) (t : Data) → Fits tag n → A (content n) t → IsGood R t) where
    abbrev pub OfShape : Shape → Type 0
    OfShape kind = (IsPlainShape (expanded_shape others enums kind) × ShapeHasContents Fits kind) × IsNotedShape kind × Under (parts_in kind)

    content-makes : (tag : Text) (n : ℕ) → Fits tag n → Makes (asked_for (content n))
    content-makes tag n fits [] fit = absurd fit
    content-makes tag n fits (t ∷ us) fit = contents tag n t fits fit.0

    good_law : Law basis
    good_law = record {
      claim = of_each Makes;
      documents = documents;
      of_shape = OfShape;
      of_variants = λ tagging xs. AreBeside others enums Fits tagging xs × AreNotedVariants xs × Under (variant_parts xs);
      of_payload = λ tagging p. IsBeside others enums Fits tagging p × IsNotedPayload p × Under (payload_parts p);
      rows = λ kind m h is. row-makes m;
      option = λ n make us fit. good-allow_null R (first us) (make us fit);
      struct = λ x h. structs x h.1 h.2;
      variants = λ tagging xs h. ((plain_variants others enums Fits tagging xs h.0.0 h.0.1).1, h.1, h.2);
      literal = λ d h us fit. rw (literal_document-schema d (literal_is_schema d h.0.0)) (literal-good R d h.0.0);
      payload = λ tagging x xs h. (
        (beside_halves others enums Fits tagging x xs h.0).0,
        h.1.1,
        (apart (payload_parts x.payload) (variant_parts xs) h.2).0,
      );
      notes = λ tagging x xs h t make us fit. good-annotated R x.notes (filled t us) h.1.0 (make us fit);
      later = λ tagging x xs h. (
        (beside_halves others enums Fits tagging x xs h.0).1,
        h.1.2,
        (apart (payload_parts x.payload) (variant_parts xs) h.2).1,
      );
      title = λ name t make us fit. good-annotated R (title_alone name) (filled t us) (title_noted name) (make us fit);
      payload_rows = λ tagging p m h is. row-makes m;
      payload_struct = λ tagging x h. structs x h.1 h.2;
      content_row = λ tag closed n h. content-makes tag n h.0.1;
      tag = λ tag closed x xs h make us fit.
          let bare = filled (content_template basis.contract x.payload) us in
          good-annotated R x.notes (internally_tagged_variant tag x.name closed bare) h.1.0
          (tagged-good R tag x.name closed bare (make us fit));
      beside = λ tag key closed p h. tt;
    }

    pub shape-makes : (kind : Shape) → OfShape kind → Makes (template_of basis kind)
    unfolding good_law
    shape-makes kind h = shape_holds basis good_law kind h
