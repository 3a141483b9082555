-- The documents of shapes into which nothing is flattened say what the shapes mean, and null can be added to each document.
use Rattle.std.proofs.Common.{◌≡◌, ◌⊎◌, ℕ, ◌<◌, inl, inr, List, [], ◌∷◌, ◌++◌, map, Bool, true, false, refl, sym, ◌∙◌, subst}
use Rattle.schemars_meaning.proofs.Words.{AllByRecursion, ArePlainVariants, KeywordTemplate, ShapeHasContents, Template, asked, content, expanded_variant, filled_in, first, map_template, payload_parts, row, asks_in, template_of, templates_of, text_items, variant_parts, Data, depth, verdict, Text, IsJson, IsSchema, draft2020_12, Patterns, Judge, Context, judge, context2020_12, IsReady, ready-schema, key_options, Shape, Field, Flattened, Fields, VariantMatch, has_shape, Basis, IsPlainShape, parts_in, Ask, part, asks_of, filled, struct_template, codes, AreReady, ready-law, ready-allow_null, expanded_shape, title_alone, literal_is_schema, literal_judged, literal_ready, literal_document-schema}
use Rattle.schemars_meaning.proofs.Ready.{int_ready, non_zero_ready, bytes_ready, map_ready, tuple_ready, one_of_ready, any_of_ready, units_ready}
use Rattle.schemars_meaning.proofs.Notes.{ready-annotated}
use Rattle.schemars_meaning.proofs.Enums.{IsNewtypeIn, title_noted}
use Rattle.schemars_meaning.proofs.ShapeInduction.{Claim, Documents, Law, IsBeside, AreBeside, beside_halves, plain_variants, shape_holds}
use Rattle.schemars_meaning.proofs.Keyed.{values_ready, values_say}
use Rattle.schemars_shapes.specs.Shape as shape
use Rattle.schemars_types.specs.declared.contract.Contract.{Contract}
use Rattle.schemars_meaning.proofs.ByShape.{IsDocument, tuple_fills}
use Rattle.schemars_meaning.proofs.Filling.{Fit, without_end, all_filled}
use Rattle.schemars_meaning.proofs.EachShape.{bytes_say, schema_says, null_says, bool_says, number_says, text_says, formatted_says, char_says, any_says, seq_says, set_says, array_says, up_to_says, tuple_says, int_says, non_zero_says}
use Rattle.schemars_meaning.proofs.Choices.{result_says, bound_says, range_says, either_says}

-- ---- null can be added to each document

are_ready : (ts : List Data) → AllByRecursion IsReady ts → AreReady ts
are_ready [] h = tt
are_ready (t ∷ ts) h = (h.0, are_ready ts h.1)

-- `Under` says what may be flattened, so that null can be added to the document of a struct; the names of fields are of no matter here
module _ (A : Ask → Data → Type 0) (basis : Basis) (Under : List Flattened → Type 0)
    (apart : (ps qs : List Flattened) → Under (ps ++ qs) → Under ps × Under qs)
    (ready : (j : ℕ) (t : Data) → A (part j) t → IsReady t)
    (structs : (y : Fields) → Under y.flatten → (us : List Data) → Fit A (asks_of (struct_template basis.contract y)) us
    → IsReady (filled (struct_template basis.contract y) us)) where
  -- whatever fills it
  abbrev Makes : Template → Type 0
  Makes t = (us : List Data) → Fit A (asks_of t) us → IsReady (filled t us)

  -- null is added beside `oneOf`, whatever stands there
  abbrev claim : Claim
  claim = record {
    holds = Makes;
    inside = Makes;
    chosen = λ t. Unit {0};
    names = λ ks. Unit {0};
    inner = λ t h. h;
    choice = λ t h. tt;
  }

  row_ready : (n : ℕ) → Makes (row n)
  row_ready n [] fit = absurd fit
  row_ready n (t ∷ us) fit = ready n t fit.0

  maps_ready : (es : List KeywordTemplate) (ks : List Text) (closed : Bool) (us : List Data)
      → IsReady (filled (map_template es (text_items ks) closed) us)
  maps_ready [] [] false us = map_ready [] [] false
  maps_ready [] [] true us = map_ready [] [] true
  maps_ready [] (k ∷ ks) false us = map_ready [] (k ∷ ks) false
  maps_ready [] (k ∷ ks) true us = map_ready [] (k ∷ ks) true
  maps_ready (e ∷ es) [] false us = inr (record { alone = refl; type_form = refl; values = inl refl; not_form = inl refl })
  maps_ready (e ∷ es) [] true us = inr (record { alone = refl; type_form = refl; values = inl refl; not_form = inl refl })
  maps_ready (e ∷ es) (k ∷ ks) false us =
      inr (record { alone = refl; type_form = refl; values = inl refl; not_form = inl refl })
  maps_ready (e ∷ es) (k ∷ ks) true us =
      inr (record { alone = refl; type_form = refl; values = inl refl; not_form = inl refl })

  documents : Documents claim
  documents = record {
    type_of = λ name is us fit. inr (record { alone = refl; type_form = is; values = inl refl; not_form = inl refl });
    int = λ kind us fit. int_ready kind;
    non_zero = λ kind us fit. non_zero_ready kind;
    char = λ us fit. inr (record { alone = refl; type_form = refl; values = inl refl; not_form = inl refl });
    formatted = λ format us fit.
        inr (record { alone = refl; type_form = refl; values = inl refl; not_form = inl refl });
    truth = λ b us fit. tt;
    bytes = λ contract us fit. bytes_ready contract;
    schema_itself = λ us fit. inr (record {
      alone = refl;
      type_form = (codes "object" ∷ codes "boolean" ∷ [], refl, refl);
      values = inl refl;
      not_form = inl refl;
    });
    empty_list = λ us fit. inr (record { alone = refl; type_form = refl; values = inl refl; not_form = inl refl });
    unit = λ name us fit. inr (record { alone = refl; type_form = refl; values = inr (refl, refl); not_form = inl refl });
    units = λ ks us fit. units_ready ks;
    seq = λ n h us fit. inr (record { alone = refl; type_form = refl; values = inl refl; not_form = inl refl });
    set = λ n h us fit. inr (record { alone = refl; type_form = refl; values = inl refl; not_form = inl refl });
    array = λ n len h us fit.
        inr (record { alone = refl; type_form = refl; values = inl refl; not_form = inl refl });
    up_to = λ n most h us fit.
        inr (record { alone = refl; type_form = refl; values = inl refl; not_form = inl refl });
    tuple = λ ns h us fit. let d = tuple_fills A ns us fit in subst IsReady (sym d.2) (tuple_ready d.0);
    one_of = λ ts h us fit. one_of_ready (filled_in (templates_of ts) us) _ refl;
    any_of = λ ts h us fit. any_of_ready (filled_in (templates_of ts) us)
        (are_ready _ (all_filled A IsReady ts h us (without_end A (asks_in (templates_of ts)) us fit)));
    maps = λ es ks closed h apart us fit. maps_ready es ks closed us;
    values = λ options value apart h us fit. values_ready options value us;
    apart = λ ks h. tt;
  }

  -- `Fits` says which rows may stand beside a tag
  module _ (others : Flattened → List Field) (enums : Flattened → List ℕ) (Fits : Text → ℕ → Type 0)
      (contents : (tag : Text) (n : ℕ) (t : Data) → Fits tag n → A (content n) t → IsReady t) where
    content_ready : (tag : Text) (n : ℕ) → Fits tag n → Makes (asked (content n))
    content_ready tag n fits [] fit = absurd fit
    content_ready tag n fits (t ∷ us) fit = contents tag n t fits fit.0

    ready_law : Law basis
    ready_law = record {
      claim = claim;
      documents = documents;
      of_shape = λ kind. IsPlainShape (expanded_shape others enums kind) × Under (parts_in kind) × ShapeHasContents Fits kind;
      of_variants = λ tagging xs.
          ArePlainVariants (map (expanded_variant others enums) xs) × AreBeside others enums Fits tagging xs × Under (variant_parts xs);
      of_payload = λ tagging p. IsBeside others enums Fits tagging p × Under (payload_parts p);
      rows = λ kind m h is. row_ready m;
      option = λ n h us fit. ready-allow_null (first us) (h us fit);
      struct = λ x h. structs x h.1;
      variants = λ tagging xs h. let own = plain_variants others enums Fits tagging xs h.0 h.2 in (own.0, own.1, h.1);
      literal = λ d h us fit. rw (literal_document-schema d (literal_is_schema d h.0)) (literal_ready d h.0);
      payload = λ tagging x xs h.
          ((beside_halves others enums Fits tagging x xs h.1).0, (apart (payload_parts x.payload) (variant_parts xs) h.2).0);
      notes = λ tagging x xs h t is us fit. ready-annotated x.notes (filled t us) h.0.0 (is us fit);
      later = λ tagging x xs h.
          (h.0.2, (beside_halves others enums Fits tagging x xs h.1).1, (apart (payload_parts x.payload) (variant_parts xs) h.2).1);
      title = λ name t is us fit. ready-annotated (title_alone name) (filled t us) (title_noted name) (is us fit);
      payload_rows = λ tagging p m h is. row_ready m;
      payload_struct = λ tagging x h. structs x h.1;
      content_row = λ tag closed n h us fit. content_ready tag n h.0.1 us fit;
      tag = λ tag closed x xs h is. tt;
      beside = λ tag key closed p h. tt;
    }

    pub shape_ready : (kind : Shape) → IsPlainShape (expanded_shape others enums kind) → Under (parts_in kind)
        → ShapeHasContents Fits kind → Makes (template_of basis kind)
    unfolding ready_law
    shape_ready kind p flat fit = shape_holds basis ready_law kind (p, flat, fit)

-- ---- one shape

-- the parts whose values are the value itself
abbrev pub IsSame : Shape → ℕ → Type 0
IsSame (shape.option n) j = j ≡ n
IsSame (shape.newtype n) j = j ≡ n
IsSame (shape.enum shape.by_nothing xs) j = IsNewtypeIn j xs
IsSame (shape.enum (shape.by_tag tag closed) xs) j = IsNewtypeIn j xs
IsSame _ j = ⊥

-- where a part is asked: inside the value, or of the value itself
abbrev pub Inside : Shape → Data → ℕ → Data → Type 0
Inside kind v j w = (depth w < depth v) ⊎ (IsSame kind j × (w ≡ v))

-- no struct, and no enum
abbrev pub IsSimple : Shape → Type 0
IsSimple (shape.struct x) = ⊥
IsSimple (shape.enum tagging xs) = ⊥
IsSimple kind = Unit {0}

module _ (patterns : Patterns) (f : Text → Judge) (basis : Basis) (A : Ask → Data → Type 0) (M : ℕ → Data → Bool)
    (C : ℕ → Data → List VariantMatch) (has : Flattened → List Field) (enums : Flattened → List ℕ)
    (ready : (j : ℕ) (t : Data) → A (part j) t → IsReady t) where
  abbrev W : ℕ → Data → Type 0
  W j = A (part j)

  abbrev contract : Contract
  contract = basis.contract

  abbrev c : Context
  c = context2020_12 patterns f

  abbrev Agrees : Shape → Data → Type 0
  Agrees kind v = (j : ℕ) (t w : Data) → W j t → IsJson w → Inside kind v j w → (judge c t).fits w ≡ verdict (M j w)

  abbrev schemas : (j : ℕ) (t : Data) → W j t → IsSchema t
  schemas j t is = ready-schema t (ready j t is)

  pub simple_says : (kind : Shape) (s : Data) → IsSimple kind → IsPlainShape (expanded_shape has enums kind) → IsDocument A has basis kind s
      → (v : Data) → IsJson v → Agrees kind v
      → (judge c s).fits v ≡ verdict (has_shape contract patterns (key_options basis.rows) C M (expanded_shape has enums kind) v)
  simple_says shape.null s simple p is v json agree = rw is (null_says patterns f basis M v)
  simple_says shape.bool s simple p is v json agree = rw is (bool_says patterns f basis M v)
  simple_says (shape.int k) s simple p is v json agree = rw is (int_says patterns f basis M k v)
  simple_says (shape.non_zero k) s simple p is v json agree = rw is (non_zero_says patterns f basis M k v json)
  simple_says shape.number s simple p is v json agree = rw is (number_says patterns f basis M v)
  simple_says shape.text s simple p is v json agree = rw is (text_says patterns f basis M v)
  simple_says shape.char s simple p is v json agree = rw is (char_says patterns f basis M v)
  simple_says (shape.formatted g) s simple p is v json agree = rw is (formatted_says patterns f basis M g v)
  simple_says shape.any s simple p is v json agree = rw is (any_says patterns f basis M v)
  simple_says shape.bytes s simple p is v json agree = rw is (bytes_say patterns f basis M v)
  simple_says shape.schema_itself s simple p is v json agree = rw is (schema_says patterns f basis M v)
  simple_says (shape.option j) s simple p is v json agree =
      rw is.2 (ready-law draft2020_12 (inl refl) is.0 (ready j is.0 is.1) patterns f v (M j v)
      (agree j is.0 v is.1 json (inr (refl, refl))))
  simple_says (shape.seq j) s simple p is v json agree = rw is.2 (seq_says patterns f basis M j is.0 (schemas j is.0 is.1) v json
      (λ w js less. agree j is.0 w is.1 js (inl less)))
  simple_says (shape.set j) s simple p is v json agree = rw is.2 (set_says patterns f basis M j is.0 (schemas j is.0 is.1) v json
      (λ w js less. agree j is.0 w is.1 js (inl less)))
  simple_says (shape.array j len) s simple p is v json agree = array_says patterns f basis M W schemas j len s is v json
      (λ t w a js less. agree j t w a js (inl less))
  simple_says (shape.up_to j cap) s simple p is v json agree =
      rw is.2 (up_to_says patterns f basis M j cap is.0 (schemas j is.0 is.1) v json
      (λ w js less. agree j is.0 w is.1 js (inl less)))
  simple_says (shape.tuple ns) s simple p is v json agree = rw is.2 (tuple_says patterns f basis M W schemas ns is.0 is.1 v json
      (λ j t w a js less. agree j t w a js (inl less)))
  simple_says (shape.newtype j) s simple p is v json agree = agree j s v is json (inr (refl, refl))
  simple_says (shape.result a b) s simple p is v json agree = rw is.4 (result_says patterns f basis M W schemas v json
      (λ j t w x js less. agree j t w x js (inl less)) a b is.0 is.1 is.2 is.3)
  simple_says (shape.bound n) s simple p is v json agree = rw is.4 (bound_says patterns f basis M W schemas v json
      (λ j t w x js less. agree j t w x js (inl less)) n is.0 is.1 is.2 is.3)
  simple_says (shape.range n) s simple p is v json agree = rw is.4 (range_says patterns f basis M W schemas v json
      (λ j t w x js less. agree j t w x js (inl less)) n is.0 is.1 is.2 is.3)
  simple_says (shape.either a b) s simple p is v json agree = rw is.4 (either_says patterns f basis M W schemas v json
      (λ j t w x js less. agree j t w x js (inl less)) a b is.0 is.1 is.2 is.3)
  simple_says (shape.map_from key value) s simple p is v json agree = rw is.is (values_say patterns f A (M value) value
      (λ t w. schemas value t w) (key_options basis.rows key) v json (λ t w is js less. agree value t w is js
      (inl less)) is.parts is.answered)
  simple_says (shape.literal d) s simple p is v json agree =
      rw (is ∙ literal_document-schema d (literal_is_schema d p)) (literal_judged c refl refl d v p)
  simple_says _ s simple p is v json agree = absurd simple
