-- What holds of objects by their keywords, and of all documents that are put together of them.
use Rattle.std.proofs.Common.{◌≡◌, ℕ, ℤ, pos, negsuc, List, [], ◌∷◌, ◌++◌, map, length, Bool, true, false, Option, Some, None, refl, arith, Contains}
use Rattle.schemars_meaning.proofs.Words.{AllByRecursion, codes, bytes_eq, not, Data, boolean, number, string, array, Text, get_member, IsSchema, members_in, object_of, references, NoSchemas, text_items, unit_variant, Shape, Fields, Flattened, KeyOptions, keys, required_names, type_alone, int_document, non_zero_document, bytes_document, Basis, Template, Ask, part, content, asked, finished, row, list, members, nullable, KeywordTemplate, templates_of, property, map_template, fields_template, with_flattened, struct_template, tuple_template, said, values_of, all_patterns, pattern_properties_at, properties_at, values_template, template_of, Contains-append_right, unsigned, of_integer, is_float, has_float, items_have_float, is_listed, Place, SchemaList, SchemasByName, place_under, zero_schema, format_of, pattern_of, least_of, greatest_of, int_keywords, is_signed, char_document, formatted_document, empty_list_document, schema_document, with_keywords, object_with, typed_template, count_template, exactly, list_template, units_template, members_asked, required_at, closed_keyword, other_values, literal_document, found_in}
use Rattle.schemars_shapes.specs.Shape as shape
use Rattle.schemars_shapes.specs.declared.shape.IntegerKeys.{IntegerKeys}
use Rattle.schemars_types.specs.declared.contract.Contract.{Contract}
use Rattle.schemars_types.specs.declared.contract.Contract.TheVariants.{Deserialize, Serialize}
use Rattle.schemars_meaning.proofs.ReferencesKept.{IsNoKey, AreApart, apart-filter, others_apart}
use Rattle.schemars_meaning.proofs.Parts.{either}
use Rattle.schemars_meaning.proofs.ShapeInduction.{Claim, of_each, chosen_by, AreKeysApart, names_of, Documents, Law, shape_holds}

-- ---- documents without rows

-- neither of the keys of definitions is there
abbrev pub HasNeither : Data → Type 0
HasNeither d = (get_member (codes "$defs") (members_in d) ≡ None) × (get_member (codes "definitions") (members_in d) ≡ None)

-- a schema of the library's own: it has no references, no definitions and no decimals
abbrev pub IsOwn : Data → Type 0
IsOwn d = IsSchema d × (references d ≡ []) × HasNeither d × (has_float d ≡ false)

bound_whole : (z : ℤ) → is_float (of_integer z) ≡ false
bound_whole (pos n) = refl
bound_whole (negsuc n) = refl

-- an integer with and without zero, whatever the bounds are
ints_own : (format : Text) (least greatest : Option ℤ) → IsOwn (object_of (int_keywords format least greatest))
    × IsOwn (object_of (int_keywords format least greatest ++ (codes "not", zero_schema) ∷ []))
unfolding found_in
ints_own format None None = ((tt, refl, (refl, refl), refl), (tt, refl, (refl, refl), refl))
ints_own format None (Some g) =
    let g = bound_whole g in ((tt, refl, (refl, refl), rw g refl), (tt, refl, (refl, refl), rw g refl))
ints_own format (Some l) None =
    let l = bound_whole l in ((tt, refl, (refl, refl), rw l refl), (tt, refl, (refl, refl), rw l refl))
ints_own format (Some l) (Some g) =
    let l = bound_whole l in
    let g = bound_whole g in
    ((tt, refl, (refl, refl), rw (l, g) refl), (tt, refl, (refl, refl), rw (l, g) refl))

bytes_own : (contract : Contract) → IsOwn (bytes_document contract)
unfolding found_in
bytes_own Deserialize = (tt, refl, (refl, refl), refl)
bytes_own Serialize = (tt, refl, (refl, refl), refl)

truth_own : (b : Bool) → IsOwn (boolean b)
unfolding found_in
truth_own true = (tt, refl, (refl, refl), refl)
truth_own false = (tt, refl, (refl, refl), refl)

texts_whole : (ks : List Text) → items_have_float (text_items ks) ≡ false
texts_whole [] = refl
texts_whole (k ∷ ks) = texts_whole ks

-- ---- keys of maps

patterns_apart : (integers : Option IntegerKeys) (ps : List Text) → AreApart ps → AreApart (all_patterns integers ps)
patterns_apart None ps h = h
patterns_apart (Some kind) ps h =
    (others_apart (pattern_of kind) ps, apart-filter (λ u. not (bytes_eq u (pattern_of kind))) ps h)

values_no_key : (k : Text) (value : ℕ) (ks : List Text) → IsNoKey k ks → IsNoKey k (names_of (values_of value ks))
values_no_key k value [] h = tt
values_no_key k value (l ∷ ks) h = (h.0, values_no_key k value ks h.1)

values_apart : (value : ℕ) (ks : List Text) → AreApart ks → AreApart (names_of (values_of value ks))
values_apart value [] h = tt
values_apart value (k ∷ ks) h = (values_no_key k value ks h.0, values_apart value ks h.1)

-- ---- by keyword

-- none of the keys of definitions
abbrev pub IsOther : Text → Type 0
IsOther k = is_listed k (codes "$defs" ∷ codes "definitions" ∷ []) ≡ false

-- where a keyword's value is read, which is no reference and no definitions
abbrev pub IsUnder : Place → Text → Type 0
IsUnder p k = (place_under k ≡ p) × (bytes_eq k (codes "$ref") ≡ false) × IsOther k

-- What is shown of a keyword with its value: the claim holds of an object, where this holds of its keywords.
pub record Keywords (c : Claim) : Type 1 where
  pub told : Text → Template → Type 0
  pub own : (d : Data) → IsOwn d → c.holds (finished d)
  pub said : (k : Text) (d : Data) → IsUnder NoSchemas k → has_float d ≡ false → told k (finished d)
  pub items : (n : ℕ) → c.holds (row n) → told (codes "items") (row n)
  pub others : (t : Template) → c.holds t → told (codes "additionalProperties") t
  pub listed : (k : Text) (ts : List Template) → IsUnder SchemaList k → AllByRecursion c.chosen ts → told k (list (templates_of ts))
  pub named : (k : Text) (es : List KeywordTemplate) → IsUnder SchemasByName k → AllByRecursion (λ e. c.inside e.1) es
      → c.names (names_of es) → told k (object_with es)
  pub object : (es : List KeywordTemplate) → AllByRecursion (λ e. told e.0 e.1) es → AreApart (names_of es) → c.holds (object_with es)
  pub apart : (ks : List Text) → AreApart ks → c.names ks

module _ (c : Claim) (k : Keywords c) where
  typed_told : (name : Text) → k.told (codes "type") (finished (string name))
  typed_told name = k.said (codes "type") (string name) (refl, refl, refl) refl

  units_hold : (ks : List Text) → c.holds (units_template ks)
  units_hold ks = k.object (typed_template (codes "string") ∷ said (codes "enum") (array (text_items ks)) ∷ []) (
    typed_told (codes "string"),
    (k.said (codes "enum") (array (text_items ks)) (refl, refl, refl) (texts_whole ks), tt),
  ) search

  least_told : (n : ℕ) → k.told (codes "minItems") (count_template (codes "minItems") n).1
  least_told n = k.said (codes "minItems") (number (unsigned n)) (refl, refl, refl) refl

  most_told : (n : ℕ) → k.told (codes "maxItems") (count_template (codes "maxItems") n).1
  most_told n = k.said (codes "maxItems") (number (unsigned n)) (refl, refl, refl) refl

  -- ---- lists

  list_holds : (n : ℕ) (rest : List KeywordTemplate) → c.holds (row n) → AllByRecursion (λ e. k.told e.0 e.1) rest
      → AreApart (codes "type" ∷ codes "items" ∷ names_of rest) → c.holds (list_template n rest)
  list_holds n rest h more apart =
      k.object (typed_template (codes "array") ∷ (codes "items", row n) ∷ rest) (typed_told (codes "array"), (k.items n h, more)) apart

  empty_list : c.holds (finished empty_list_document)
  unfolding found_in
  empty_list = k.own empty_list_document (tt, refl, (refl, refl), refl)

  rows_items : (ns : List ℕ) → ((m : ℕ) → Contains ns m → c.holds (row m)) → AllByRecursion c.chosen (map row ns)
  rows_items [] h = tt
  rows_items (n ∷ ns) h = (
    chosen_by c (row n) (h n (0, omega arith, refl)),
    rows_items ns (λ m is. h m (Contains-append_right (n ∷ []) ns m is)),
  )

  tuple_holds : (ns : List ℕ) → ((m : ℕ) → Contains ns m → c.holds (row m)) → c.holds (tuple_template ns)
  tuple_holds [] h = empty_list
  tuple_holds (n ∷ ns) h =
      let len = length (n ∷ ns) in
      k.object (typed_template (codes "array") ∷ (codes "prefixItems", list (templates_of (map row (n ∷ ns)))) ∷ exactly len) (
        typed_told (codes "array"),
        (
          k.listed (codes "prefixItems") (map row (n ∷ ns)) (refl, refl, refl) (rows_items (n ∷ ns) h),
          (least_told len, (most_told len, tt)),
        ),
      ) search

  all_chosen : (ts : List Template) → AllByRecursion c.inside ts → AllByRecursion c.chosen ts
  all_chosen [] h = tt
  all_chosen (t ∷ ts) h = (c.choice t h.0, all_chosen ts h.1)

  -- ---- maps

  -- all are told, and their names are different
  abbrev AreKeywords : List KeywordTemplate → Type 0
  AreKeywords es = AllByRecursion (λ e. k.told e.0 e.1) es × AreApart (names_of es)

  abbrev map_list : List KeywordTemplate → List Text → Bool → List KeywordTemplate
  map_list es ks closed = typed_template (codes "object") ∷ (properties_at es ++ (required_at (text_items ks) ++ closed_keyword closed))

  map_keywords : (es : List KeywordTemplate) (ks : List Text) (closed : Bool) → AllByRecursion (λ e. c.inside e.1) es
      → c.names (names_of es) → AreKeywords (map_list es ks closed)
  map_keywords es ks closed h apart = go es ks closed (k.named (codes "properties") es (refl, refl, refl) h apart)
    where
      start : k.told (codes "type") (finished (string (codes "object")))
      start = typed_told (codes "object")

      needs : (ks : List Text) → k.told (codes "required") (finished (array (text_items ks)))
      needs ks = k.said (codes "required") (array (text_items ks)) (refl, refl, refl) (texts_whole ks)

      never : k.told (codes "additionalProperties") (finished (boolean false))
      never = k.others (finished (boolean false)) (k.own (boolean false) (truth_own false))

      go : (es : List KeywordTemplate) (ks : List Text) (closed : Bool) → k.told (codes "properties") (object_with es)
          → AreKeywords (map_list es ks closed)
      go [] [] false p = ((start, tt), search)
      go [] [] true p = ((start, (never, tt)), search)
      go [] (r ∷ ks) false p = ((start, (needs (r ∷ ks), tt)), search)
      go [] (r ∷ ks) true p = ((start, (needs (r ∷ ks), (never, tt))), search)
      go (e ∷ es) [] false p = ((start, (p, tt)), search)
      go (e ∷ es) [] true p = ((start, (p, (never, tt))), search)
      go (e ∷ es) (r ∷ ks) false p = ((start, (p, (needs (r ∷ ks), tt))), search)
      go (e ∷ es) (r ∷ ks) true p = ((start, (p, (needs (r ∷ ks), (never, tt)))), search)

  map_holds : (es : List KeywordTemplate) (ks : List Text) (closed : Bool) → AllByRecursion (λ e. c.inside e.1) es
      → c.names (names_of es) → c.holds (map_template es (text_items ks) closed)
  map_holds es ks closed h apart = let all = map_keywords es ks closed h apart in k.object (map_list es ks closed) all.0 all.1

  values_items : (value : ℕ) (ks : List Text) → c.inside (row value) → AllByRecursion (λ e. c.inside e.1) (values_of value ks)
  values_items value [] h = tt
  values_items value (l ∷ ks) h = (h, values_items value ks h)

  abbrev values_list : Template → ℕ → List Text → List Text → List KeywordTemplate
  values_list other value texts qs = typed_template (codes "object") ∷ (codes "additionalProperties", other)
      ∷ (pattern_properties_at (values_of value qs) ++ properties_at (values_of value texts))

  values_keywords : (other : Template) (value : ℕ) (texts qs : List Text) → c.holds other → c.holds (row value) → AreApart texts
      → AreApart qs → AreKeywords (values_list other value texts qs)
  values_keywords other value texts qs o h a b =
      go texts qs (named (codes "properties") (refl, refl, refl) texts a) (named (codes "patternProperties") (refl, refl, refl) qs b)
    where
      named : (key : Text) → IsUnder SchemasByName key → (ks : List Text) → AreApart ks → k.told key (object_with (values_of value ks))
      named key under ks apart = k.named key (values_of value ks) under (values_items value ks (c.inner (row value) h))
          (k.apart (names_of (values_of value ks)) (values_apart value ks apart))

      go : (texts qs : List Text) → k.told (codes "properties") (object_with (values_of value texts))
          → k.told (codes "patternProperties") (object_with (values_of value qs))
          → AreKeywords (values_list other value texts qs)
      go [] [] p q = ((typed_told (codes "object"), (k.others other o, tt)), search)
      go (t ∷ texts) [] p q = ((typed_told (codes "object"), (k.others other o, (p, tt))), search)
      go [] (l ∷ qs) p q = ((typed_told (codes "object"), (k.others other o, (q, tt))), search)
      go (t ∷ texts) (l ∷ qs) p q = ((typed_told (codes "object"), (k.others other o, (q, (p, tt)))), search)

  other_holds : (others : Bool) (value : ℕ) → c.holds (row value) → c.holds (other_values others value)
  other_holds true value h = h
  other_holds false value h = k.own (boolean false) (truth_own false)

  values_hold : (options : KeyOptions) (value : ℕ) → AreKeysApart options → c.holds (row value) → c.holds (values_template options value)
  values_hold (keys others texts integers ps) value apart h =
      let all = values_keywords (other_values others value) value texts (all_patterns integers ps) (other_holds others value h) h apart.0
      (patterns_apart integers ps apart.1) in
      k.object (values_list (other_values others value) value texts (all_patterns integers ps)) all.0 all.1

  pub by_keyword : Documents c
  unfolding found_in
  by_keyword = record {
    type_of = λ name is. k.own (type_alone name) (tt, refl, (refl, refl), refl);
    int = λ kind. k.own (int_document kind) (ints_own (format_of kind) (least_of kind) (greatest_of kind)).0;
    non_zero = λ kind. k.own (non_zero_document kind) (either IsOwn (is_signed kind) _ _
        (ints_own (format_of kind) (least_of kind) (greatest_of kind)).1 (ints_own (format_of kind) (Some (pos 1)) (greatest_of kind)).0);
    char = k.own char_document (tt, refl, (refl, refl), refl);
    formatted = λ format. k.own (formatted_document format) (tt, refl, (refl, refl), refl);
    truth = λ b. k.own (boolean b) (truth_own b);
    bytes = λ contract. k.own (bytes_document contract) (bytes_own contract);
    schema_itself = k.own schema_document (tt, refl, (refl, refl), refl);
    empty_list = empty_list;
    unit = λ name. k.own (unit_variant name) (tt, refl, (refl, refl), refl);
    units = units_hold;
    seq = λ n h. list_holds n [] h tt search;
    set = λ n h. list_holds n (said (codes "uniqueItems") (boolean true) ∷ []) h
        (k.said (codes "uniqueItems") (boolean true) (refl, refl, refl) refl, tt) search;
    array = λ n len h. list_holds n (exactly len) h (least_told len, (most_told len, tt)) search;
    up_to = λ n most h. list_holds n (count_template (codes "maxItems") most ∷ []) h (most_told most, tt) search;
    tuple = tuple_holds;
    one_of = λ ts h.
        k.object ((codes "oneOf", list (templates_of ts)) ∷ []) (k.listed (codes "oneOf") ts (refl, refl, refl) h, tt) search;
    any_of = λ ts h.
        k.object ((codes "anyOf", list (templates_of ts)) ∷ [])
        (k.listed (codes "anyOf") ts (refl, refl, refl) (all_chosen ts h), tt) search;
    maps = map_holds;
    values = values_hold;
    apart = k.apart;
  }

  -- the members of flattened rows are added one after another
  flattened_holds : (contract : Contract) (add : (t u : Template) → c.holds t → c.holds u → c.holds (with_keywords t u))
      (ps : List Flattened) (t : Template) → c.holds t → AllByRecursion (λ p. c.holds (asked (members_asked contract p))) ps
      → c.holds (with_flattened contract ps t)
  flattened_holds contract add [] t h parts = h
  flattened_holds contract add (p ∷ ps) t h parts =
      flattened_holds contract add ps (with_keywords t (asked (members_asked contract p)))
      (add t (asked (members_asked contract p)) h parts.0) parts.1

  pub struct_holds : (contract : Contract) (add : (t u : Template) → c.holds t → c.holds u → c.holds (with_keywords t u)) (x : Fields)
      → AllByRecursion (λ e. c.inside e.1) (map property x.list) → c.names (names_of (map property x.list))
      → AllByRecursion (λ p. c.holds (asked (members_asked contract p))) x.flatten → c.holds (struct_template contract x)
  struct_holds contract add x fields apart parts =
      flattened_holds contract add x.flatten (fields_template contract x.list x.closed)
      (map_holds (map property x.list) (required_names contract x.list) x.closed fields apart) parts

-- ---- simpler laws

pub each : {X : Type 0} (P : X → Type 0) → ((x : X) → P x) → (xs : List X) → AllByRecursion P xs
each P all [] = tt
each P all (x ∷ xs) = (all x, each P all xs)

module _ (Holds : Template → Type 0) where
  pub values_all : (es : List KeywordTemplate) → AllByRecursion (λ e. Holds e.1) es → AllByRecursion Holds (map (λ e. e.1) es)
  values_all [] h = tt
  values_all (e ∷ es) h = (h.0, values_all es h.1)

-- what holds of an object where it holds of its values, whatever the keys are
module _ (Holds : Template → Type 0) (bare : (d : Data) → has_float d ≡ false → Holds (finished d))
    (lists : (ts : List Template) → AllByRecursion Holds ts → Holds (list (templates_of ts)))
    (objects : (ks : List Text) (ts : List Template) → AllByRecursion Holds ts → Holds (members ks (templates_of ts))) where
  pub by_value : Keywords (of_each Holds)
  by_value = record {
    told = λ k t. Holds t;
    own = λ d is. bare d is.3;
    said = λ k d under whole. bare d whole;
    items = λ n h. h;
    others = λ t h. h;
    listed = λ k ts under h. lists ts h;
    named = λ k es under h apart. objects (names_of es) (map (λ e. e.1) es) (values_all Holds es h);
    object = λ es h apart. objects (names_of es) (map (λ e. e.1) es) (values_all Holds es h);
    apart = λ ks h. tt;
  }

-- what holds of an object by its own keys, whatever the values are and whatever fills a row; literals alone need to be known
module _ (basis : Basis) (Holds : Template → Type 0) (Known : Shape → Type 0) (own : (d : Data) → IsOwn d → Holds (finished d))
    (object : (es : List KeywordTemplate) → AllByRecursion (λ e. IsOther e.0) es → Holds (object_with es))
    (rows : (a : Ask) → Holds (asked a)) (option : (t : Template) → Holds t → Holds (nullable t))
    (add : (t u : Template) → Holds t → Holds u → Holds (with_keywords t u))
    (literal : (d : Data) → Known (shape.literal d) → Holds (finished (literal_document d))) where
  abbrev outer : Claim
  outer = record {
    holds = Holds;
    inside = λ t. Unit {0};
    chosen = λ t. Unit {0};
    names = λ ks. Unit {0};
    inner = λ t h. tt;
    choice = λ t h. tt;
  }

  by_key : Keywords outer
  by_key = record {
    told = λ k t. IsOther k;
    own = own;
    said = λ k d under whole. under.2;
    items = λ n h. refl;
    others = λ t h. refl;
    listed = λ k ts under h. under.2;
    named = λ k es under h apart. under.2;
    object = λ es h apart. object es h;
    apart = λ ks h. tt;
  }

  any_struct : (x : Fields) → Holds (struct_template basis.contract x)
  any_struct x =
      struct_holds outer by_key basis.contract add x (each (λ e. Unit {0}) (λ e. tt) (map property x.list)) tt
      (each (λ p. Holds (asked (members_asked basis.contract p))) (λ p. rows (members_asked basis.contract p)) x.flatten)

  pub outer_law : Law basis
  outer_law = record {
    claim = outer;
    documents = by_keyword outer by_key;
    of_shape = Known;
    of_variants = λ tagging xs. Unit {0};
    of_payload = λ tagging p. Unit {0};
    rows = λ kind m h is. rows (part m);
    option = λ n h. option (row n) h;
    struct = λ x h. any_struct x;
    variants = λ tagging xs h. tt;
    literal = literal;
    payload = λ tagging x xs h. tt;
    notes = λ tagging x xs h t is. tt;
    later = λ tagging x xs h. tt;
    title = λ name t h. tt;
    payload_rows = λ tagging p m h is. rows (part m);
    payload_struct = λ tagging x h. any_struct x;
    content_row = λ tag closed n h. rows (content n);
    tag = λ tag closed x xs h is. tt;
    beside = λ tag key closed p h. tt;
  }

  pub outer_holds : (kind : Shape) → Known kind → Holds (template_of basis kind)
  unfolding outer_law
  outer_holds kind h = shape_holds basis outer_law kind h
