-- What is asked in a shape's template is of the rows of the shape.
use Rattle.std.proofs.Common.{ℕ, List, [], ◌∷◌, ◌++◌, map, Bool, refl, arith, All, Contains}
use Rattle.schemars_meaning.proofs.Words.{AllByRecursion, All-nil, All-cons, All-append, Shape, Field, Flattened, Fields, Payload, Variant, newtype_payload, is_required, KeyOptions, values_template, Basis, Template, Ask, part, members_of, content, asked, asks_of, asks_in, templates_of, property, struct_template, template_of, Contains-append_left, Contains-append_right, Tagging, enum, by_tag, numbers_of, flattened_numbers, flattened_rows, fields_numbers, payload_numbers, payload_flattened, variant_numbers, of_variants, members_asked}
use Rattle.schemars_types.specs.declared.contract.Contract.{Contract}
use Rattle.schemars_meaning.proofs.ShapeInduction.{of_each, AreKeysApart, Documents, Law, shape_holds}
use Rattle.schemars_meaning.proofs.ByKeyword.{Keywords, by_value, by_keyword, struct_holds}

abbrev pub asks_at : List Field → List Ask
asks_at xs = asks_in (templates_of (map (λ e. e.1) (map property xs)))

-- ---- the contents of tagged variants

abbrev pub payload_contents : Payload → List ℕ
payload_contents (newtype_payload n) = n ∷ []
payload_contents _ = []

-- the rows whose values are beside a tag
abbrev pub contents_of : Shape → List ℕ
contents_of (enum (by_tag tag closed) xs) = of_variants payload_contents xs
contents_of _ = []

-- ---- all that is asked

-- what holds of whatever is asked of a shape's rows holds of all that its template asks
module _ (P : Ask → Type 0) where
  abbrev Parts : List ℕ → Type 0
  Parts ns = (m : ℕ) → Contains ns m → P (part m)

  abbrev Members : List ℕ → Type 0
  Members ns = (m : ℕ) (b : Bool) → Contains ns m → P (members_of m b)

  abbrev Contents : List ℕ → Type 0
  Contents ns = (m : ℕ) → Contains ns m → P (content m)

  -- of the template
  abbrev Asks : Template → Type 0
  Asks t = All P (asks_of t)

  one : (a : Ask) → P a → All P (a ∷ [])
  one a h = All-cons P a [] h (All-nil P)

  listed : (ts : List Template) → AllByRecursion Asks ts → All P (asks_in (templates_of ts))
  listed [] h = All-nil P
  listed (t ∷ ts) h = All-append P (asks_of t) (asks_in (templates_of ts)) h.0 (listed ts h.1)

  by_asks : Keywords (of_each Asks)
  by_asks = by_value Asks (λ d h. All-nil P) listed (λ ks ts h. listed ts h)

  documents : Documents (of_each Asks)
  documents = by_keyword (of_each Asks) by_asks

  -- rows alone are asked for the values of a map
  pub values_ask : (options : KeyOptions) (value : ℕ) → AreKeysApart options → P (part value)
      → All P (asks_of (values_template options value))
  values_ask options value apart h = documents.values options value apart (one (part value) h)

  -- ---- structs

  fields_all : (xs : List Field) → Parts (map (λ x. x.ty) xs) → AllByRecursion (λ e. Asks e.1) (map property xs)
  fields_all [] h = tt
  fields_all (x ∷ xs) h = (
    one (part x.ty) (h x.ty (0, omega arith, refl)),
    fields_all xs (λ m is. h m (Contains-append_right (x.ty ∷ []) (map (λ x. x.ty) xs) m is)),
  )

  flattened_all : (contract : Contract) (ps : List Flattened) → Members (map (λ p. p.ty) ps)
      → AllByRecursion (λ p. Asks (asked (members_asked contract p))) ps
  flattened_all contract [] h = tt
  flattened_all contract (p ∷ ps) h = (
    one (members_asked contract p) (h p.ty (is_required contract p.required) (0, omega arith, refl)),
    flattened_all contract ps (λ m b is. h m b (Contains-append_right (p.ty ∷ []) (map (λ p. p.ty) ps) m is)),
  )

  struct_all : (contract : Contract) (x : Fields) → Parts (fields_numbers x) → Members (flattened_rows x)
      → Asks (struct_template contract x)
  struct_all contract x h g =
      struct_holds (of_each Asks) by_asks contract (λ t u h g. All-append P (asks_of t) (asks_of u) h g) x
      (fields_all x.list (λ m is. h m (Contains-append_left (map (λ x. x.ty) x.list) (flattened_rows x) m is))) tt
      (flattened_all contract x.flatten g)

  -- ---- enums

  abbrev InTags : Tagging → List ℕ → Type 0
  InTags (by_tag tag closed) ns = Contents ns
  InTags _ ns = Unit {0}

  in_tags : (tagging : Tagging) (ns ms : List ℕ) → InTags tagging (ns ++ ms) → InTags tagging ns × InTags tagging ms
  in_tags (by_tag tag closed) ns ms h =
      (λ m is. h m (Contains-append_left ns ms m is), λ m is. h m (Contains-append_right ns ms m is))
  in_tags _ ns ms h = (tt, tt)

  abbrev OfShape : Shape → Type 0
  OfShape kind = Parts (numbers_of kind) × Members (flattened_numbers kind) × Contents (contents_of kind)

  abbrev OfVariants : Tagging → List Variant → Type 0
  OfVariants tagging xs =
      Parts (variant_numbers xs) × Members (of_variants payload_flattened xs) × InTags tagging (of_variants payload_contents xs)

  abbrev OfPayload : Tagging → Payload → Type 0
  OfPayload tagging p = Parts (payload_numbers p) × Members (payload_flattened p) × InTags tagging (payload_contents p)

  variants : (tagging : Tagging) (xs : List Variant) → OfShape (enum tagging xs) → OfVariants tagging xs
  variants (by_tag tag closed) xs h = h
  variants _ xs h = (h.0, h.1, tt)

  halves : (tagging : Tagging) (x : Variant) (xs : List Variant) → OfVariants tagging (x ∷ xs)
      → OfPayload tagging x.payload × OfVariants tagging xs
  halves tagging x xs h =
      let ns = payload_numbers x.payload in
      let ps = payload_flattened x.payload in
      let tags = in_tags tagging (payload_contents x.payload) (of_variants payload_contents xs) h.2 in (
        (
          λ m is. h.0 m (Contains-append_left ns (variant_numbers xs) m is),
          λ m b is. h.1 m b (Contains-append_left ps (of_variants payload_flattened xs) m is),
          tags.0,
        ),
        (
          λ m is. h.0 m (Contains-append_right ns (variant_numbers xs) m is),
          λ m b is. h.1 m b (Contains-append_right ps (of_variants payload_flattened xs) m is),
          tags.1,
        ),
      )

  asks_law : (basis : Basis) → Law basis
  asks_law basis = record {
    claim = of_each Asks;
    documents = documents;
    of_shape = OfShape;
    of_variants = OfVariants;
    of_payload = OfPayload;
    rows = λ kind m h is. one (part m) (h.0 m is);
    option = λ n h. h;
    struct = λ x h. struct_all basis.contract x h.0 h.1;
    variants = variants;
    literal = λ d h. All-nil P;
    payload = λ tagging x xs h. (halves tagging x xs h).0;
    notes = λ tagging x xs h t is. is;
    later = λ tagging x xs h. (halves tagging x xs h).1;
    title = λ name t h. h;
    payload_rows = λ tagging p m h is. one (part m) (h.0 m is);
    payload_struct = λ tagging x h. struct_all basis.contract x h.0 h.1;
    content_row = λ tag closed n h. one (content n) (h.2 n (0, omega arith, refl));
    tag = λ tag closed x xs h is. is;
    beside = λ tag key closed p h. tt;
  }

  -- the rows that a shape refers to are asked for their parts, those that are flattened for their members, and those in
  -- tagged variants for their contents
  pub all_asks : (basis : Basis) (kind : Shape)
      → ((m : ℕ) → Contains (numbers_of kind) m → P (part m))
      → ((m : ℕ) (b : Bool) → Contains (flattened_numbers kind) m → P (members_of m b))
      → ((m : ℕ) → Contains (contents_of kind) m → P (content m))
      → All P (asks_of (template_of basis kind))
  unfolding asks_law
  all_asks basis kind h g f = shape_holds basis (asks_law basis) kind (h, g, f)
