-- What fills the template of a shape is the shape's document, shape by shape.
use Rattle.std.proofs.Common.{◌≡◌, ℕ, zero, suc, List, [], ◌∷◌, Bool, true, false, length, map, refl, sym, ap, ◌∙◌, subst, append-nil}
use Rattle.schemars_meaning.proofs.Words.{codes, Data, boolean, array, Items, no_items, item, items_of, Text, object_of, allow_null, text_items, unit_variant, Shape, Field, Flattened, Entry, key_options, effective, Keyword, typed, type_alone, int_document, non_zero_document, bytes_document, annotated, parts_in, ArePlainParts, Basis, Ask, part, row, asks_of, asks_in, filled, filled_in, templates_of, tuple_template, template_of, entry_template, values_template, Fills, char_document, formatted_document, count_at, empty_list_document, schema_document, literal_document, enum_template}
use Rattle.schemars_shapes.specs.Shape as shape
use Rattle.schemars_meaning.proofs.MapDocument.{map_document}
use Rattle.schemars_meaning.proofs.Spread.{IsFieldsDocument, AnswersFields}
use Rattle.schemars_meaning.proofs.Filling.{ArePartsWritten, Fit, rows_asked, parts_answered}
use Rattle.schemars_meaning.proofs.Flattened.{struct_fills}

-- ---- lists

abbrev pub seq_document : Data → Data
seq_document items = object_of (typed (codes "array") ∷ (codes "items", items) ∷ [])

-- a list with these items, and what else is said of it
abbrev pub list_document : Data → List Keyword → Data
list_document items rest = object_of (typed (codes "array") ∷ (codes "items", items) ∷ rest)

abbrev pub set_document : Data → Data
set_document items = list_document items ((codes "uniqueItems", boolean true) ∷ [])

abbrev pub array_document : ℕ → Data → Data
array_document len items = list_document items (count_at (codes "minItems") len ∷ count_at (codes "maxItems") len ∷ [])

abbrev pub up_to_document : ℕ → Data → Data
up_to_document cap items = list_document items (count_at (codes "maxItems") cap ∷ [])

abbrev pub items_from : List Data → Items
items_from [] = no_items
items_from (t ∷ ts) = item t (items_from ts)

-- a list of one item for each part
abbrev pub tuple_document : List Data → Data
tuple_document [] = empty_list_document
tuple_document (t ∷ ts) =
    object_of (typed (codes "array") ∷ (codes "prefixItems", array (items_from (t ∷ ts))) ∷ count_at (codes "minItems") (length (t ∷ ts))
    ∷ count_at (codes "maxItems") (length (t ∷ ts)) ∷ [])

-- ---- structs

-- ---- choices

abbrev pub one_of_document : List Data → Data
one_of_document ts = object_of ((codes "oneOf", array (items_of ts)) ∷ [])

abbrev pub any_of_document : List Data → Data
any_of_document ts = object_of ((codes "anyOf", array (items_of ts)) ∷ [])

-- one of these names, as a text
abbrev pub units_document : List Text → Data
units_document ks = object_of (typed (codes "string") ∷ (codes "enum", array (text_items ks)) ∷ [])

-- a map with this member, which has to be there
abbrev pub member_document : Bool → Text → Data → Data
member_document closed name t = map_document ((name, t) ∷ []) (name ∷ []) closed

abbrev pub result_document : Data → Data → Data
result_document t e = one_of_document (member_document false (codes "Ok") t ∷ member_document false (codes "Err") e ∷ [])

abbrev pub bound_document : Data → Data → Data
bound_document t e = one_of_document
    (member_document false (codes "Included") t ∷ member_document false (codes "Excluded") e ∷ unit_variant (codes "Unbounded") ∷ [])

abbrev pub range_document : Data → Data → Data
range_document s e = map_document ((codes "start", s) ∷ (codes "end", e) ∷ []) (codes "start" ∷ codes "end" ∷ []) false

abbrev pub either_document : Data → Data → Data
either_document l r = one_of_document (member_document true (codes "Left") l ∷ member_document true (codes "Right") r ∷ [])

-- two schemas, and what is made of them
abbrev pub IsOfTwo : (Data → Type 0) → (Data → Type 0) → (Data → Data → Data) → Data → Type 0
IsOfTwo P Q document s = (t : Data) × (e : Data) × P t × Q e × (s ≡ document t e)

-- ---- by shape, where `A` says what may be answered, and `has` which fields a flattened row has

-- a list of no items is so whatever they would be
abbrev pub IsArrayDocument : (Data → Type 0) → ℕ → Data → Type 0
IsArrayDocument IsItems zero s = s ≡ empty_list_document
IsArrayDocument IsItems (suc n) s = (t : Data) × IsItems t × (s ≡ array_document (suc n) t)

abbrev pub IsDocument : (Ask → Data → Type 0) → (Flattened → List Field) → Basis → Shape → Data → Type 0
IsDocument A has basis shape.null s = s ≡ type_alone (codes "null")
IsDocument A has basis shape.bool s = s ≡ type_alone (codes "boolean")
IsDocument A has basis (shape.int kind) s = s ≡ int_document kind
IsDocument A has basis (shape.non_zero kind) s = s ≡ non_zero_document kind
IsDocument A has basis shape.number s = s ≡ type_alone (codes "number")
IsDocument A has basis shape.text s = s ≡ type_alone (codes "string")
IsDocument A has basis shape.char s = s ≡ char_document
IsDocument A has basis (shape.formatted format) s = s ≡ formatted_document format
IsDocument A has basis shape.any s = s ≡ boolean true
IsDocument A has basis shape.bytes s = s ≡ bytes_document basis.contract
IsDocument A has basis shape.schema_itself s = s ≡ schema_document
IsDocument A has basis (shape.option n) s = (t : Data) × A (part n) t × (s ≡ allow_null t)
IsDocument A has basis (shape.seq n) s = (t : Data) × A (part n) t × (s ≡ seq_document t)
IsDocument A has basis (shape.set n) s = (t : Data) × A (part n) t × (s ≡ set_document t)
IsDocument A has basis (shape.array n len) s = IsArrayDocument (A (part n)) len s
IsDocument A has basis (shape.up_to n cap) s = (t : Data) × A (part n) t × (s ≡ up_to_document cap t)
IsDocument A has basis (shape.tuple ns) s = (ts : List Data) × ArePartsWritten (λ j. A (part j)) ns ts × (s ≡ tuple_document ts)
IsDocument A has basis (shape.struct x) s =
    IsFieldsDocument (λ j. A (part j)) basis.contract (effective has x) x.closed s
IsDocument A has basis (shape.newtype n) s = A (part n) s
IsDocument A has basis (shape.result a b) s = IsOfTwo (A (part a)) (A (part b)) result_document s
IsDocument A has basis (shape.bound n) s = IsOfTwo (A (part n)) (A (part n)) bound_document s
IsDocument A has basis (shape.range n) s = IsOfTwo (A (part n)) (A (part n)) range_document s
IsDocument A has basis (shape.either a b) s = IsOfTwo (A (part a)) (A (part b)) either_document s
IsDocument A has basis (shape.map_from key value) s = Fills A (values_template (key_options basis.rows key) value) s
IsDocument A has basis (shape.enum tagging xs) s = Fills A (enum_template basis tagging xs) s
IsDocument A has basis (shape.literal d) s = s ≡ literal_document d

-- ---- what fills a template

module _ (A : Ask → Data → Type 0) where
  items_same : (ns : List ℕ) (ts : List Data) → Fit A (map part ns) ts → items_of (filled_in (templates_of (map row ns)) ts) ≡ items_from ts
  items_same [] ts h = ap items_from (sym h)
  items_same (n ∷ ns) [] h = absurd h
  items_same (n ∷ ns) (t ∷ ts) h = ap (item t) (items_same ns ts h.1)

  counted : (ns : List ℕ) (ts : List Data) → Fit A (map part ns) ts → length ns ≡ length ts
  counted [] ts h = ap length (sym h)
  counted (n ∷ ns) [] h = absurd h
  counted (n ∷ ns) (t ∷ ts) h = ap suc (counted ns ts h.1)

  abbrev counted_list : Items → ℕ → Data
  counted_list items count = object_of (typed (codes "array") ∷ (codes "prefixItems", array items) ∷ count_at (codes "minItems") count
      ∷ count_at (codes "maxItems") count ∷ [])

  -- a list of rows in order
  pub tuple_fills : (ns : List ℕ) (us : List Data) → Fit A (asks_of (tuple_template ns)) us
      → (ts : List Data) × ArePartsWritten (λ j. A (part j)) ns ts × (filled (tuple_template ns) us ≡ tuple_document ts)
  tuple_fills [] ts h = ([], refl, refl)
  tuple_fills (n ∷ ns) [] h = absurd h
  tuple_fills (n ∷ ns) (t ∷ ts) h =
      let rest : Fit A (map part ns) ts =
      subst (λ asks. Fit A asks ts) (append-nil (asks_in (templates_of (map row ns))) ∙ rows_asked ns) h.1 in (
        t ∷ ts,
        (h.0, parts_answered A ns ts rest),
        λ i. counted_list (item t (items_same ns ts rest i)) (counted (n ∷ ns) (t ∷ ts) (h.0, rest) i),
      )

  -- ---- by shape

  module _ (has : Flattened → List Field) (basis : Basis) where
    -- all but structs, whatever is flattened
    abbrev IsNoStruct : Shape → Type 0
    IsNoStruct (shape.struct x) = ⊥
    IsNoStruct kind = Unit {0}

    pub others_fill : (kind : Shape) (s : Data) (ts : List Data) → IsNoStruct kind
        → Fit A (asks_of (template_of basis kind)) ts → s ≡ filled (template_of basis kind) ts → IsDocument A has basis kind s
    others_fill (shape.option n) s [] p h e = absurd h
    others_fill (shape.option n) s (t ∷ ts) p h e = (t, h.0, e)
    others_fill (shape.seq n) s [] p h e = absurd h
    others_fill (shape.seq n) s (t ∷ ts) p h e = (t, h.0, e)
    others_fill (shape.set n) s [] p h e = absurd h
    others_fill (shape.set n) s (t ∷ ts) p h e = (t, h.0, e)
    others_fill (shape.array n zero) s ts p h e = e
    others_fill (shape.array n (suc len)) s [] p h e = absurd h
    others_fill (shape.array n (suc len)) s (t ∷ ts) p h e = (t, h.0, e)
    others_fill (shape.up_to n cap) s [] p h e = absurd h
    others_fill (shape.up_to n cap) s (t ∷ ts) p h e = (t, h.0, e)
    others_fill (shape.tuple ns) s ts p h e = let all = tuple_fills ns ts h in (all.0, all.1, e ∙ all.2)
    others_fill (shape.struct x) s ts p h e = absurd p
    others_fill (shape.newtype n) s [] p h e = absurd h
    others_fill (shape.newtype n) s (t ∷ ts) p h e = subst (A (part n)) (sym e) h.0
    others_fill (shape.result a b) s [] p h e = absurd h
    others_fill (shape.result a b) s (t ∷ []) p h e = absurd h.1
    others_fill (shape.result a b) s (t ∷ u ∷ ts) p h e = (t, u, h.0, h.1.0, e)
    others_fill (shape.bound n) s [] p h e = absurd h
    others_fill (shape.bound n) s (t ∷ []) p h e = absurd h.1
    others_fill (shape.bound n) s (t ∷ u ∷ ts) p h e = (t, u, h.0, h.1.0, e)
    others_fill (shape.range n) s [] p h e = absurd h
    others_fill (shape.range n) s (t ∷ []) p h e = absurd h.1
    others_fill (shape.range n) s (t ∷ u ∷ ts) p h e = (t, u, h.0, h.1.0, e)
    others_fill (shape.either a b) s [] p h e = absurd h
    others_fill (shape.either a b) s (t ∷ []) p h e = absurd h.1
    others_fill (shape.either a b) s (t ∷ u ∷ ts) p h e = (t, u, h.0, h.1.0, e)
    others_fill (shape.map_from key value) s ts p h e = record { parts = ts; answered = h; is = e }
    others_fill (shape.enum tagging xs) s ts p h e = record { parts = ts; answered = h; is = e }
    others_fill _ s ts p h e = e

  module _ (has : Flattened → List Field) (basis : Basis) (fields : AnswersFields has basis.rows basis.contract A) where
    fills : (kind : Shape) (s : Data) (ts : List Data) → ArePlainParts basis.rows (parts_in kind)
        → Fit A (asks_of (template_of basis kind)) ts → s ≡ filled (template_of basis kind) ts → IsDocument A has basis kind s
    fills (shape.struct x) s ts p h e =
        subst (λ d. IsFieldsDocument (λ j. A (part j)) basis.contract (effective has x) x.closed d) (sym e)
        (struct_fills A has basis.rows basis.contract fields x p ts h)
    fills kind s ts p h e = others_fill has basis kind s ts tt h e

    pub by_shape : (kind : Shape) (s : Data) → ArePlainParts basis.rows (parts_in kind) → Fills A (template_of basis kind) s
        → IsDocument A has basis kind s
    by_shape kind s p h = fills kind s h.parts p h.answered h.is

    -- a row's document is the shape's, with the row's notes
    pub own_document : (e : Entry) (s : Data) → ArePlainParts basis.rows (parts_in e.shape) → Fills A (entry_template basis e) s
        → (bare : Data) × IsDocument A has basis e.shape bare × (s ≡ annotated e.notes bare)
    own_document e s p h =
        (filled (template_of basis e.shape) h.parts, fills e.shape _ h.parts p h.answered refl, h.is)
