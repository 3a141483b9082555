-- The JSON of a table reads back as that table.
use Rattle.std.proofs.Common.{◌≡◌, ◌≢◌, ◌<◌, ℕ, nat_lt, List, [], ◌∷◌, map, length, true, false, Option, Some, None, is_some, refl, ap, ◌∙◌, sym, arith}
use Rattle.schemagen_input.proofs.Words.{nat_tests, and_parts, list_all, option_map_or, Data, items_of, Field, Flattened, Payload, Variant, Shape, Entry, no_payload, newtype_payload, tuple_payload, struct_payload, bool, int, non_zero, text, char, formatted, any, bytes, schema_itself, option, seq, set, up_to, tuple, struct, newtype, result, bound, range, either, map_from, enum, by_name, by_nothing, by_tag, by_tag_and_content, literal, Row, read_each, number_in, kind_in, field_in, flattened_from, payload_in, variant_in, payload_inside, internal_variant_in, shape_in, row_in, rows_in, refers_within, all_fit, ids_differ, ids_of, table_in, input_of, whole, field_json, flattened_json, payload_json, variant_json, kind_json, shape_json, row_json, json_of, is_library_shape, has_library_shape, CanBeWritten}
use Rattle.schemars_shapes.specs.declared.shape.IntKind.{IntKind}
use Rattle.schemars_shapes.specs.declared.shape.IntKind.TheVariants.{I8, I16, I32, I64, I128, Isize, U8, U16, U32, U64, U128, Usize}
use Rattle.schemars_shapes.specs.Shape.{null as null_shape, number as number_shape, array as array_shape}

-- ---- lists

all_back : {T : Type 0} (json : T → Data) (says : Data → Option T) → ((x : T) → says (json x) ≡ Some x)
    → (xs : List T) → read_each says (items_of (map json xs)) ≡ Some xs
all_back json says back [] = refl
all_back json says back (x ∷ xs) = rw (back x, all_back json says back xs) refl

fields_back : (fs : List Field) → read_each field_in (items_of (map field_json fs)) ≡ Some fs
fields_back fs = all_back field_json field_in (λ f. refl) fs

all_flattened_back : (ps : List Flattened) → read_each flattened_from (items_of (map flattened_json ps)) ≡ Some ps
all_flattened_back ps = all_back flattened_json flattened_from (λ p. refl) ps

numbers_back : (ns : List ℕ) → read_each number_in (items_of (map whole ns)) ≡ Some ns
numbers_back ns = all_back whole number_in (λ n. refl) ns

-- ---- variants

payload_back : (p : Payload) → payload_in (payload_json p) ≡ Some p
payload_back no_payload = refl
payload_back (newtype_payload n) = refl
payload_back (tuple_payload ns) = rw (numbers_back ns) refl
payload_back (struct_payload x) = rw (fields_back x.list, all_flattened_back x.flatten) refl

variant_back : (x : Variant) → variant_in (variant_json x) ≡ Some x
variant_back x = rw (payload_back x.payload) refl

variants_back : (xs : List Variant) → read_each variant_in (items_of (map variant_json xs)) ≡ Some xs
variants_back xs = all_back variant_json variant_in variant_back xs

inside_back : (p : Payload) → is_some (payload_inside p) ≡ true → payload_inside p ≡ Some p
inside_back no_payload h = refl
inside_back (newtype_payload n) h = refl
inside_back (tuple_payload ns) h = cc
inside_back (struct_payload x) h = refl

internal_back : (x : Variant) → is_some (payload_inside x.payload) ≡ true → internal_variant_in (variant_json x) ≡ Some x
internal_back x h = rw (payload_back x.payload, inside_back x.payload h) refl

internals_back : (xs : List Variant) → list_all (λ x. is_some (payload_inside x.payload)) xs ≡ true
    → read_each internal_variant_in (items_of (map variant_json xs)) ≡ Some xs
internals_back [] h = refl
internals_back (x ∷ xs) h =
    let parts = and_parts (is_some (payload_inside x.payload)) (list_all (λ y. is_some (payload_inside y.payload)) xs) h in
    rw (internal_back x parts.0, internals_back xs parts.1) refl

-- ---- shapes

kind_back : (k : IntKind) → kind_in (kind_json k) ≡ Some k
kind_back I8 = refl
kind_back I16 = refl
kind_back I32 = refl
kind_back I64 = refl
kind_back I128 = refl
kind_back Isize = refl
kind_back U8 = refl
kind_back U16 = refl
kind_back U32 = refl
kind_back U64 = refl
kind_back U128 = refl
kind_back Usize = refl

shape_back : (s : Shape) → is_library_shape s ≡ true → shape_in (shape_json s) ≡ Some s
shape_back null_shape h = refl
shape_back bool h = refl
shape_back (int k) h = rw (kind_back k) refl
shape_back (non_zero k) h = rw (kind_back k) refl
shape_back number_shape h = refl
shape_back text h = refl
shape_back char h = refl
shape_back (formatted t) h = refl
shape_back any h = refl
shape_back bytes h = refl
shape_back schema_itself h = refl
shape_back (option n) h = refl
shape_back (seq n) h = refl
shape_back (set n) h = refl
shape_back (array_shape n len) h = refl
shape_back (up_to n cap) h = refl
shape_back (tuple ns) h = rw (numbers_back ns) refl
shape_back (struct x) h = rw (fields_back x.list, all_flattened_back x.flatten) refl
shape_back (newtype n) h = refl
shape_back (result ok err) h = refl
shape_back (bound n) h = refl
shape_back (range n) h = refl
shape_back (either left right) h = refl
shape_back (map_from key value) h = refl
shape_back (enum by_name xs) h = rw (variants_back xs) refl
shape_back (enum by_nothing xs) h = rw (variants_back xs) refl
shape_back (enum (by_tag tag closed) xs) h = rw (internals_back xs h) refl
shape_back (enum (by_tag_and_content tag content closed) xs) h = rw (variants_back xs) refl
shape_back (literal d) h = rw h refl

-- ---- rows

row_back : (count : ℕ) (r : Row) → option_map_or (refers_within count) r.entry false ≡ true
    → has_library_shape r ≡ true → row_in (row_json r) ≡ Some r
row_back count r = by r.entry
  where
    by : (o : Option Entry) → option_map_or (refers_within count) o false ≡ true
        → option_map_or (λ e. is_library_shape e.shape) o true ≡ true
        → row_in (row_json (record { id = r.id; name = r.name; entry = o })) ≡ Some (record { id = r.id; name = r.name; entry = o })
    by None fit shapes = cc
    by (Some e) fit shapes = rw (shape_back e.shape shapes) refl

rows_back : (count : ℕ) (rows : List Row) → all_fit count rows ≡ true
    → list_all has_library_shape rows ≡ true → rows_in (items_of (map row_json rows)) ≡ Some rows
rows_back count [] fit shapes = refl
rows_back count (r ∷ rows) fit shapes =
    let fits = and_parts (option_map_or (refers_within count) r.entry false) (all_fit count rows) fit in
    let each = and_parts (has_library_shape r) (list_all has_library_shape rows) shapes in
    rw (row_back count r fits.0 each.0, rows_back count rows fits.1 each.1) refl

-- ---- tables

pub table_back : (rows : List Row) (root : ℕ) → CanBeWritten rows → table_in (json_of rows root) ≡ Some (rows, root)
table_back rows root h =
    let fit = and_parts (ids_differ (ids_of rows)) (all_fit (length rows) rows) h.complete in
    rw (rows_back (length rows) rows fit.1 h.shapes, h.complete) refl

pub input_back : (rows : List Row) (root : ℕ) → CanBeWritten rows → root < length rows
    → input_of (json_of rows root) ≡ Some (rows, root)
input_back rows root h within =
    let here : nat_lt root (length rows) ≡ true = grind (arith, nat_tests) in
    rw (table_back rows root h, here) refl

-- the JSON of a table is read as no other
pub is_read : (d : Data) (all : List Row) (n : ℕ) → table_in d ≡ Some (all, n) → (rows : List Row) (root : ℕ) → CanBeWritten rows
    → d ≡ json_of rows root → (all ≡ rows) × (n ≡ root)
is_read d all n read rows root h is = same (all, n) (rows, root) (sym read ∙ ap table_in is ∙ table_back rows root h)
  where
    same : (t u : List Row × ℕ) → Some t ≡ Some u → (t.0 ≡ u.0) × (t.1 ≡ u.1)
    same t u e = let s : t ≡ u = cc in (ap (λ (p : List Row × ℕ). p.0) s, ap (λ (p : List Row × ℕ). p.1) s)

-- and isn't refused
pub is_not_refused : (d : Data) → table_in d ≡ None → (rows : List Row) (root : ℕ) → CanBeWritten rows → d ≢ json_of rows root
is_not_refused d refused rows root h is = apart (rows, root) (sym refused ∙ ap table_in is ∙ table_back rows root h)
  where
    apart : (t : List Row × ℕ) → None ≡ Some t → ⊥
    apart t e = cc
