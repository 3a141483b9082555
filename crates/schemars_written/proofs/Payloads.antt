-- What a variant has beside its name.
use Rattle.std.proofs.Common.{◌≡◌, inl, inr, ℕ, suc, ◌+◌, ◌*◌, ◌<◌, ◌≤◌, List, [], ◌∷◌, ◌++◌, length, map, Bool, true, false, ◌||◌, Some, refl, sym, ap, ◌∙◌, subst, arith}
use Rattle.schemars_written.proofs.Words.{bytes_eq, Contains, IsDistinct, list_any, option_map_or, Contains-append_left, Contains-append_right, Json, Data, null, depth, items_depth, as_array, of_json, of_items, Text, Patterns, is_null, Entry, Field, Flattened, Tagging, by_tag_and_content, Variant, Payload, no_payload, newtype_payload, tuple_payload, struct_payload, payload_numbers, payload_names, of_variants, variant_names, tagging_keys, names_of, AreDistinctLists, Row, rank, IsChecked, expanded_payload, flattened_fields, flattened_enums, flattened_in, part_enums, enum_at, belongs_within, choices_within, each_of, has_fields, has_payload, holds, matches_of, IsArray, IsObject, MeansUnder, HasShape, HasVariant}
use Rattle.json.specs.Json as json
use Rattle.schemars_shapes.specs.Shape as shape
use Rattle.schemars_types.specs.declared.contract.Contract.TheVariants.{Serialize}
use Rattle.schemars_written.proofs.Atoms.{part_low, Some_same}
use Rattle.schemars_written.proofs.Lists.{Of, array_parts, parts_fit}
use Rattle.schemars_written.proofs.Objects.{Apart, Matches, fields_belong}

-- ---- variants that are listed

right_true : (a b : Bool) → b ≡ true → (a || b) ≡ true
right_true true b h = refl
right_true false b h = h

left_true : (a b : Bool) → a ≡ true → (a || b) ≡ true
left_true true b h = refl
left_true false b h = absurd (cc)

-- what holds of the variant holds of one in the list
pub listed : (test : Variant → Bool) (change : Variant → Variant) (name : Text) (p : Payload) (xs : List Variant) → HasVariant name p xs
    → ((x : Variant) → x.name ≡ name → x.payload ≡ p → test (change x) ≡ true) → list_any test (map change xs) ≡ true
listed test change name p [] has each = absurd has
listed test change name p (x ∷ xs) (inl here) each =
    left_true (test (change x)) (list_any test (map change xs)) (each x here.0 here.1)
listed test change name p (x ∷ xs) (inr later) each =
    right_true (test (change x)) (list_any test (map change xs)) (listed test change name p xs later each)

-- what a payload refers to, its variants do
pub variant_number : (numbers : Payload → List ℕ) (name : Text) (p : Payload) (xs : List Variant) (m : ℕ) → HasVariant name p xs
    → Contains (numbers p) m → Contains (of_variants numbers xs) m
variant_number numbers name p [] m has c = absurd has
variant_number numbers name p (x ∷ xs) m (inl here) c =
    Contains-append_left (numbers x.payload) (of_variants numbers xs) m (subst (λ q. Contains (numbers q) m) (sym here.1) c)
variant_number numbers name p (x ∷ xs) m (inr later) c =
    Contains-append_right (numbers x.payload) (of_variants numbers xs) m (variant_number numbers name p xs m later c)

-- ---- names that differ

later_lists : (first others : List (List Text)) → AreDistinctLists (first ++ others) → AreDistinctLists others
later_lists [] others h = h
later_lists (names ∷ first) others h = later_lists first others h.1

names_in : (name : Text) (p : Payload) (xs : List Variant) → HasVariant name p xs → AreDistinctLists (map (λ x. payload_names x.payload) xs)
    → IsDistinct bytes_eq (payload_names p)
names_in name p [] has h = absurd has
names_in name p (x ∷ xs) (inl here) h = subst (λ q. IsDistinct bytes_eq (payload_names q)) here.1 h.0
names_in name p (x ∷ xs) (inr later) h = names_in name p xs later h.1

-- the names of a variant's fields differ, and so do the keys of its tagging
enum_lists : (rows : List Row) → IsChecked rows → (n : ℕ) (tagging : Tagging) (xs : List Variant) → HasShape rows n (shape.enum tagging xs)
    → AreDistinctLists (tagging_keys tagging ++ variant_names xs)
enum_lists rows checked n tagging xs is = subst (λ (ls : List (List Text)). AreDistinctLists ls)
    (ap (λ o. option_map_or (λ (e : Entry). names_of e.shape) o []) is.1 ∙ ap names_of is.2) (checked.names_differ n)

pub payload_apart : (rows : List Row) → IsChecked rows → (n : ℕ) (tagging : Tagging) (xs : List Variant)
    → HasShape rows n (shape.enum tagging xs)
    → (name : Text) (p : Payload) → HasVariant name p xs → IsDistinct bytes_eq (payload_names p)
payload_apart rows checked n tagging xs is name p has =
    names_in name p xs has (later_lists (tagging_keys tagging) (variant_names xs) (enum_lists rows checked n tagging xs is)).1

pub keys_apart : (rows : List Row) → IsChecked rows → (n : ℕ) (tag content : Text) (closed : Bool) (xs : List Variant)
    → HasShape rows n (shape.enum (by_tag_and_content tag content closed) xs) → bytes_eq tag content ≡ false
unfolding IsDistinct
keys_apart rows checked n tag content closed xs is = (enum_lists rows checked n (by_tag_and_content tag content closed) xs is).0.0.0

-- the rows of a variant are rows
pub payload_low : (rows : List Row) → IsChecked rows → (n : ℕ) (tagging : Tagging) (xs : List Variant)
    → HasShape rows n (shape.enum tagging xs)
    → (name : Text) (p : Payload) → HasVariant name p xs → (m : ℕ) → Contains (payload_numbers p) m
    → (m < length rows) × (rank rows m < length rows)
payload_low rows checked n tagging xs is name p has m c =
    let low = part_low rows checked n m (shape.enum tagging xs) is (variant_number payload_numbers name p xs m has c) in
    (low, checked.rank_bound m low)

-- ---- what payloads mean

-- the JSON of a payload; that of a unit is null
abbrev pub PayloadMeans : (Patterns → Type 0) → List Row → Payload → Json → Type 0
PayloadMeans reading rows no_payload j = j ≡ json.null
PayloadMeans reading rows (newtype_payload m) j = MeansUnder reading rows m j
PayloadMeans reading rows (tuple_payload ns) j = IsArray (Of reading rows ns) j
PayloadMeans reading rows (struct_payload x) j = (x.flatten ≡ []) × IsObject (Matches reading rows x.list) j

-- so many steps are enough at this depth
abbrev pub Enough : List Row → Payload → ℕ → ℕ → Type 0
Enough rows no_payload h steps = Unit {0}
Enough rows (newtype_payload m) h steps = h * length rows + rank rows m < steps
Enough rows (tuple_payload ns) h steps = h * length rows ≤ steps
Enough rows (struct_payload x) h steps = h * length rows ≤ steps

abbrev pub Holds : List Row → Patterns → ℕ → Payload → Data → Type 0
Holds rows patterns steps p d =
    has_payload Serialize (belongs_within rows Serialize patterns steps) (choices_within rows Serialize patterns steps)
    (expanded_payload (flattened_in rows) (part_enums rows) p) d ≡ true

tuple_holds : (reading : Patterns → Type 0) (rows : List Row) (patterns : Patterns) → reading patterns
    → (ns : List ℕ) (j : Json) (d : Data) (steps : ℕ)
    → ((m : ℕ) → Contains ns m → rank rows m < length rows) → IsArray (Of reading rows ns) j → of_json j ≡ Some d
    → depth d * length rows ≤ steps
    → holds (as_array d) (each_of (belongs_within rows Serialize patterns steps) ns) ≡ true
tuple_holds reading rows patterns takes ns json.null d steps low all reads few = absurd all
tuple_holds reading rows patterns takes ns (json.boolean b) d steps low all reads few = absurd all
tuple_holds reading rows patterns takes ns (json.number s) d steps low all reads few = absurd all
tuple_holds reading rows patterns takes ns (json.string s) d steps low all reads few = absurd all
tuple_holds reading rows patterns takes ns (json.object ms) d steps low all reads few = absurd all
tuple_holds reading rows patterns takes ns (json.array js) d steps low all reads few =
    let r = array_parts (of_items js) d reads in
    let enough : suc (items_depth r.0) * length rows ≤ steps = subst (λ v. depth v * length rows ≤ steps) (sym r.2) few in
    subst (λ v. holds (as_array v) (each_of (belongs_within rows Serialize patterns steps) ns) ≡ true) r.2
    (parts_fit reading rows patterns takes ns js r.0 low all r.1 (items_depth r.0) steps (omega arith) enough)

struct_holds : (reading : Patterns → Type 0) (rows : List Row) (patterns : Patterns) → reading patterns
    → (fs : List Field) (closed : Bool) (j : Json) (d : Data) (steps : ℕ)
    → ((m : ℕ) → Contains (map (λ f. f.ty) fs) m → (m < length rows) × (rank rows m < length rows)) → Apart fs
    → IsObject (Matches reading rows fs) j → of_json j ≡ Some d → depth d * length rows ≤ steps
    → has_fields Serialize (belongs_within rows Serialize patterns steps) [] (fs ++ []) closed d ≡ true
struct_holds reading rows patterns takes fs closed json.null d steps low apart all reads few = absurd all
struct_holds reading rows patterns takes fs closed (json.boolean b) d steps low apart all reads few = absurd all
struct_holds reading rows patterns takes fs closed (json.number s) d steps low apart all reads few = absurd all
struct_holds reading rows patterns takes fs closed (json.string s) d steps low apart all reads few = absurd all
struct_holds reading rows patterns takes fs closed (json.array js) d steps low apart all reads few = absurd all
struct_holds reading rows patterns takes fs closed (json.object ms) d steps low apart all reads few =
    fields_belong reading rows patterns takes fs closed ms d steps low apart all reads few

pub payload_holds : (reading : Patterns → Type 0) (rows : List Row) (patterns : Patterns) → reading patterns
    → (p : Payload) (j : Json) (d : Data) (steps : ℕ)
    → ((m : ℕ) → Contains (payload_numbers p) m → (m < length rows) × (rank rows m < length rows))
    → IsDistinct bytes_eq (payload_names p) → PayloadMeans reading rows p j → of_json j ≡ Some d → Enough rows p (depth d) steps
    → Holds rows patterns steps p d
payload_holds reading rows patterns takes no_payload j d steps low apart means reads few =
    subst (λ v. is_null v ≡ true) (Some_same null d (ap of_json (sym means) ∙ reads)) refl
payload_holds reading rows patterns takes (newtype_payload m) j d steps low apart means reads few = means patterns takes d reads steps few
payload_holds reading rows patterns takes (tuple_payload ns) j d steps low apart means reads few =
    tuple_holds reading rows patterns takes ns j d steps (λ m c. (low m c).1) means reads few
payload_holds reading rows patterns takes (struct_payload x) j d steps low apart means reads few =
    subst (λ (ps : List Flattened). has_fields Serialize (belongs_within rows Serialize patterns steps)
    (matches_of (choices_within rows Serialize patterns steps) (map enum_at (flattened_enums (part_enums rows) ps)) d)
    (x.list ++ flattened_fields (flattened_in rows) ps) x.closed d ≡ true) (sym means.0)
    (struct_holds reading rows patterns takes x.list x.closed j d steps
    (λ m c. low m (Contains-append_left (map (λ f. f.ty) x.list) (map (λ p. p.ty) x.flatten) m c)) apart means.1 reads few)
