-- A struct into which another is flattened: one map with the fields of both.
use Rattle.std.proofs.Common.{◌≡◌, ◌⊎◌, inl, inr, ℕ, zero, suc, ◌<◌, List, [], ◌∷◌, ◌++◌, length, map, Bool, true, Option, None, is_some, refl, sym, ap, ◌∙◌, subst, arith, append_assoc, append-nil}
use Rattle.schemars_written.proofs.Words.{Contains, option_and_then, if◌then◌else◌, IsDistinct, option_map_or, Contains-append_left, Contains-append_cases, Json, Log, Data, Text, Patterns, Entry, Field, Flattened, Required, option_of, Row, rank, option_at, IsChecked, fields_within, enums_within, row_fields, part_fields, part_enums, flattened_in, shape_fields, shape_enums, required_only_if, without_options, enum_at, belongs_within, choices_within, has_fields, matches_of, stops, Gives, Struct, IsObject, MeansUnder, HasShape, HasFlattened, NextField, NextOptional, LastField, AvoidsTag, AreApart}
use Rattle.json.specs.Json as json
use Rattle.schemars_shapes.specs.Shape as shape
use Rattle.schemars_types.specs.declared.contract.Contract.TheVariants.{Serialize}
use Rattle.schemars_written.proofs.Atoms.{weaker, step, part_low}
use Rattle.schemars_written.proofs.Objects.{Apart, Matches, plain_fields, names_apart, fields_belong, struct_gives}
use Rattle.schemars_written.proofs.Laws.{FieldsAgreeUnder}

-- ---- names that differ in two lists

avoids_both : (name : Text) (fs gs : List Field) → AvoidsTag name fs → AvoidsTag name gs → AvoidsTag name (fs ++ gs)
avoids_both name [] gs left right = right
avoids_both name (f ∷ fs) gs left right = (left.0, avoids_both name fs gs left.1 right)

apart_both : (fs gs : List Field) → Apart fs → Apart gs → AreApart fs gs → Apart (fs ++ gs)
unfolding IsDistinct
apart_both [] gs left right across = right
apart_both (f ∷ fs) gs left right across = (avoids_both f.name fs gs left.0 across.0, apart_both fs gs left.1 right across.1)

types_of_both : (fs gs : List Field) → map (λ (f : Field). f.ty) (fs ++ gs) ≡ map (λ (f : Field). f.ty) fs ++ map (λ (f : Field). f.ty) gs
types_of_both [] gs = refl
types_of_both (f ∷ fs) gs = ap (λ ns. f.ty ∷ ns) (types_of_both fs gs)

-- ---- the row that is flattened

abbrev part_of : ℕ → Required → Flattened
part_of m required = record { ty = m; required = required }

abbrev with_part : List Field → ℕ → Required → Bool → shape.Fields
with_part fs m required closed = record { list = fs; flatten = part_of m required ∷ []; closed = closed }

own_fields : (rows : List Row) (m : ℕ) (gs : List Field) (other : Bool) → HasShape rows m (shape.struct (plain_fields gs other))
    → (steps : ℕ) → 0 < steps → fields_within rows steps m ≡ gs
unfolding fields_within
own_fields rows m gs other is zero some = absurd (omega arith)
own_fields rows m gs other is (suc steps) some =
    ap (λ (o : Option Entry). option_map_or (λ (e : Entry). shape_fields (part_fields rows (fields_within rows steps)) e.shape) o []) is.1
    ∙ ap (shape_fields (part_fields rows (fields_within rows steps))) is.2 ∙ append-nil gs

no_enums : (rows : List Row) (m : ℕ) (gs : List Field) (other : Bool) → HasShape rows m (shape.struct (plain_fields gs other))
    → (steps : ℕ) → enums_within rows steps m ≡ []
unfolding enums_within
no_enums rows m gs other is zero = refl
no_enums rows m gs other is (suc steps) =
    ap (λ (o : Option Entry). option_map_or (λ (e : Entry). shape_enums (λ p. enums_within rows steps
    (without_options rows p.ty)) m e.shape) o []) is.1
    ∙ ap (shape_enums (λ p. enums_within rows steps (without_options rows p.ty)) m) is.2

no_option : (rows : List Row) (m : ℕ) (x : shape.Fields) → HasShape rows m (shape.struct x) → option_at rows m ≡ None
no_option rows m x is = ap (λ (o : Option Entry). option_and_then (λ (e : Entry). option_of e.shape) o) is.1 ∙ ap option_of is.2

part_has : (rows : List Row) (m : ℕ) (required : Required) (gs : List Field) (other : Bool)
    → HasShape rows m (shape.struct (plain_fields gs other))
    → m < length rows → flattened_in rows (part_of m required) ≡ gs
part_has rows m required gs other is low =
    let none = no_option rows m (plain_fields gs other) is in
    ap (λ (o : Option ℕ). if is_some o then map (required_only_if required) (row_fields rows (without_options rows m))
    else row_fields rows (without_options rows m)) none
    ∙ ap (row_fields rows) (stops rows (length rows) m none)
    ∙ own_fields rows m gs other is (length rows) (omega arith)

part_has_no_enums : (rows : List Row) (m : ℕ) (required : Required) (gs : List Field) (other : Bool)
    → HasShape rows m (shape.struct (plain_fields gs other)) → part_enums rows (part_of m required) ≡ []
part_has_no_enums rows m required gs other is =
    ap (λ k. enums_within rows (length rows) k) (stops rows (length rows) m (no_option rows m (plain_fields gs other) is))
    ∙ no_enums rows m gs other is (length rows)

-- ---- the struct

-- what a table offers of the struct, by what is flattened into it
abbrev HasIt : List Row → Patterns → ℕ → List Field → Bool → Data → List Field → List ℕ → Type 0
HasIt rows patterns steps fs closed d inside enums =
    has_fields Serialize (belongs_within rows Serialize patterns steps)
    (matches_of (choices_within rows Serialize patterns steps) (map enum_at (enums ++ [])) d) (fs ++ (inside ++ [])) closed d ≡ true

members_mean : (reading : Patterns → Type 0) (rows : List Row) → IsChecked rows
    → (n m : ℕ) (required : Required) (fs gs : List Field) (closed other : Bool)
    → HasShape rows n (shape.struct (with_part fs m required closed)) → HasShape rows m (shape.struct (plain_fields gs other))
    → AreApart fs gs
    → (ms : json.Members) → Matches reading rows (fs ++ gs) ms → MeansUnder reading rows n (json.object ms)
members_mean reading rows checked n m required fs gs closed other is part across ms all patterns takes d reads =
    let part_of_n : Contains (shape.numbers_of (shape.struct (with_part fs m required closed))) m =
    last (map (λ (f : Field). f.ty) fs) in
    let low = part_low rows checked n m (shape.struct (with_part fs m required closed)) is part_of_n in
    step rows patterns n (shape.struct (with_part fs m required closed)) d is (λ steps few.
    subst (λ inside. HasIt rows patterns steps fs closed d inside (part_enums rows (part_of m required))) (sym
    (part_has rows m required gs other part low))
    (subst (λ enums. HasIt rows patterns steps fs closed d gs enums) (sym (part_has_no_enums rows m required gs other part))
    (subst (λ (list : List Field). has_fields Serialize (belongs_within rows Serialize patterns steps) [] list closed d ≡ true)
    (append_assoc fs gs [])
    (fields_belong reading rows patterns takes (fs ++ gs) closed ms d steps known
    (apart_both fs gs (names_apart rows checked n (with_part fs m required closed) is)
    (names_apart rows checked m (plain_fields gs other) part) across) all reads (omega arith)))))
  where
    last : (ns : List ℕ) → Contains (ns ++ m ∷ []) m
    last [] = (0, omega arith, refl)
    last (k ∷ ns) = let c = last ns in (suc c.0, omega (arith, c.1), c.2)

    known : (k : ℕ) → Contains (map (λ f. f.ty) (fs ++ gs)) k → (k < length rows) × (rank rows k < length rows)
    known k c = go (Contains-append_cases (map (λ (f : Field). f.ty) fs) (map (λ (f : Field). f.ty) gs) k
        (subst (λ (ns : List ℕ). Contains ns k) (types_of_both fs gs) c))
      where
        go : Contains (map (λ (f : Field). f.ty) fs) k ⊎ Contains (map (λ (f : Field). f.ty) gs) k
            → (k < length rows) × (rank rows k < length rows)
        go (inl own) =
            let low = part_low rows checked n k (shape.struct (with_part fs m required closed)) is
            (Contains-append_left (map (λ (f : Field). f.ty) fs) (m ∷ []) k own) in (low, checked.rank_bound k low)
        go (inr inside) =
            let low = part_low rows checked m k (shape.struct (plain_fields gs other)) part
            (Contains-append_left (map (λ (f : Field). f.ty) gs) [] k inside) in (low, checked.rank_bound k low)

struct_means : (reading : Patterns → Type 0) (rows : List Row) → IsChecked rows
    → (n m : ℕ) (required : Required) (fs gs : List Field) (closed other : Bool)
    → HasShape rows n (shape.struct (with_part fs m required closed)) → HasShape rows m (shape.struct (plain_fields gs other))
    → AreApart fs gs
    → (j : Json) → IsObject (Matches reading rows (fs ++ gs)) j → MeansUnder reading rows n j
struct_means reading rows checked n m required fs gs closed other is part across json.null all = absurd all
struct_means reading rows checked n m required fs gs closed other is part across (json.boolean b) all = absurd all
struct_means reading rows checked n m required fs gs closed other is part across (json.number s) all = absurd all
struct_means reading rows checked n m required fs gs closed other is part across (json.string s) all = absurd all
struct_means reading rows checked n m required fs gs closed other is part across (json.array js) all = absurd all
struct_means reading rows checked n m required fs gs closed other is part across (json.object ms) all =
    members_mean reading rows checked n m required fs gs closed other is part across ms all

-- ---- the law, in the form in which it is cited

-- `own` says of own fields and of those after them what it says of both in one list
abbrev pub Joins : ((List Field → Type 0) → List Field → Type 0) → Type 1
Joins own = (others : List Field → Type 0) (list more : List Field) → own LastField list → others more → own others (list ++ more)

-- the names of own fields are not among those that are flattened
abbrev pub NamesApart : (List Field → Type 0) → (List Field → Type 0) → Type 0
NamesApart own inside = (list more : List Field) → own list → inside more → AreApart list more

pub last_joins : Joins (λ others. others)
last_joins others [] more is next = next
last_joins others (f ∷ fs) more is next = absurd is

pub next_joins : (name : Text) (R : ℕ → Type 0) (own : (List Field → Type 0) → List Field → Type 0) → Joins own
    → Joins (λ others. NextField name R (own others))
next_joins name R own joins others [] more is next = absurd is
next_joins name R own joins others (f ∷ fs) more is next = (is.0, is.1, joins others fs more is.2 next)

pub optional_joins : (name : Text) (R : ℕ → Type 0) (own : (List Field → Type 0) → List Field → Type 0) → Joins own
    → Joins (λ others. NextOptional name R (own others))
optional_joins name R own joins others [] more is next = absurd is
optional_joins name R own joins others (f ∷ fs) more is next = (is.0, is.1, is.2, joins others fs more is.3 next)

pub last_apart : (inside : List Field → Type 0) → NamesApart LastField inside
last_apart inside [] more is next = tt
last_apart inside (f ∷ fs) more is next = absurd is

pub next_apart : (name : Text) (R : ℕ → Type 0) (own inside : List Field → Type 0)
    → ((more : List Field) → inside more → AvoidsTag name more)
    → NamesApart own inside → NamesApart (NextField name R own) inside
next_apart name R own inside avoids apart [] more is next = absurd is
next_apart name R own inside avoids apart (f ∷ fs) more is next =
    (subst (λ (t : Text). AvoidsTag t more) (sym is.0) (avoids more next), apart fs more is.2 next)

pub optional_apart : (name : Text) (R : ℕ → Type 0) (own inside : List Field → Type 0)
    → ((more : List Field) → inside more → AvoidsTag name more)
    → NamesApart own inside → NamesApart (NextOptional name R own) inside
optional_apart name R own inside avoids apart [] more is next = absurd is
optional_apart name R own inside avoids apart (f ∷ fs) more is next =
    (subst (λ (t : Text). AvoidsTag t more) (sym is.0) (avoids more next), apart fs more is.3 next)

-- own fields are sent first, and then those that are flattened
pub flattened_law : {reading : Patterns → Type 0} (rows : List Row) → IsChecked rows
    → (n count : ℕ) (own : (List Field → Type 0) → List Field → Type 0) (inside : List Field → Type 0)
    (w : Log → Log → Type 0) → HasFlattened rows n (own LastField) inside → Joins own → NamesApart (own LastField) inside
    → FieldsAgreeUnder reading rows (own inside) w → Gives (Struct count w) (MeansUnder reading rows n)
flattened_law {reading = reading} rows checked n count own inside w row joins apart agree =
    let fs = row.0 in
    let part = row.4 in
    let gs = part.0 in
    weaker (Struct count w) (IsObject (Matches reading rows (fs ++ gs))) (MeansUnder reading rows n)
    (struct_means reading rows checked n row.1 row.2.1 fs gs row.2.0 part.1 row.2.2 part.2 (apart fs gs row.3 part.3))
    (struct_gives count w (Matches reading rows (fs ++ gs)) (agree.agree (fs ++ gs) (joins inside fs gs row.3 part.3)))
